use Rattle.laws_calls.proofs.WrongRollbacks.{abort_has_savepoint, abort_must_not, abort_stops, resolve_has_room, undo_has_room}
use Rattle.laws_calls.proofs.rollbacks.undo_is_never_refused.Goals as goal

pub returns-clause-room : goal.returns-clause-room
returns-clause-room d = undo_has_room

pub returns-clause-abort : goal.returns-clause-abort
returns-clause-abort d = abort_stops

pub returns-clause-must_abort : goal.returns-clause-must_abort
returns-clause-must_abort d = abort_must_not

pub returns-clause-no_savepoint : goal.returns-clause-no_savepoint
returns-clause-no_savepoint d = abort_has_savepoint

pub returns-clause-resolve : goal.returns-clause-resolve
returns-clause-resolve d = resolve_has_room
