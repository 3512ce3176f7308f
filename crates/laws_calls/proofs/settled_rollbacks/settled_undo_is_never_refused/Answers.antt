use Rattle.laws_calls.proofs.SettledRollbacks.{no_rollback_waits, settled_abort_stops, settled_undo_has_room}
use Rattle.laws_calls.proofs.settled_rollbacks.settled_undo_is_never_refused.Goals as goal

pub returns-clause-room : goal.returns-clause-room
returns-clause-room d = settled_undo_has_room

pub returns-clause-abort : goal.returns-clause-abort
returns-clause-abort d = settled_abort_stops

pub returns-clause-never_waits : goal.returns-clause-never_waits
returns-clause-never_waits d o found es s w at k there is = no_rollback_waits o found es s w k there at is
