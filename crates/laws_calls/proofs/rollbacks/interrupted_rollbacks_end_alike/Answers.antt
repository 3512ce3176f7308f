use Rattle.laws_calls.proofs.AlikeEnds.{abort_alike, back_alike, resolve_alike}
use Rattle.laws_calls.proofs.Sessions.{above_none}
use Rattle.laws_calls.proofs.rollbacks.interrupted_rollbacks_end_alike.Goals as goal

pub returns-clause-abort : goal.returns-clause-abort
returns-clause-abort d o found es s a kept undone k mem some is = abort_alike s a kept undone is (above_none k a mem) (k.log.undo_logged a mem) some

pub returns-clause-back_to : goal.returns-clause-back_to
returns-clause-back_to d s a kept undone n is less least = back_alike s a kept undone is n less least

pub returns-clause-resolve : goal.returns-clause-resolve
returns-clause-resolve d s a kept undone is = resolve_alike s a kept undone is
