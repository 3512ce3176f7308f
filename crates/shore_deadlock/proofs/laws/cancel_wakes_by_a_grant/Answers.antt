use Rattle.shore_deadlock.proofs.Wakings.{woken_cancel}
use Rattle.shore_deadlock.proofs.laws.cancel_wakes_by_a_grant.Goals as goal

pub returns : goal.returns
returns c = woken_cancel
