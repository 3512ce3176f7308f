use Rattle.shore_deadlock.proofs.Wakings.{woken_release}
use Rattle.shore_deadlock.proofs.laws.release_wakes_by_a_grant.Goals as goal

pub returns : goal.returns
returns c = woken_release
