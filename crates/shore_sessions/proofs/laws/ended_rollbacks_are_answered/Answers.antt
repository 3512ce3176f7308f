use Rattle.shore_sessions.proofs.ResolveWaits.{control_told}
use Rattle.shore_sessions.proofs.laws.ended_rollbacks_are_answered.Goals as goal

pub returns : goal.returns
returns c = control_told
