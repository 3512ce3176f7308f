use Rattle.shore_deadlock.proofs.Lockings.{gentle_victims}
use Rattle.shore_deadlock.proofs.laws.victims_keep_intentions.Goals as goal

pub returns : goal.returns
returns c = λ rs vs orderly. (gentle_victims 0 vs rs orderly).rooted
