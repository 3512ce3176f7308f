use Rattle.shore_cycles.proofs.VictimLemmas.{still_quiet}
use Rattle.shore_deadlock.proofs.laws.victims_make_nobody_wait.Goals as goal

pub returns : goal.returns
returns c = λ rs vs u. still_quiet vs rs u
