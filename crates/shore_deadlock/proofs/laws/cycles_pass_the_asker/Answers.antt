use Rattle.shore_deadlock.proofs.LawLemmas.{asker_on_each}
use Rattle.shore_deadlock.proofs.laws.cycles_pass_the_asker.Goals as goal

pub returns : goal.returns
returns c = asker_on_each
