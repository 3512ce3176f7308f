use Rattle.shore_world.proofs.PromiseLemmas.{in_harmony, on_no_cycle}
use Rattle.shore_world.proofs.promises.locks.locks_are_in_harmony.Goals as goal

pub returns-clause-held : goal.returns-clause-held
returns-clause-held c d w o es ws k = in_harmony w o es ws k

pub returns-clause-no_cycle : goal.returns-clause-no_cycle
returns-clause-no_cycle c d w o es ws k = on_no_cycle w o es ws k
