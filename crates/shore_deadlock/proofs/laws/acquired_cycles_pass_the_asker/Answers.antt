use Rattle.shore_locks.proofs.Tables.{fit_of}
use Rattle.shore_deadlock.proofs.AcquireLemmas.{acquire_closes}
use Rattle.shore_deadlock.proofs.laws.acquired_cycles_pass_the_asker.Goals as goal

pub returns : goal.returns
returns c = λ k table t target mode orderly quiet none. (acquire_closes k table t target mode (fit_of table.requests orderly) quiet none).each
