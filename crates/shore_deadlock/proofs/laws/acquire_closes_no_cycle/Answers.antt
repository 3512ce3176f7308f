use Rattle.shore_locks.proofs.Tables.{fit_of}
use Rattle.shore_deadlock.proofs.AcquireLemmas.{acquire_closes}
use Rattle.shore_deadlock.proofs.laws.acquire_closes_no_cycle.Goals as goal

pub returns : goal.returns
returns c = λ k table t target mode orderly quiet none never. (acquire_closes k table t target mode (fit_of table.requests orderly) quiet none).free never
