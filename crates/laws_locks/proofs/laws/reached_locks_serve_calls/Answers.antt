use Rattle.shore_types.specs.declared.locking.Granule.TheVariants.{Record}
use Rattle.shore_types.specs.declared.locking.Mode.TheVariants.{EX}
use Rattle.laws_locks.proofs.Held.{locked_of, served_by}
use Rattle.laws_locks.proofs.laws.reached_locks_serve_calls.Goals as goal

pub returns-clause-calls : goal.returns-clause-calls
returns-clause-calls c rs t made answer lock is other reached = served_by rs t made answer lock is other (locked_of rs t lock.granule lock.mode reached)

pub returns-clause-insert : goal.returns-clause-insert
returns-clause-insert c rs t store bytes id reached = locked_of rs t (Record id) EX reached
