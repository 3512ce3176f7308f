use Rattle.shore_shared.proofs.HeldManagers.{locks, records, sound}
use Rattle.shore_shared.proofs.laws.what_is_held_is_a_manager.Goals as goal

pub returns-clause-history : goal.returns-clause-history
returns-clause-history c d start cut kept core stage anchored trail h = sound cut kept core stage anchored trail h

pub returns-clause-locks : goal.returns-clause-locks
returns-clause-locks c d start cut kept core stage anchored trail h = locks cut kept core stage anchored trail h

pub returns-clause-records : goal.returns-clause-records
returns-clause-records c d start cut kept core stage anchored trail h = records cut kept core stage anchored trail h
