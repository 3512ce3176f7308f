use Rattle.laws_migrations.proofs.WorkedMigration.{into_higher, no_lower, not_fewer, not_without}
use Rattle.laws_migrations.proofs.worked.wrong_moves_are_none.Goals as goal

pub returns-clause-lower : goal.returns-clause-lower
returns-clause-lower c = λ g h two one into. no_lower g.version h.version two one into.version

pub returns-clause-fewer : goal.returns-clause-fewer
returns-clause-fewer c = not_fewer

pub returns-clause-no_store : goal.returns-clause-no_store
returns-clause-no_store c = not_without

pub returns-clause-higher : goal.returns-clause-higher
returns-clause-higher c = into_higher
