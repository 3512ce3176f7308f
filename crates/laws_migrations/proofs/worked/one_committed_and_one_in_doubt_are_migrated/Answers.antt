use Rattle.laws_migrations.proofs.WorkedMigration.{is_read}
use Rattle.laws_migrations.proofs.worked.one_committed_and_one_in_doubt_are_migrated.Goals as goal

pub returns-clause-read : goal.returns-clause-read
returns-clause-read c = is_read
