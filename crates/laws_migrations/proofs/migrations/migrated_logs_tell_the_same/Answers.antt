use Rattle.laws_migrations.proofs.Migrating.{migrated, tells_doubts, tells_records}
use Rattle.laws_migrations.proofs.migrations.migrated_logs_tell_the_same.Goals as goal

pub returns-clause-lawful : goal.returns-clause-lawful
returns-clause-lawful c = λ t records doubts some may apart. (migrated t records some doubts may apart).lawful

pub returns-clause-records : goal.returns-clause-records
returns-clause-records c = λ t records doubts some may apart. tells_records t records some doubts may apart

pub returns-clause-doubts : goal.returns-clause-doubts
returns-clause-doubts c = λ t records doubts some may apart. tells_doubts t records some doubts may apart
