use Rattle.laws_migrations.proofs.Reading.{all_migratable, each_apart}
use Rattle.laws_migrations.proofs.Telling.{tells_the_same}
use Rattle.laws_migrations.proofs.migrations.migrations_keep_what_is_told.Goals as goal

pub returns-clause-may : goal.returns-clause-may
returns-clause-may c = λ old t doubts lawful read. (all_migratable old lawful t doubts read doubts (λ d a. a), each_apart old lawful t doubts read)

pub returns-clause-told : goal.returns-clause-told
returns-clause-told c = λ old t doubts txns pages lawful none read table as_of all_done. tells_the_same old lawful none t doubts read txns table pages as_of all_done
