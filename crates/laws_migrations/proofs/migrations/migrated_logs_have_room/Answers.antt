use Rattle.laws_migrations.proofs.MigratedRooms.{roomy}
use Rattle.laws_migrations.proofs.Telling.{may_be_opened}
use Rattle.laws_migrations.proofs.migrations.migrated_logs_have_room.Goals as goal

pub returns-clause-roomy : goal.returns-clause-roomy
returns-clause-roomy c = λ g h old t doubts txns pages ring_bytes into lawful none placed read low table as_of all_done fits locks.
    roomy g h into old lawful none placed t doubts read low txns table pages as_of all_done ring_bytes fits locks

pub returns-clause-opened : goal.returns-clause-opened
returns-clause-opened c = λ g h old t doubts txns pages ring_bytes into lawful none stand placed read low table as_of all_done fits locks.
    may_be_opened old lawful none t doubts read txns table pages as_of all_done h ring_bytes stand
    (roomy g h into old lawful none placed t doubts read low txns table pages as_of all_done ring_bytes fits locks) fits.short
