use Rattle.std.proofs.Common.{sym, subst}
use Rattle.shore_types.specs.declared.layout.TheConstants.{LOG_FRONT_BYTES}
use Rattle.std.specs.Prelude.{◌-◌}
use Rattle.laws_lives.specs.LogTells.{records_committed}
use Rattle.laws_runs.specs.CheckpointedStates.{MayBeOpenedBehind}
use Rattle.laws_migrations.specs.MigratedLogs.{migrated_log}
use Rattle.laws_migrations.proofs.MigratedRooms.{roomy}
use Rattle.laws_migrations.proofs.Telling.{may_be_opened, tells_the_same}
use Rattle.laws_migrations.proofs.migrations.written_pairs_stand.Goals as goal

pub returns : goal.returns
returns c = λ g h old t doubts txns pages log_bytes volume_bytes log_image volume_image into lawful none stand placed read low table as_of all_done fits locks shows.
    let ring = log_bytes - LOG_FRONT_BYTES in
    let room = roomy g h into old lawful none placed t doubts read low txns table pages as_of all_done ring fits locks in
    let opened = may_be_opened old lawful none t doubts read txns table pages as_of all_done h ring stand room fits.short in (
      shows.anchor,
      migrated_log t (records_committed old) doubts txns,
      pages,
      tells_the_same old lawful none t doubts read txns table pages as_of all_done,
      record {
        front = shows.front;
        log = shows.log;
        volume = shows.volume;
        opened = subst (λ a. MayBeOpenedBehind h ring a (migrated_log t (records_committed old) doubts txns) pages) (sym shows.anchored) opened;
      },
    )
