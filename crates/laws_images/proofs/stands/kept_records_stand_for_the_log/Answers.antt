use Rattle.std.proofs.Common.{length, subst, arith, inl, refl}
use Rattle.std.proofs.Math.Seq.{take-length}
use Rattle.laws_checkpoints.proofs.Crashes.{left_in_order}
use Rattle.laws_checkpoints.specs.StoresInOrder.{IsLeftByCrash}
use Rattle.laws_runs.specs.CheckpointedStates.{found_behind}
use Rattle.laws_images.specs.StandsBehind.{anchored_by}
use Rattle.laws_images.proofs.stands.kept_records_stand_for_the_log.Goals as goal

pub returns : goal.returns
returns c g log_bytes volume_bytes anchor rs pages log_image volume_image h = (
  h.log,
  subst (λ l. IsLeftByCrash (anchored_by anchor) l pages) (take-length rs)
      (left_in_order (found_behind (anchored_by anchor) rs pages) h.opened.in_order (length rs) pages (omega arith) (omega arith) (λ p. inl refl)),
)
