use Rattle.std.proofs.Common.{◌≡◌, ◌-◌, subst, arith}
use Rattle.shore_types.specs.declared.layout.TheConstants.{LOG_FRONT_BYTES}
use Rattle.laws_checkpoints.specs.Checkpoints.{cut_of, not_anchored}
use Rattle.laws_runs.specs.CheckpointSteps.{log_limit}
use Rattle.laws_runs.specs.SoundStores.{MayBeOpened}
use Rattle.laws_images.proofs.stands.first_anchors_cut_nothing.Goals as goal

pub returns : goal.returns
returns c g log_bytes volume_bytes rs pages log_image volume_image h =
    let nothing : log_limit (log_bytes - LOG_FRONT_BYTES) (cut_of not_anchored) rs ≡ log_bytes - LOG_FRONT_BYTES = omega arith in
    record {
      log = record { front = record { label = h.front.label; slot = h.front.slot; anchor = h.front.counts }; log = h.log; long = h.front.long };
      volume = h.volume;
      opened = subst (λ limit. MayBeOpened g limit rs pages) nothing h.opened.opened;
    }
