-- A log buffer that was told the same knows still what the log device has room for, and what it keeps aside is enough as it was.
use Rattle.std.proofs.Common.{◌≡◌, ◌+◌, ◌∙◌, length, sym, subst}
use Rattle.std.specs.Prelude.{vec_capacity, vec_len}
use Rattle.shore_check.specs.declared.stage.Stage.{Stage}
use Rattle.shore_core.specs.Checkpointing.{KeepsFor}
use Rattle.shore_disk.specs.declared.device.Disk.{Ghosts}
use Rattle.shore_log.specs.Settled.{KnowsRoom, waiting}
use Rattle.shore_log.specs.Told.{Covers, SaysAlike}
use Rattle.shore_log.specs.declared.device.LogDev.{LogDev}
use Rattle.shore_log.specs.declared.tail.Known.{Known}
use Rattle.shore_log.specs.declared.tail.Told.{Told}

pub knows_as : {L : Type 0} {G : Ghosts L} (log : LogDev L G) (old new : Told) → new ≡ old → KnowsRoom log old → KnowsRoom log new
knows_as log old new same knows = subst (KnowsRoom log) (sym same) knows

pub knows_alike : {L : Type 0} {G : Ghosts L} (log : LogDev L G) (old new : Told) → SaysAlike new old → KnowsRoom log old → KnowsRoom log new
knows_alike log old new same knows = (
  subst (λ (k : Known). Covers k (vec_len log.frames + length (waiting log)) (vec_capacity log.frames)) (sym same.0) knows.0,
  subst (λ (k : Known). Covers k (vec_len log.bytes) (vec_capacity log.bytes)) (sym same.1) knows.1,
)

pub keeps_as : (stage : Stage) (old new : Told) → new.aside ≡ old.aside → KeepsFor stage old → KeepsFor stage new
keeps_as stage old new same keeps = same ∙ keeps
