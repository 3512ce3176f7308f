-- A log device that is ready for a force and for a move of its anchor.
use Rattle.std.specs.Prelude.{◌≡◌, ◌⊎◌, ℕ, List, None}
use Rattle.shore_disk.specs.declared.device.Disk.{Ghosts}
use Rattle.shore_log.specs.declared.device.LogDev.{LogDev}
use Rattle.shore_log.specs.Settled.{IsSettledFrom, IsStagedFrom, anchor_of}
use Rattle.shore_model.specs.declared.log_records.LogRecord.{LogRecord}

module _ {L : Type 0} {G : Ghosts L} where
  -- it is settled from its anchor's tail on, behind this front, or a frame of its waiting records is staged there
  abbrev pub IsReadyLog : LogDev L G → List ℕ → Type 0
  IsReadyLog log front =
      (IsSettledFrom (anchor_of log).tail (anchor_of log).tail_place log front × (log.staged ≡ None))
      ⊎ ((group : List LogRecord) × IsStagedFrom (anchor_of log).tail (anchor_of log).tail_place log front group)
