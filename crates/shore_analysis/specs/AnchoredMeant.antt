-- What is asked of kept records besides, behind an anchor. The anchored checkpoint's End lists who had not ended as the checkpoint began, so whoever it lists by a
-- record that is cut off has to have ended since, by a record that is kept. Of the End of another checkpoint this is not asked: its begin may be cut off, and then so
-- may be the end of one that it lists.
use Rattle.std.specs.Prelude.{◌≡◌, ◌<◌, ◌+◌, ◌-◌, ℕ, List, true, None, Some, All, IsSomeAnd, slice_get, take}
use Rattle.shore_types.specs.declared.layout.Geometry.{Geometry}
use Rattle.shore_model.specs.declared.log_records.LogRecord.{LogRecord}
use Rattle.shore_model.specs.declared.log_records.LogTxn.{LogTxn}
use Rattle.shore_model.specs.Logs.{is_over}
use Rattle.laws_checkpoints.specs.Checkpoints.{Checkpoint, end_among, end_in}
use Rattle.shore_analysis.specs.KeptMeant.{MayBeKept, names_cut_off}

-- the record at this place is the first End of the checkpoint, and says this
pub record IsAnchoredEnd (checkpoint : ℕ) (kept : List LogRecord) (n : ℕ) (r : LogRecord) (c : Checkpoint) : Type 0 where
  pub its : end_in checkpoint r.payload ≡ Some c
  pub first : end_among checkpoint (take n kept) ≡ None

-- if a record of the entry's transaction is cut off, one that is kept ends it
abbrev pub HasEndedSince : ℕ → List LogRecord → LogTxn → Type 0
HasEndedSince cut kept e = names_cut_off cut e ≡ true → is_over e.txn kept ≡ true

-- ---- the log

-- the kept record at this place, given all
pub record MayBeAnchored (g : Geometry) (cut checkpoint : ℕ) (kept : List LogRecord) (n : ℕ) (r : LogRecord) : Type 0 where
  pub meant : MayBeKept g cut kept n r
  pub since : (c : Checkpoint) → IsAnchoredEnd checkpoint kept n r c → All (HasEndedSince cut kept) c.txns

abbrev pub AreMeantAnchored : Geometry → ℕ → ℕ → List LogRecord → Type 0
AreMeantAnchored g cut checkpoint kept = (n : ℕ) (r : LogRecord) → slice_get kept n ≡ Some r → MayBeAnchored g cut checkpoint kept n r

-- the record of this number is the first that may not be there
pub record IsFirstUnmeantAnchored (g : Geometry) (cut checkpoint : ℕ) (kept : List LogRecord) (number : ℕ) : Type 0 where
  pub behind : cut < number
  pub before : (n : ℕ) (r : LogRecord) → cut + 1 + n < number → slice_get kept n ≡ Some r → MayBeAnchored g cut checkpoint kept n r
  pub here : IsSomeAnd (slice_get kept (number - (cut + 1))) (λ r. MayBeAnchored g cut checkpoint kept (number - (cut + 1)) r → ⊥)
