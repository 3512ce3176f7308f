-- A write makes no sync, and a sync one.
use Rattle.std.proofs.Common.{◌≡◌, ◌⊎◌, ◌+◌, inl, inr, ℕ, List, Result, Ok, Err, IsErrAnd, refl, sym, ap, subst, ◌∙◌}
use Rattle.shore_disk.specs.Device.{DeviceHistory, Syncs, Writes}
use Rattle.shore_dwrite.specs.Syncs.{SyncsOnce, syncs_of}

pub write_none : {E : Type 0} (at : ℕ) (bytes : List ℕ) (r : Result Unit E) (old new : DeviceHistory) → Writes at bytes r old new → syncs_of new ≡ syncs_of old
write_none at bytes (Ok u) old new is = ap syncs_of is
write_none at bytes (Err e) old new (inl same) = ap syncs_of same
write_none at bytes (Err e) old new (inr torn) = ap syncs_of torn.2

-- .. after calls that made none
pub sync_once : {E : Type 0} (r : Result Unit E) (old now new : DeviceHistory) → syncs_of now ≡ syncs_of old → Syncs r now new → SyncsOnce r old new
sync_once (Ok u) old now new none is = ap syncs_of is ∙ ap (λ n. n + 1) none
sync_once (Err e) old now new none is = ap syncs_of is ∙ none

-- a call that failed before its sync
pub failed_before : {T E : Type 0} (P : E → Type 0) (r : Result T E) (old new : DeviceHistory) → IsErrAnd r P → syncs_of new ≡ syncs_of old → SyncsOnce r old new
failed_before P (Ok t) old new is none = absurd is
failed_before P (Err e) old new is none = none
