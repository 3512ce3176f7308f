-- How many syncs were made of a device, and a call that makes one.
use Rattle.std.specs.Prelude.{◌≡◌, ℕ, ◌+◌, List, [], ◌∷◌, Result, MatchResult}
use Rattle.shore_disk.specs.Device.{Call, DeviceHistory, synced, wrote}

abbrev pub syncs_in : List Call → ℕ
syncs_in [] = 0
syncs_in (wrote at bytes ∷ older) = syncs_in older
syncs_in (synced ∷ older) = syncs_in older + 1

abbrev pub syncs_of : DeviceHistory → ℕ
syncs_of h = syncs_in h.calls

-- one sync was made, or at an error none
abbrev pub SyncsOnce : {T E : Type 0} → Result T E → DeviceHistory → DeviceHistory → Type 0
SyncsOnce result old new = MatchResult result (λ _. syncs_of new ≡ syncs_of old + 1) (λ _. syncs_of new ≡ syncs_of old)
