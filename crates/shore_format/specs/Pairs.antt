-- What a format leaves on two devices, in the end and at each moment of it.
use Rattle.std.specs.Prelude.{◌≡◌, ◌⊎◌, ℕ, List, [], ◌∷◌}
use Rattle.shore_types.specs.declared.layout.Geometry.{Geometry}
use Rattle.shore_disk.specs.Device.{DeviceHistory, IsLater, TornFrom, left_since, may_leave, moment, size}
use Rattle.shore_format.specs.Fronts.{IsShut, LogStandsFor}
use Rattle.shore_format.specs.Volumes.{IsEmptyVolume}

-- What a format leaves: the log of no record, and an empty volume.
pub record AreFormatted (g : Geometry) (log_bytes volume_bytes : ℕ) (log_image volume_image : List ℕ) : Type 0 where
  pub log : LogStandsFor g log_bytes [] log_image
  pub volume : IsEmptyVolume g volume_bytes volume_image

-- ---- from moment to moment

-- the calls of both devices so far
pub record FormatMoment : Type 0 where
  pub log : DeviceHistory
  pub volume : DeviceHistory

-- A pair of images that a crash within a format leaves. The gate of the log's label is closed, so that nothing opens; or both are formatted; or they are
-- what a crash could have left of both before, but for that gate.
abbrev pub PairLeftByFormat : Geometry → FormatMoment → List ℕ → List ℕ → Type 0
PairLeftByFormat g old log_image volume_image =
    IsShut log_image
    ⊎ AreFormatted g (size old.log) (size old.volume) log_image volume_image
    ⊎ (TornFrom 0 1 old.log log_image × may_leave old.volume volume_image)

module _ (P : List ℕ → List ℕ → Type 0) where
  -- From one moment to a later one at most one device was called, and a crash at any moment of it leaves a pair of images that has P.
  pub record FormatGoesOn (old new : FormatMoment) : Type 0 where
    pub later : IsLater old.log new.log × IsLater old.volume new.volume
    pub one : (new.log ≡ old.log) ⊎ (new.volume ≡ old.volume)
    pub each : (log_image volume_image : List ℕ) → left_since new.log (moment old.log) log_image → left_since new.volume (moment old.volume) volume_image
        → P log_image volume_image

  -- from the first moment to the last, through these
  abbrev pub FormatPath : FormatMoment → List FormatMoment → FormatMoment → Type 0
  FormatPath first [] last = (last ≡ first) × ((log_image volume_image : List ℕ) → may_leave first.log log_image → may_leave first.volume volume_image → P log_image volume_image)
  FormatPath first (next ∷ later) last = FormatGoesOn first next × FormatPath next later last

-- A format has come from one moment to another, and a crash at each moment on the way leaves such a pair.
pub record FormatWay (g : Geometry) (first last : FormatMoment) : Type 0 where
  pub moments : List FormatMoment
  pub path : FormatPath (PairLeftByFormat g first) first moments last
