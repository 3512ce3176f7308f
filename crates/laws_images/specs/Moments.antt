-- A restart as it goes: what a crash may leave of its two devices, from each moment to the next.
use Rattle.std.specs.Prelude.{◌≡◌, ◌≤◌, ◌⊎◌, ℕ, List, [], ◌∷◌, length, take}
use Rattle.shore_types.specs.declared.layout.Geometry.{Geometry}
use Rattle.shore_model.specs.declared.log_records.LogRecord.{LogRecord}
use Rattle.shore_disk.specs.Device.{DeviceHistory, LeavesOnly, left_since, may_leave, moment}
use Rattle.shore_frames.specs.Frames.{GivesBehind}
use Rattle.laws_lives.specs.Pages.{LoggedPages}
use Rattle.laws_lives.specs.Recovery.{CrashMayLeave, RecoveryEvent, RecoveryState}
use Rattle.laws_lives.specs.Restarts.{RestartsTo}
use Rattle.laws_heaps.specs.LoggedHeaps.{LeavesStore}

-- the calls of both devices so far, and the store over plain data that they stand for
pub record Moment : Type 0 where
  pub log : DeviceHistory
  pub volume : DeviceHistory
  pub store : RecoveryState

-- an image of the log device: behind this front the frames give a prefix of the list, of this many records at least
abbrev pub GivesPrefixOf : List ℕ → ℕ → List LogRecord → List ℕ → Type 0
GivesPrefixOf log_front least rs image = (n : ℕ) × (least ≤ n) × (n ≤ length rs) × GivesBehind log_front (take n rs) image

-- .. of the store's log, with all that is durable
abbrev pub GivesPrefix : List ℕ → RecoveryState → List ℕ → Type 0
GivesPrefix log_front s = GivesPrefixOf log_front s.durable s.log

-- an image of the volume: behind this front it shows pages that a crash may leave of the store
abbrev pub ShowsLeft : Geometry → List ℕ → RecoveryState → List ℕ → Type 0
ShowsLeft g front s image = (left : LoggedPages) × CrashMayLeave s left × LeavesStore s.log g front left image

module _ (g : Geometry) (log_front front : List ℕ) where
  -- a crash now leaves such a pair of images
  pub record IsCovered (m : Moment) : Type 0 where
    pub log : (c : List ℕ) → may_leave m.log c → GivesPrefix log_front m.store c
    pub volume : (c : List ℕ) → may_leave m.volume c → ShowsLeft g front m.store c

  -- Work of a restart leads from one store to the other, and one device at most was called on the way. A crash at any moment of it leaves a
  -- pair of images of the store before: what a crash may make of its log and of its pages.
  pub record RestartGoesOn (old new : Moment) : Type 0 where
    pub works : List RecoveryEvent
    pub work : RestartsTo old.store works new.store
    pub log : LeavesOnly old.log new.log (GivesPrefix log_front old.store)
    pub volume : LeavesOnly old.volume new.volume (ShowsLeft g front old.store)
    pub one : (new.log ≡ old.log) ⊎ (new.volume ≡ old.volume)

  -- from the first moment to the last, through these
  abbrev pub Path : Moment → List Moment → Moment → Type 0
  Path first [] last = (last ≡ first) × IsCovered first
  Path first (next ∷ later) last = RestartGoesOn first next × Path next later last

-- Power is lost at some moment from one to the other, and leaves these images.
abbrev pub IsLostBetween : Moment → Moment → List ℕ → List ℕ → Type 0
IsLostBetween old new log_image volume_image = left_since new.log (moment old.log) log_image × left_since new.volume (moment old.volume) volume_image

-- .. at some moment on the way
abbrev pub IsLostAlong : Moment → List Moment → List ℕ → List ℕ → Type 0
IsLostAlong first [] log_image volume_image = IsLostBetween first first log_image volume_image
IsLostAlong first (next ∷ later) log_image volume_image =
    IsLostBetween first next log_image volume_image ⊎ IsLostAlong next later log_image volume_image
