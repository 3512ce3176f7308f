-- A restart behind an anchor as it goes: what a crash may leave of its two devices, from each moment to the next. The anchor stays.
use Rattle.std.specs.Prelude.{◌≡◌, ◌≤◌, ◌⊎◌, ℕ, List, [], ◌∷◌, length, take}
use Rattle.std.specs.List.{AllByRecursion}
use Rattle.shore_types.specs.declared.layout.Geometry.{Geometry}
use Rattle.shore_gate.specs.declared.anchors.Anchor.{Anchor}
use Rattle.shore_model.specs.declared.log_records.LogRecord.{LogRecord}
use Rattle.shore_disk.specs.Device.{DeviceHistory, LeavesOnly, may_leave}
use Rattle.shore_frames.specs.Frames.{GivesBehindFrom}
use Rattle.laws_lives.specs.Pages.{LoggedPages}
use Rattle.laws_lives.specs.Recovery.{RecoveryEvent, RecoveryState}
use Rattle.laws_lives.specs.Restarts.{RestartsTo}
use Rattle.laws_runs.specs.CheckpointedStates.{found_behind}
use Rattle.laws_runs.specs.CheckpointedStays.{LosesNoPower}
use Rattle.laws_images.specs.Moments.{Moment, ShowsLeft}
use Rattle.laws_images.specs.StandsBehind.{anchored_by, kept_behind}

-- an image of the log device: behind this front, from the anchor's tail on, the frames give what is kept of a prefix of the list, of this many records at least
abbrev pub GivesKeptOf : List ℕ → Anchor → ℕ → List LogRecord → List ℕ → Type 0
GivesKeptOf log_front anchor least rs image =
    (n : ℕ) × (least ≤ n) × (n ≤ length rs) × GivesBehindFrom log_front anchor.tail anchor.tail_place (kept_behind anchor (take n rs)) image

-- .. of the store's log, with all that is durable
abbrev pub GivesKeptPrefix : List ℕ → Anchor → RecoveryState → List ℕ → Type 0
GivesKeptPrefix log_front anchor s = GivesKeptOf log_front anchor s.durable s.log

module _ (g : Geometry) (log_front front : List ℕ) (anchor : Anchor) where
  -- a crash now leaves such a pair of images
  pub record IsCoveredBehind (m : Moment) : Type 0 where
    pub log : (c : List ℕ) → may_leave m.log c → GivesKeptPrefix log_front anchor m.store c
    pub volume : (c : List ℕ) → may_leave m.volume c → ShowsLeft g front m.store c

  -- Work of a restart leads from one store to the other, and one device at most was called on the way. A crash at any moment of it leaves a pair of images of
  -- the store before.
  pub record RestartGoesOnBehind (old new : Moment) : Type 0 where
    pub works : List RecoveryEvent
    pub work : RestartsTo old.store works new.store
    pub loses_none : AllByRecursion LosesNoPower works
    pub log : LeavesOnly old.log new.log (GivesKeptPrefix log_front anchor old.store)
    pub volume : LeavesOnly old.volume new.volume (ShowsLeft g front old.store)
    pub one : (new.log ≡ old.log) ⊎ (new.volume ≡ old.volume)

  -- from the first moment to the last, through these
  abbrev pub PathBehind : Moment → List Moment → Moment → Type 0
  PathBehind first [] last = (last ≡ first) × IsCoveredBehind first
  PathBehind first (next ∷ later) last = RestartGoesOnBehind first next × PathBehind next later last

-- an open begins: redo begins where the anchored checkpoint says
abbrev pub begun_behind : DeviceHistory → DeviceHistory → Anchor → List LogRecord → LoggedPages → Moment
begun_behind log volume anchor rs pages = record { log = log; volume = volume; store = (found_behind (anchored_by anchor) rs pages).store }
