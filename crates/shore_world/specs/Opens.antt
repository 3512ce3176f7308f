-- What an open says of its way, if what is read of its devices stands for a log: past both barriers, and from moment to moment, by steps of a restart, to
-- the world that it answers.
use Rattle.std.specs.Prelude.{◌≡◌, ◌⊎◌, ◌-◌, List, [], ◌∷◌, ℕ, Result, Ok, Err, length, take}
use Rattle.shore_types.specs.declared.faults.Fault.{Fault}
use Rattle.shore_types.specs.declared.layout.Geometry.{Geometry}
use Rattle.shore_types.specs.declared.layout.TheConstants.{LOG_FRONT_BYTES}
use Rattle.shore_types.specs.Versions.{slot_limit}
use Rattle.shore_disk.specs.Device.{DeviceHistory, may_leave, seen, size}
use Rattle.shore_disk.specs.declared.device.Disk.{Ghosts}
use Rattle.shore_gate.specs.declared.anchors.Anchor.{Anchor}
use Rattle.shore_fronts.specs.Barriers.{IsBeforeBarrier, IsBehindBarrier}
use Rattle.shore_dwrite.specs.declared.places.TheConstants.{GATE_AT}
use Rattle.shore_model.specs.declared.histories.Opening.{Opening}
use Rattle.shore_model.specs.declared.log_records.LogRecord.{LogRecord}
use Rattle.laws_lives.specs.Doubts.{IsOpeningOf}
use Rattle.laws_lives.specs.Pages.{LoggedPages}
use Rattle.laws_lives.specs.Undo.{HasNoLosers}
use Rattle.laws_lives.specs.Recovery.{RecoveryEvent}
use Rattle.laws_checkpoints.specs.Checkpoints.{cut_of}
use Rattle.laws_checkpoints.specs.CheckpointedStores.{CheckpointedStore}
use Rattle.laws_runs.specs.CheckpointSteps.{log_limit}
use Rattle.laws_runs.specs.CheckpointedStates.{IsOpenedBehind, found_behind}
use Rattle.laws_runs.specs.CheckpointedStays.{RestartsBehind}
use Rattle.laws_runs.specs.StoredRuns.{IsOpenedOver}
use Rattle.laws_calls.specs.States.{State}
use Rattle.laws_images.specs.Moments.{IsLostAlong, Moment}
use Rattle.laws_images.specs.MomentsBehind.{PathBehind, begun_behind}
use Rattle.laws_images.specs.StandsBehind.{StandsForBehind, anchored_by, kept_behind}
use Rattle.shore_analysis.specs.Padded.{padded}
use Rattle.shore_core.specs.Cores.{control_of}
use Rattle.shore_restart.specs.GivenBack.{HasDoubtsBack}
use Rattle.shore_restart.specs.Turns.{IsUndoneSoFar}
use Rattle.shore_world.specs.declared.world.World.{World}
use Rattle.shore_world.specs.Crashes.{IsEndedBetween}
use Rattle.shore_world.specs.Worlds.{IsAt, geometry_in, history_in, volume_history_in}

-- ---- the way

-- From devices with these calls behind them, of which a log is read behind an anchor, and pages: both pass their barriers, and from there it goes by steps of a restart.
pub record OpenWay (g : Geometry) (anchor : Anchor) (log volume : DeviceHistory) (rs : List LogRecord) (pages : LoggedPages) : Type 0 where
  pub log_behind : DeviceHistory
  pub volume_behind : DeviceHistory
  pub barriers : IsBehindBarrier log log_behind × IsBehindBarrier volume volume_behind
  pub moments : List Moment
  pub last : Moment
  pub path : PathBehind g (take LOG_FRONT_BYTES (seen log)) (take GATE_AT (seen volume)) anchor (begun_behind log_behind volume_behind anchor rs pages) moments last

-- What a crash may leave of two devices at some moment of an open of them, or behind one that was refused, if what is read of them stands for a log and
-- pages: what they could have left before the call, until both barriers have answered; and from then on what is lost on the way.
abbrev pub LeftByOpen : DeviceHistory → DeviceHistory → List ℕ → List ℕ → Type 0
LeftByOpen log volume log_left volume_left =
    (g : Geometry) (anchor : Anchor) (rs : List LogRecord) (pages : LoggedPages) → StandsForBehind g (size log) (size volume) anchor rs pages (seen log) (seen volume)
    → (may_leave log log_left × may_leave volume volume_left)
    ⊎ ((way : OpenWay g anchor log volume rs pages) × IsLostAlong (begun_behind way.log_behind way.volume_behind anchor rs pages) way.moments log_left volume_left)

-- The process of an open ends on the way between two of these moments, with no loss of power.
abbrev pub IsEndedAlong : Moment → List Moment → DeviceHistory → DeviceHistory → Type 0
IsEndedAlong first [] log volume = IsEndedBetween first.log first.log log × IsEndedBetween first.volume first.volume volume
IsEndedAlong first (next ∷ later) log volume =
    (IsEndedBetween first.log next.log log × IsEndedBetween first.volume next.volume volume) ⊎ IsEndedAlong next later log volume

-- .. before both barriers have answered, or on the way from there, if what is read of the devices stands for a log and pages
abbrev pub AreEndedInOpen : DeviceHistory → DeviceHistory → DeviceHistory → DeviceHistory → Type 0
AreEndedInOpen log volume log_now volume_now =
    (g : Geometry) (anchor : Anchor) (rs : List LogRecord) (pages : LoggedPages) → StandsForBehind g (size log) (size volume) anchor rs pages (seen log) (seen volume)
    → ((log_later : DeviceHistory) × (volume_later : DeviceHistory) × IsBeforeBarrier log log_later × IsBeforeBarrier volume volume_later
    × IsEndedBetween log log_later log_now × IsEndedBetween volume volume_later volume_now)
    ⊎ ((way : OpenWay g anchor log volume rs pages) × IsEndedAlong (begun_behind way.log_behind way.volume_behind anchor rs pages) way.moments log_now volume_now)

-- ---- its end

-- what is kept of a log behind the anchor, with a record of nobody in the place of each that is cut off: so each has its number
abbrev pub log_kept : Anchor → List LogRecord → List LogRecord
log_kept anchor rs = padded (cut_of (anchored_by anchor)) (kept_behind anchor rs)

-- The world is what a restart of this log has made of its last moment: all is redone, nobody is left to be undone, and it opens as the log that was found
-- says. Those in doubt whom that has are under way, each with its undo list and its name, and in no session; they hold their locks, nobody has another or waits for
-- one, and no call waits. There may be as many requests as the geometry says. Its store has the recovery numbers that the restart has noted, and the anchor is the one that
-- was found.
pub record IsOpenedAt {L V : Type 0} {G : Ghosts L} {H : Ghosts V} (w : World L V G H) (g : Geometry) (anchor : Anchor) (log_front front : List ℕ) (found : List LogRecord) (pages : LoggedPages) (last : Moment) : Type 0 where
  pub geometry : geometry_in w ≡ g
  pub histories : (history_in w ≡ last.log) × (volume_history_in w ≡ last.volume)
  pub redone : last.store.redone ≡ length last.store.log
  pub no_losers : HasNoLosers last.store.log
  pub first : State
  pub disk : ℕ → List ℕ
  pub works : List RecoveryEvent
  pub ready : CheckpointedStore
  pub restarts : RestartsBehind (found_behind (anchored_by anchor) found pages) works ready
  pub store : ready.store ≡ last.store
  pub at : IsAt w log_front front disk first ready
  pub over : (o : Opening) → IsOpeningOf found o → o.slots ≡ slot_limit g.version → IsOpenedOver o last.store first
  pub from : IsOpenedBehind g (log_limit (size last.log - LOG_FRONT_BYTES) (cut_of (anchored_by anchor)) last.store.log) (anchored_by anchor) last.store.log first
  pub doubts : HasDoubtsBack g.max_locks (log_kept anchor found) (control_of w.core)

-- The world is there at the end of the way, on which the losers have taken their turns in their order.
pub record HasOpened {L V : Type 0} {G : Ghosts L} {H : Ghosts V} (w : World L V G H) (g : Geometry) (anchor : Anchor) (log volume : DeviceHistory) (rs : List LogRecord) (pages : LoggedPages) : Type 0 where
  pub way : OpenWay g anchor log volume rs pages
  pub opened : IsOpenedAt w g anchor (take LOG_FRONT_BYTES (seen log)) (take GATE_AT (seen volume)) rs pages way.last
  pub undone : IsUndoneSoFar (log_kept anchor rs) (log_kept anchor way.last.store.log)

-- What an open comes to: a world at the end of its way; or it is refused, and hands the devices back before both barriers have answered, or from where its
-- way has led.
abbrev pub OpensAlong : {L V : Type 0} {G : Ghosts L} {H : Ghosts V} → Result (World L V G H) (Fault × L × V) → Geometry → Anchor → DeviceHistory → DeviceHistory → List LogRecord → LoggedPages → Type 0
OpensAlong (Ok w) g anchor log volume rs pages = HasOpened w g anchor log volume rs pages
OpensAlong {G = G} {H = H} (Err refused) g anchor log volume rs pages =
    (IsBeforeBarrier log (G.history refused.1) × IsBeforeBarrier volume (H.history refused.2))
    ⊎ ((way : OpenWay g anchor log volume rs pages) × (way.last.log ≡ G.history refused.1) × (way.last.volume ≡ H.history refused.2))
