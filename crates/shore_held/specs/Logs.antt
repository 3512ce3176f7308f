-- What is kept of the log device under its lock, and what contracts see of it.
use Rattle.std.specs.Prelude.{◌≡◌, ◌⊎◌, ◌+◌, ◌-◌, ◌≤◌, ◌<◌, ◌++◌, Bool, List, None, Option, Some, ℕ, drop, false, length, take, true}
use Rattle.std.specs.Global.{Vec}
use Rattle.shore_types.specs.declared.layout.Geometry.{Geometry}
use Rattle.shore_types.specs.declared.layout.TheConstants.{FRAME_SHARE, LOG_FRONT_BYTES}
use Rattle.shore_disk.specs.Device.{DeviceHistory, LeavesOnly, may_leave}
use Rattle.shore_disk.specs.declared.device.Disk.{Ghosts}
use Rattle.shore_logrec.specs.Text.{texts}
use Rattle.shore_frames.specs.Frames.{GivesBehindFrom, IsLongest}
use Rattle.shore_gate.specs.Anchor.{Counts}
use Rattle.shore_gate.specs.declared.anchors.Anchor.{Anchor}
use Rattle.shore_gate.specs.declared.anchors.Anchors.{Anchors}
use Rattle.shore_model.specs.declared.log_records.LogRecord.{LogRecord}
use Rattle.laws_checkpoints.specs.Checkpoints.{Anchored}
use Rattle.laws_images.specs.StandsBehind.{anchored_by}
use Rattle.shore_log.specs.declared.device.LogDev.{LogDev}
use Rattle.shore_log.specs.declared.device.Staged.{Staged}
use Rattle.shore_log.specs.Told.{aside_for}
use Rattle.shore_log.specs.declared.tail.Aside.{Aside}
use Rattle.shore_log.specs.declared.tail.Told.{Told}
use Rattle.shore_log.specs.Settled.{IsAnchored, IsLeftByMove, anchor_of, cut_of_log, next_anchor, records_of_log, stable}
use Rattle.shore_words.specs.declared.rule.Known.{Known}
use Rattle.shore_world.specs.Labels.{IsLogFront}
use Rattle.shore_world.specs.Ready.{IsReadyLog}
use Rattle.shore_held.specs.Comings.{HasAim}

pub record LogState : Type 0 where
  -- the anchor that counts, and its slot
  pub anchors : Anchors
  -- how many records of the log are cut off, those that are kept, of these the last ones, for which there was no memory yet, and the durable ones
  pub cut : ℕ
  pub list : List LogRecord
  pub waits : List LogRecord
  pub stable : List LogRecord
  -- how many of those behind the durable ones stand in a frame whose gate is shut; none if no frame is staged
  pub staged : ℕ
  -- what came through the queue, and what it knows to be sent: all that was when both ends last met
  pub got : List LogRecord
  pub met : List LogRecord
  -- the number that was told
  pub told : ℕ
  -- where a move of the anchor that has failed was to lead
  pub aim : ℕ × ℕ
  pub failed : Bool
  -- how many bytes of the ring the frames that are kept leave
  pub free : ℕ
  -- how many of those that wait for a force have no text there yet: they did not come through the queue
  pub textless : ℕ
  -- what the log buffer keeps aside that is handed out with the log device
  pub aside : Aside
  -- how many failures its device has told, and its calls
  pub faults : ℕ
  pub history : DeviceHistory

-- how many records a staged frame has
abbrev pub count_of : Option Staged → ℕ
count_of None = 0
count_of (Some frame) = frame.count

-- how many bytes are free between its head and its tail
abbrev pub free_of : {L : Type 0} {G : Ghosts L} → LogDev L G → ℕ
free_of log = log.tail.place + log.stream_bytes - log.head

-- how many of so many records that wait have no text there
abbrev pub textless_of : Option (Vec LogRecord) → ℕ → ℕ
textless_of None waiting = 0
textless_of (Some read) waiting = waiting

-- what is kept aside, as soon as that log buffer knows the log device
abbrev pub aside_of : Bool → Told → Aside
aside_of true told = told.aside
aside_of false told = aside_for 0 0

-- what it took in and is not durable: the next frames have that
abbrev pub unforced_in : LogState → List LogRecord
unforced_in s = drop (length s.stable) (take (length s.list - length s.waits) s.list)

-- There is no place for the frame of the longest list of these that one frame holds, with a byte behind it.
pub record HasNoPlace (s : LogState) : Type 0 where
  pub count : ℕ
  pub some : 1 ≤ count
  pub longest : IsLongest (unforced_in s) count
  pub full : s.free ≤ FRAME_SHARE + length (texts (take count (unforced_in s)))

-- the anchor that counts, as seats know it
abbrev pub known_in : LogState → Known
known_in s = record { checkpoint = s.anchors.anchor.checkpoint; tail = s.anchors.anchor.tail; aim = s.aim }

-- An image of the log device behind this front: a prefix of the records that it has taken in, with all that are durable.
abbrev pub GivesHeld : LogState → List ℕ → List ℕ → Type 0
GivesHeld s front image =
    (n : ℕ) × (length s.stable ≤ n) × (n + length s.waits ≤ length s.list) × GivesBehindFrom front s.anchors.anchor.tail s.anchors.anchor.tail_place (take n s.list) image

-- From this anchor the next one of a move that leads there: to that checkpoint, with a tail that is no lower than now and no higher than the record that is to be kept.
pub record IsNextOf (from : Anchors) (aim : ℕ × ℕ) (next : Anchor) : Type 0 where
  pub checkpoint : next.checkpoint ≡ aim.0
  pub rises : from.anchor.tail ≤ next.tail
  pub below : next.tail ≤ aim.1

-- .. or, once a move of the anchor has failed, an image that is left amid it: the anchor counts, or the next one
abbrev pub IsLeftOfHeld : LogState → List ℕ → List ℕ → Type 0
IsLeftOfHeld s front image =
    GivesHeld s front image ⊎ (HasAim s.aim × ((next : Anchor) × IsNextOf s.anchors s.aim next × IsLeftByMove s.anchors next front s.stable image))

-- Such is each image that a loss of power leaves at any moment of the calls that have led from there to these, behind a front in which its anchor counts.
abbrev pub LeavesHeld : Geometry → ℕ → LogState → DeviceHistory → Type 0
LeavesHeld g log_bytes s later =
    (front : List ℕ) × IsLogFront g log_bytes front × (length front ≡ LOG_FRONT_BYTES) × Counts front s.anchors.slot s.anchors.anchor × LeavesOnly s.history later (IsLeftOfHeld s front)

-- Stable is what a loss of power leaves in any case. A frame that is staged behind it does not count: an image gives the durable records, and none of that frame.
abbrev pub LeavesStable : Geometry → ℕ → LogState → DeviceHistory → Type 0
LeavesStable g log_bytes s later =
    (front : List ℕ) × IsLogFront g log_bytes front × (length front ≡ LOG_FRONT_BYTES) × Counts front s.anchors.slot s.anchors.anchor
    × LeavesOnly s.history later (GivesBehindFrom front s.anchors.anchor.tail s.anchors.anchor.tail_place s.stable)

-- At any moment of the calls that have led from the one history to the other a loss of power leaves what a move of the anchor leaves that leads there.
abbrev pub LeavesByMove : Geometry → ℕ → Anchors → List LogRecord → ℕ × ℕ → DeviceHistory → DeviceHistory → Type 0
LeavesByMove g log_bytes from rs aim old later =
    (front : List ℕ) × IsLogFront g log_bytes front × (length front ≡ LOG_FRONT_BYTES) × Counts front from.slot from.anchor × ((next : Anchor) × IsNextOf from aim next × LeavesOnly old later (IsLeftByMove from next front rs))

-- What is kept is what was kept when so many records were cut off, and what came through the queue since, without the first ones, which are cut off now.
pub record Follows (cut : ℕ) (before got : List LogRecord) (now : ℕ) (list : List LogRecord) : Type 0 where
  pub gone : List LogRecord
  pub parts : before ++ got ≡ gone ++ list
  pub cut_off : now ≡ cut + length gone

-- Whenever power is lost the frames behind the front give a prefix of the records with all that are durable, and the anchor counts; or a move of the anchor has failed,
-- which was to lead there, and the one that it made may count. As long as the device has not failed it is ready for a force and for a move, with a frame staged or without one.
pub record IsKept {L : Type 0} {G : Ghosts L} (g : Geometry) (log_bytes : ℕ) (log : LogDev L G) (failed : Bool) (aim : ℕ × ℕ) : Type 0 where
  pub front : List ℕ
  pub labelled : IsLogFront g log_bytes front
  pub images : (image : List ℕ) → may_leave (G.history log.device) image
      → ((n : ℕ) × (length (stable log) ≤ n) × (n ≤ length (records_of_log log)) × GivesBehindFrom front (anchor_of log).tail (anchor_of log).tail_place (take n (records_of_log log)) image)
      ⊎ ((cut_of_log log < aim.1) × IsLeftByMove log.anchors (next_anchor log aim.0 aim.1) front (stable log) image)
  pub anchored : IsAnchored log front
  pub ready : failed ≡ false → IsReadyLog log front

-- What both locks say together, where so much of this was sent of what was kept, so much is known to be durable, and this is the anchor: the log device has the first of
-- it, but for what is cut off, and the rest is on its way.
pub record AreMet (cut : ℕ) (kept sent : List LogRecord) (durable : ℕ) (anchored : Anchored) (held : LogState) : Type 0 where
  pub gone : List LogRecord
  pub coming : List LogRecord
  pub parts : kept ++ sent ≡ gone ++ (held.list ++ coming)
  pub cut_off : held.cut ≡ cut + length gone
  pub anchored_is : anchored ≡ anchored_by held.anchors.anchor
  pub first : held.anchors.anchor.tail ≡ held.cut + 1
  pub durable_is : held.cut + length held.stable ≡ durable
