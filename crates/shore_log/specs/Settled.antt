-- What a log device holds between two calls.
use Rattle.std.specs.Prelude.{IsSome, IsSomeAnd, ◌≡◌, ◌≢◌, ◌⊎◌, ◌+◌, ◌-◌, ◌*◌, ◌<◌, ◌≤◌, ℕ, List, [], ◌∷◌, ◌++◌, length, take, drop, IsTrue, Some, Result, Ok, Err, vec_capacity, vec_len}
use Rattle.shore_disk.specs.Device.{Stands}
use Rattle.shore_disk.specs.declared.device.Disk.{Ghosts}
use Rattle.shore_gate.specs.Anchor.{Counts, other_of}
use Rattle.shore_gate.specs.Moves.{HasInSlot}
use Rattle.shore_gate.specs.declared.anchors.Anchor.{Anchor}
use Rattle.shore_gate.specs.declared.anchors.Anchors.{Anchors}
use Rattle.shore_gate.specs.declared.gates.TheConstants.{OPEN}
use Rattle.shore_types.specs.declared.faults.Fault.{Fault}
use Rattle.shore_types.specs.declared.layout.TheConstants.{FRAME_SHARE, LOG_FRONT_BYTES}
use Rattle.shore_model.specs.declared.log_records.LogRecord.{LogRecord}
use Rattle.shore_logrec.specs.Text.{texts}
use Rattle.shore_frames.specs.Frames.{behind_gate, text, AreGroups, GivesFrom, IsLongest, joined, number_behind}
use Rattle.shore_frames.specs.Places.{from_place, stream_of}
use Rattle.shore_frames.specs.Rings.{IsRing}
use Rattle.shore_frames.specs.Streams.{index_of}
use Rattle.shore_log.specs.declared.device.LogDev.{LogDev}
use Rattle.shore_log.specs.declared.device.Staged.{Staged}
use Rattle.shore_log.specs.Indexes.{IsInGroup, frame_with}
use Rattle.shore_log.specs.Listed.{all_in}
use Rattle.shore_log.specs.Told.{Covers}
use Rattle.shore_log.specs.declared.tail.Told.{Told}

-- every record that is kept, in the order of their numbers
abbrev pub records_of_log : {D : Type 0} {G : Ghosts D} → LogDev D G → List LogRecord
records_of_log log = drop log.gone (all_in log.found.items log.later.items)

-- how many records of the log stand before these
abbrev pub cut_of_log : {D : Type 0} {G : Ghosts D} → LogDev D G → ℕ
cut_of_log log = log.tail.first - 1

-- no record came from a log buffer yet, so all are in memory
abbrev pub HasList : {D : Type 0} {G : Ghosts D} → LogDev D G → Type 0
HasList log = IsSome log.read

-- where they are read from
abbrev pub anchor_of : {D : Type 0} {G : Ghosts D} → LogDev D G → Anchor
anchor_of log = log.anchors.anchor

-- those that are forced
abbrev pub stable : {D : Type 0} {G : Ghosts D} → LogDev D G → List LogRecord
stable log = take log.forced (records_of_log log)

-- those that wait
abbrev pub waiting : {D : Type 0} {G : Ghosts D} → LogDev D G → List LogRecord
waiting log = drop log.forced (records_of_log log)

-- What a device holds from this tail on, at this place: the forced records in frames, which the index lists. The next frame goes behind them.
pub record HoldsFrom {D : Type 0} {G : Ghosts D} (tail place : ℕ) (log : LogDev D G) (groups : List (List LogRecord)) : Type 0 where
  pub honest : IsTrue (G.is_honest log.device)
  pub some : 1 ≤ tail
  pub first : log.tail.first ≡ tail
  pub place_is : log.tail.place ≡ place
  pub forced : stable log ≡ joined groups
  pub number : tail + log.forced ≡ number_behind tail groups
  pub head : log.head ≡ place + length (text tail groups)
  pub index : log.frames.items ≡ index_of tail place groups

-- The device is honest and holds this front, and from this tail on the forced records in frames and a closed gate behind them, all of it stable.
pub record IsSettledFrom {D : Type 0} {G : Ghosts D} (tail place : ℕ) (log : LogDev D G) (front : List ℕ) : Type 0 where
  pub image : List ℕ
  pub stands : Stands (G.history log.device) image
  pub is_front : take LOG_FRONT_BYTES image ≡ front
  pub groups : List (List LogRecord)
  pub holds : HoldsFrom tail place log groups
  pub ring : IsRing (stream_of image) tail place groups

-- .. from number 1 at place 0 on
abbrev pub IsSettled : {D : Type 0} {G : Ghosts D} → LogDev D G → List ℕ → Type 0
IsSettled log front = IsSettledFrom 1 0 log front

-- One frame more, of these records, stands behind the closed gate, and a closed gate behind it, all of it stable.
pub record IsStagedFrom {D : Type 0} {G : Ghosts D} (tail place : ℕ) (log : LogDev D G) (front : List ℕ) (group : List LogRecord) : Type 0 where
  pub image : List ℕ
  pub stands : Stands (G.history log.device) image
  pub is_front : take LOG_FRONT_BYTES image ≡ front
  pub groups : List (List LogRecord)
  pub holds : HoldsFrom tail place log groups
  pub gate : ℕ
  pub rest : List ℕ
  pub shut : gate ≢ OPEN
  pub are : AreGroups tail (groups ++ group ∷ [])
  pub seen : from_place place (stream_of image) ≡ text tail groups ++ gate ∷ (behind_gate (number_behind tail groups) (texts group) ++ 0 ∷ rest)
  pub first : take (length group) (waiting log) ≡ group
  pub waits : log.staged ≡ Some record { count = length group; len = length (texts group) }

abbrev pub IsStaged : {D : Type 0} {G : Ghosts D} → LogDev D G → List ℕ → List LogRecord → Type 0
IsStaged log front group = IsStagedFrom 1 0 log front group

-- The log's anchor is in this front, and counts.
pub record IsAnchored {D : Type 0} {G : Ghosts D} (log : LogDev D G) (front : List ℕ) : Type 0 where
  pub long : length front ≡ LOG_FRONT_BYTES
  pub counts : Counts front log.anchors.slot log.anchors.anchor

-- there is no place for the frame of the longest list of waiting records that one frame holds, with a byte behind it, between head and tail
pub record HasNoFrameRoom {D : Type 0} {G : Ghosts D} (log : LogDev D G) : Type 0 where
  pub count : ℕ
  pub some : 1 ≤ count
  pub longest : IsLongest (waiting log) count
  pub full : log.tail.place + log.stream_bytes ≤ log.head + (FRAME_SHARE + length (texts (take count (waiting log))))

-- .. or, after a frame that is staged, for the frame of the longest list of the records after it
pub record HasNoRoomAfter {D : Type 0} {G : Ghosts D} (log : LogDev D G) (staged : Staged) : Type 0 where
  pub count : ℕ
  pub some : 1 ≤ count
  pub longest : IsLongest (drop staged.count (waiting log)) count
  pub full : log.tail.place + log.stream_bytes ≤ log.head + (FRAME_SHARE + staged.len) + (FRAME_SHARE + length (texts (take count (drop staged.count (waiting log)))))

-- What is kept of the frames of these groups begins at the one that has the record of this number.
pub record IsCutTo {D : Type 0} {G : Ghosts D} (tail place : ℕ) (groups : List (List LogRecord)) (number : ℕ) (log : LogDev D G) : Type 0 where
  pub count : ℕ
  pub frame : IsInGroup tail groups number count
  pub first : log.tail.first ≡ number_behind tail frame.before
  pub place_is : log.tail.place ≡ place + length (text tail frame.before)

-- the anchor of a checkpoint from which the log is read from the frame on that holds this record
abbrev pub next_anchor : {D : Type 0} {G : Ghosts D} → LogDev D G → ℕ → ℕ → Anchor
next_anchor log checkpoint number = record {
  sequence = log.anchors.anchor.sequence + 1;
  checkpoint = checkpoint;
  tail = (frame_with number log.tail log.frames.items).first;
  tail_place = (frame_with number log.tail log.frames.items).place;
}

-- The front of the log is let go: some of its forced records, the first ones, and nothing else.
pub record LosesFront {D : Type 0} {G : Ghosts D} (old new : LogDev D G) : Type 0 where
  pub rises : cut_of_log old ≤ cut_of_log new
  pub records : records_of_log new ≡ drop (cut_of_log new - cut_of_log old) (records_of_log old)
  pub forced : stable new ≡ drop (cut_of_log new - cut_of_log old) (stable old)
  pub last : cut_of_log new + length (stable new) ≡ cut_of_log old + length (stable old)
  pub waits : waiting new ≡ waiting old
  pub staged : new.staged ≡ old.staged
  pub head : new.head ≡ old.head
  pub list : HasList old → HasList new

-- What a crash may leave amid a move of the anchor, where the log has these forced records behind this front: beside the slot of the older anchor the front is
-- as it was. The anchor that counted before does, and the records are read from its tail on, or the next one, and from its tail on what is kept then.
pub record IsLeftByMove (from : Anchors) (next : Anchor) (front : List ℕ) (rs : List LogRecord) (image : List ℕ) : Type 0 where
  pub bytes : List ℕ
  pub beside : HasInSlot (other_of from.slot) front (take LOG_FRONT_BYTES image) bytes
  pub gives : (Counts image from.slot from.anchor × GivesFrom from.anchor.tail from.anchor.tail_place rs image)
      ⊎ (Counts image (other_of from.slot) next × GivesFrom next.tail next.tail_place (drop (next.tail - from.anchor.tail) rs) image)

-- The forced records below this number, the first that is kept then, cost so much, and it is not above the number that is to be kept.
pub record FreesBelow {D : Type 0} {G : Ghosts D} (log : LogDev D G) (number kept_from freed : ℕ) : Type 0 where
  pub from : cut_of_log log < kept_from
  pub forced : kept_from ≤ cut_of_log log + length (stable log) + 1
  pub below : kept_from ≤ number
  pub cost :
      freed ≡ FRAME_SHARE * (kept_from - 1 - cut_of_log log) + length (texts (take (kept_from - 1 - cut_of_log log) (records_of_log log)))

-- all are in memory, and so many records more need no more
abbrev pub HasRecordRoom : {D : Type 0} {G : Ghosts D} → LogDev D G → ℕ → Type 0
HasRecordRoom log count = IsSomeAnd log.read (λ v. vec_len v + count ≤ vec_capacity v)

-- each record that waits came from a log buffer, so its text is there
abbrev pub IsSpelled : {D : Type 0} {G : Ghosts D} → LogDev D G → Type 0
IsSpelled log = IsSome log.read → log.count ≤ log.forced

-- A log buffer that was told this knows what there is room for, so what it has is taken in with no memory more.
abbrev pub KnowsRoom : {D : Type 0} {G : Ghosts D} → LogDev D G → Told → Type 0
KnowsRoom log told = Covers told.entries (vec_len log.frames + length (waiting log)) (vec_capacity log.frames) × Covers told.texts (vec_len log.bytes) (vec_capacity log.bytes)

-- Nothing has changed but for memory that was taken for the index.
pub record IsAsBefore {D : Type 0} {G : Ghosts D} (old new : LogDev D G) : Type 0 where
  pub device : new.device ≡ old.device
  pub records : records_of_log new ≡ records_of_log old
  pub forced : new.forced ≡ old.forced
  pub staged : new.staged ≡ old.staged
  pub head : new.head ≡ old.head
  pub tail : new.tail ≡ old.tail
  pub index : new.frames.items ≡ old.frames.items
  pub list : HasList old → HasList new

-- The forced records and the frame under way are the same, and what was settled or staged is so still.
pub record KeepsFrames {D : Type 0} {G : Ghosts D} (old new : LogDev D G) : Type 0 where
  pub tail : new.tail ≡ old.tail
  pub anchors : new.anchors ≡ old.anchors
  pub index : new.frames.items ≡ old.frames.items
  pub head : new.head ≡ old.head
  pub forced : stable new ≡ stable old
  pub under_way : new.staged ≡ old.staged
  pub settled : (tail place : ℕ) (front : List ℕ) → IsSettledFrom tail place old front → IsSettledFrom tail place new front
  pub staged : (tail place : ℕ) (front : List ℕ) (group : List LogRecord) → IsStagedFrom tail place old front group → IsStagedFrom tail place new front group

-- ---- what opening a log answers

-- the device, whether a log stands on it or it is handed back
abbrev pub device_of : {D : Type 0} {G : Ghosts D} → Result (LogDev D G) (Fault × D) → D
device_of (Ok log) = log.device
device_of (Err refused) = refused.1

-- the answer with no device at the fault
abbrev pub fault_of : {D : Type 0} {G : Ghosts D} → Result (LogDev D G) (Fault × D) → Result (LogDev D G) Fault
fault_of (Ok log) = Ok log
fault_of (Err refused) = Err refused.0
