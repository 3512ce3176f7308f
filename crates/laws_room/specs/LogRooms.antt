-- The log's room over a table of transactions: what its records cost, and what is reserved for the undo and the ending of each
-- transaction.
use Rattle.std.specs.Prelude.{◌≡◌, ◌⊎◌, ◌<◌, ◌≤◌, ◌+◌, ◌-◌, ◌*◌, ℕ, List, Option, [], ◌∷◌, ◌++◌, None, Some, Ok, Err, length}
use Rattle.std.specs.FinMap.{get}
use Rattle.shore_types.specs.Images.{Image}
use Rattle.shore_types.specs.declared.ids.Rid.{Rid}
use Rattle.shore_types.specs.declared.layout.TheConstants.{ENDING_COST, GREATEST_CHECKPOINT, LAST_LSN, LAST_OPENED, LONGEST_FRAME, MAX_LOG_BYTES}
use Rattle.shore_model.specs.declared.calls.Answer.{Answer}
use Rattle.shore_model.specs.declared.calls.Answer.TheVariants.{Inserted}
use Rattle.shore_model.specs.declared.calls.Call.{Call}
use Rattle.shore_model.specs.declared.calls.Call.TheVariants as call
use Rattle.shore_types.specs.declared.locking.Granule.{Granule}
use Rattle.shore_model.specs.declared.log_records.Payload.TheVariants.{Prepare}
use Rattle.shore_model.specs.Records.{Records}
use Rattle.shore_logrec.specs.Text.{cost_of}
use Rattle.shore_model.specs.declared.rollbacks.Rollback.{Rollback}
use Rattle.laws_lives.specs.SessionSteps.{AnswerAbort, AnswerInDoubt, AnswerPrepare, AnswerResolve, AppendCommit, AppendPrepare, AppendResolve, AppendRollback, Ask, BeginTxn, Doom, EndRollback, GiveReply, MoveLocks, PutBack, RefuseCall, SessionEvent}
use Rattle.laws_lives.specs.Sessions.{SessionTxn, Sessions, with_undo}
use Rattle.laws_lives.specs.UndoLists.{images_since}
use Rattle.laws_lives.specs.Views.{IsAmong}

-- the bytes of an image in a record: whether there is one, how long it is, and itself
abbrev pub image_cost : Image → ℕ
image_cost None = 1
image_cost (Some bytes) = 3 + length bytes

-- a Change has a record id of 10 bytes besides
abbrev pub change_cost : Image → Image → ℕ
change_cost before after = ENDING_COST + 10 + image_cost before + image_cost after

-- a Compensation has the id and a record's number
abbrev pub compensation_cost : Image → ℕ
compensation_cost image = ENDING_COST + 18 + image_cost image

-- a Compensation for each entry of an undo list
abbrev pub compensation_costs : List (Rid × Image) → ℕ
compensation_costs [] = 0
compensation_costs (e ∷ es) = compensation_cost e.1 + compensation_costs es

-- what is reserved for a transaction: its ending, a Commit or an End, and its undo
abbrev pub owed : SessionTxn → ℕ
owed a = ENDING_COST + compensation_costs a.undo.images

abbrev pub owed_by_all : List SessionTxn → ℕ
owed_by_all [] = 0
owed_by_all (a ∷ undos) = owed a + owed_by_all undos

-- what the records cost, what is reserved, how long the stream is, and the number of the last record
pub record LogRoom : Type 0 where
  pub kept : ℕ
  pub reserved : ℕ
  pub stream_bytes : ℕ
  pub last_lsn : ℕ

-- What is reserved is what is owed, and for each one in doubt an ending more: a rollback of it logs a Rollback decided besides. Beside so many bytes to spare it has its room, and there are numbers for it: no record costs less
-- than a byte. No more room is left than the longest stream has, however much of what is kept is cut off.
pub record HasLogRoom (spare doubts : ℕ) (undos : List SessionTxn) (room : LogRoom) : Type 0 where
  pub sum : room.reserved ≡ owed_by_all undos + ENDING_COST * doubts
  pub fits : room.kept + room.reserved + spare ≤ room.stream_bytes
  pub lsns : room.last_lsn + room.reserved < LAST_OPENED
  pub short : room.stream_bytes ≤ room.kept + MAX_LOG_BYTES

-- so much more is not LogFull
abbrev pub Admits : LogRoom → ℕ → Type 0
Admits room need = (room.last_lsn < LAST_LSN) × (room.kept + room.reserved + need + LONGEST_FRAME + GREATEST_CHECKPOINT ≤ room.stream_bytes)

-- A record of this cost is paid for by what is reserved: it has its room in the stream, and a number.
abbrev pub Takes : ℕ → LogRoom → ℕ → Type 0
Takes spare room cost = (cost ≤ room.reserved) × (room.kept + cost + spare ≤ room.stream_bytes) × (room.last_lsn + 1 < LAST_OPENED)

-- ---- what a step leaves

abbrev pub begun_room : LogRoom → LogRoom
begun_room room = record room { reserved = room.reserved + ENDING_COST }

abbrev pub changed_room : Image → Image → LogRoom → LogRoom
changed_room before after room = record room {
  kept = room.kept + change_cost before after;
  reserved = room.reserved + compensation_cost before;
  last_lsn = room.last_lsn + 1;
}

abbrev pub undone_room : Image → LogRoom → LogRoom
undone_room image room = record room {
  kept = room.kept + compensation_cost image;
  reserved = room.reserved - compensation_cost image;
  last_lsn = room.last_lsn + 1;
}

-- a Compensation for each entry, the last of the list first
abbrev pub undone_rooms : List (Rid × Image) → LogRoom → LogRoom
undone_rooms [] room = room
undone_rooms (e ∷ es) room = undone_room e.1 (undone_rooms es room)

-- a Commit or an End is appended, and what was owed is no longer reserved
abbrev pub ended_room : ℕ → LogRoom → LogRoom
ended_room owed room = record room { kept = room.kept + ENDING_COST; reserved = room.reserved - owed; last_lsn = room.last_lsn + 1 }

-- what a Prepare costs, and what it reserves besides
abbrev pub prepare_cost : List ℕ → List Granule → ℕ
prepare_cost global granules = cost_of (Prepare global granules)

abbrev pub prepared_room : List ℕ → List Granule → LogRoom → LogRoom
prepared_room global granules room = record room {
  kept = room.kept + prepare_cost global granules;
  reserved = room.reserved + ENDING_COST;
  last_lsn = room.last_lsn + 1;
}

-- no record is appended, since nothing was logged
abbrev pub left_room : ℕ → LogRoom → LogRoom
left_room owed room = record room { reserved = room.reserved - owed }

-- ---- events of the sessions

abbrev pub answered_room : Records → SessionTxn → Call → Answer → LogRoom → LogRoom
answered_room R a (call.Insert store bytes) (Inserted id) room = changed_room (get R id) (Some bytes) room
answered_room R a (call.Insert store bytes) _ room = room
answered_room R a (call.Update id bytes) answer room = changed_room (get R id) (Some bytes) room
answered_room R a (call.Delete id) answer room = changed_room (get R id) None room
answered_room R a (call.BackTo n) answer room = undone_rooms (images_since a.undo n) room
answered_room R a call.Begin answer room = room
answered_room R a (call.Get id) answer room = room
answered_room R a (call.GetForUpdate id) answer room = room
answered_room R a (call.Scan store) answer room = room
answered_room R a (call.Lock g mode) answer room = room
answered_room R a (call.TryLock g mode) answer room = room
answered_room R a call.Savepoint answer room = room
answered_room R a call.Commit answer room = room
answered_room R a call.Abort answer room = room
answered_room R a (call.Prepare global) answer room = room
answered_room R a (call.Resolve global outcome) answer room = room
answered_room R a call.InDoubt answer room = room

-- the room after an event; an abort may have logged nothing
abbrev pub RoomAfter : Sessions → SessionEvent → LogRoom → LogRoom → Type 0
RoomAfter s (BeginTxn session) room new = new ≡ begun_room room
RoomAfter s (GiveReply a c (Ok answer)) room new = new ≡ answered_room s.records a c answer room
RoomAfter s (GiveReply a c (Err fault)) room new = new ≡ room
RoomAfter s (AppendCommit a ticket) room new = new ≡ ended_room (owed a) room
RoomAfter s (PutBack a kept e r) room new = new ≡ undone_room e.1 room
RoomAfter s (Doom a) room new = new ≡ room
RoomAfter s (AnswerAbort a) room new =
    (new ≡ ended_room ENDING_COST (undone_rooms a.undo.images room)) ⊎ (new ≡ left_room ENDING_COST (undone_rooms a.undo.images room))
RoomAfter s (MoveLocks held) room new = new ≡ room
RoomAfter s (Ask ticket durable) room new = new ≡ room
RoomAfter s (RefuseCall session t c fault) room new = new ≡ room
RoomAfter s (AppendPrepare a global granules) room new = new ≡ prepared_room global granules room
RoomAfter s (AnswerPrepare session t global) room new = new ≡ room
RoomAfter s (AppendResolve a global) room new = new ≡ ended_room (owed a + ENDING_COST) room
RoomAfter s (AppendRollback a global) room new = new ≡ ended_room ENDING_COST room
RoomAfter s (EndRollback a) room new = new ≡ ended_room ENDING_COST (undone_rooms a.undo.images room)
RoomAfter s (AnswerResolve session r) room new = new ≡ room
RoomAfter s (AnswerInDoubt session t pairs) room new = new ≡ room

-- what a change asks for: its record, and the Compensation that may follow
abbrev pub ChangeAdmits : Records → Rid → Image → LogRoom → Type 0
ChangeAdmits R id after room = Admits room (change_cost (get R id) after + compensation_cost (get R id))

abbrev pub AnswerAdmits : Records → Call → Answer → LogRoom → Type 0
AnswerAdmits R (call.Insert store bytes) (Inserted id) room = ChangeAdmits R id (Some bytes) room
AnswerAdmits R (call.Insert store bytes) _ room = Unit {0}
AnswerAdmits R (call.Update id bytes) answer room = ChangeAdmits R id (Some bytes) room
AnswerAdmits R (call.Delete id) answer room = ChangeAdmits R id None room
AnswerAdmits R (call.BackTo n) answer room = Unit {0}
AnswerAdmits R call.Begin answer room = Unit {0}
AnswerAdmits R (call.Get id) answer room = Unit {0}
AnswerAdmits R (call.GetForUpdate id) answer room = Unit {0}
AnswerAdmits R (call.Scan store) answer room = Unit {0}
AnswerAdmits R (call.Lock g mode) answer room = Unit {0}
AnswerAdmits R (call.TryLock g mode) answer room = Unit {0}
AnswerAdmits R call.Savepoint answer room = Unit {0}
AnswerAdmits R call.Commit answer room = Unit {0}
AnswerAdmits R call.Abort answer room = Unit {0}
AnswerAdmits R (call.Prepare global) answer room = Unit {0}
AnswerAdmits R (call.Resolve global outcome) answer room = Unit {0}
AnswerAdmits R call.InDoubt answer room = Unit {0}

-- Begin, insert, update, delete and prepare ask for room; commits, rollbacks and resolves ask for none.
abbrev pub EventAdmits : Sessions → SessionEvent → LogRoom → Type 0
EventAdmits s (BeginTxn session) room = Admits room ENDING_COST
EventAdmits s (GiveReply a c (Ok answer)) room = AnswerAdmits s.records c answer room
EventAdmits s (GiveReply a c (Err fault)) room = Unit {0}
EventAdmits s (MoveLocks held) room = Unit {0}
EventAdmits s (AppendCommit a ticket) room = Unit {0}
EventAdmits s (PutBack a kept e r) room = Unit {0}
EventAdmits s (Doom a) room = Unit {0}
EventAdmits s (AnswerAbort a) room = Unit {0}
EventAdmits s (Ask ticket durable) room = Unit {0}
EventAdmits s (RefuseCall session t c fault) room = Unit {0}
EventAdmits s (AppendPrepare a global granules) room = Admits room (prepare_cost global granules + ENDING_COST)
EventAdmits s (AnswerPrepare session t global) room = Unit {0}
EventAdmits s (AppendResolve a global) room = Unit {0}
EventAdmits s (AppendRollback a global) room = Unit {0}
EventAdmits s (EndRollback a) room = Unit {0}
EventAdmits s (AnswerResolve session r) room = Unit {0}
EventAdmits s (AnswerInDoubt session t pairs) room = Unit {0}

-- ---- rollbacks in turns

-- Each turn undoes the newest entry of its transaction, if one is left: its Compensation has its room, and so have those of the turns
-- behind it; then each ending has.
abbrev pub TurnsTake : ℕ → List SessionTxn → LogRoom → List ℕ → Type 0
TurnsTake spare undos room [] = (a : SessionTxn) → IsAmong a undos → Takes spare room ENDING_COST
TurnsTake spare undos room (t ∷ turns) = (a : SessionTxn) (kept : List (Rid × Image)) (e : Rid × Image) (marks : List ℕ) (rolling : Option Rollback)
    → IsAmong a undos → a.txn ≡ t → a.undo.images ≡ kept ++ e ∷ []
    → Takes spare room (compensation_cost e.1)
    × TurnsTake spare (with_undo t record { images = kept; marks = marks; rolling = rolling } undos) (undone_room e.1 room) turns
