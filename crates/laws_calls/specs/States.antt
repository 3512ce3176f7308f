-- A manager without its devices, as plain data: sessions at work, their log, the slots of the pages, and what is durable. What is reserved
-- and what is claimed are no state: they are functions of the undo lists.
use Rattle.std.specs.Prelude.{◌≡◌, ◌≢◌, ◌<◌, ◌+◌, ◌*◌, ◌==◌, ℕ, List, Bool, IsTrue, None, Option, not, filter, length}
use Rattle.std.specs.List.{sum_by}
use Rattle.shore_types.specs.declared.ids.PageId.{PageId}
use Rattle.shore_types.specs.declared.layout.TheConstants.{ENDING_COST, LAST_TXN}
use Rattle.shore_model.specs.declared.calls.Call.{Call}
use Rattle.shore_model.specs.declared.log_records.LogRecord.{LogRecord}
use Rattle.shore_locks.specs.Tables.{Table}
use Rattle.shore_logrec.specs.Text.{cost_of}
use Rattle.shore_model.specs.declared.step.Wait.{Wait}
use Rattle.laws_lives.specs.Sessions.{IsInNoTxn, SessionTxn, Sessions, in_txn}
use Rattle.laws_lives.specs.Views.{IsAmong}
use Rattle.shore_page.specs.Slots.{Slot}
use Rattle.laws_room.specs.Claims.{SlotCounts, slots_of}
use Rattle.laws_room.specs.LogRooms.{Admits, LogRoom, owed_by_all}

-- a session's call that waits, and what for. Once its transaction is a victim it waits to be told so.
pub record Waiting : Type 0 where
  pub session : ℕ
  pub call : Call
  pub wait : Wait
  -- the cycle of waits that its transaction is the victim of, if it is one
  pub cycle : Option (List ℕ)

pub record State : Type 0 where
  -- the records in place, the transactions with their undo lists, the locks, and the number of the next transaction
  pub sessions : Sessions
  -- the lock table
  pub locks : Table
  -- how many slots each page has
  pub counts : SlotCounts
  -- every record of the log, forced or not
  pub log : List LogRecord
  -- the last number whose force was told
  pub durable : ℕ
  -- how much the log may hold
  pub stream_bytes : ℕ
  -- the calls that wait
  pub waiting : List Waiting
  -- a device has failed
  pub failed : Bool

-- ---- transactions

-- the transaction is under way, and its session is in it; it is not prepared
abbrev pub HasSeat : Sessions → SessionTxn → Type 0
HasSeat s a = IsAmong a s.active × (s.seats a.session ≡ in_txn a.txn) × (0 < a.txn)

-- .. and this is its session
abbrev pub IsOfSession : State → ℕ → SessionTxn → Type 0
IsOfSession s session a = HasSeat s.sessions a × (a.session ≡ session)

abbrev pub HasNoTxn : State → ℕ → Type 0
HasNoTxn s session = IsInNoTxn s.sessions session

abbrev pub IsInTxn : State → ℕ → Type 0
IsInTxn s session = HasNoTxn s session → ⊥

-- the transaction of the session is prepared
abbrev pub HasPrepared : State → ℕ → Type 0
HasPrepared s session = IsTrue (s.sessions.seats session).prepared

-- the session has no call that waits
abbrev pub DoesNotWait : State → ℕ → Type 0
DoesNotWait s session = (w : Waiting) → IsAmong w s.waiting → w.session ≢ session

-- .. or only to be told that its transaction is a victim
abbrev pub AsksForNothing : State → ℕ → Type 0
AsksForNothing s session = (w : Waiting) → IsAmong w s.waiting → w.cycle ≡ None → w.session ≢ session

-- the calls that wait, but for a session's
abbrev pub without_waiting : ℕ → List Waiting → List Waiting
without_waiting session ws = filter (λ w. not (w.session == session)) ws

-- ---- room

-- the number of the next record
abbrev pub next_number : State → ℕ
next_number s = 1 + length s.log

-- the slots of a page, with what they claim
abbrev pub page_slots : State → PageId → List Slot
page_slots s p = slots_of s.sessions.records s.sessions.active p (s.counts p)

-- what the records of a log take of its room
abbrev pub cost_of_log : List LogRecord → ℕ
cost_of_log rs = sum_by (λ r. cost_of r.payload) rs

-- the room of the log: what its records take, and what is reserved for the undo and the ending of each transaction, and for one in doubt an ending more
abbrev pub log_room : State → LogRoom
log_room s = record {
  kept = cost_of_log s.log;
  reserved = owed_by_all s.sessions.active + ENDING_COST * length s.sessions.prepared;
  stream_bytes = s.stream_bytes;
  last_lsn = length s.log;
}

-- so much more may be logged and reserved
abbrev pub HasRoomFor : State → ℕ → Type 0
HasRoomFor s need = Admits (log_room s) need

-- a transaction may begin: there is room for its ending, and a number for it
abbrev pub MayBegin : State → Type 0
MayBegin s = HasRoomFor s ENDING_COST × (s.sessions.next_txn < LAST_TXN)
