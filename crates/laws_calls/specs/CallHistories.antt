-- The history that calls make, and what holds of a state after it. No value keeps the history: it is spoken of as what was called and
-- answered since an open.
use Rattle.std.specs.Prelude.{◌≡◌, ◌<◌, ◌≤◌, ℕ, List, [], ◌∷◌, ◌++◌, if◌then◌else◌, All, Contains, false, length, nat_eq, take}
use Rattle.std.specs.Cmp.Lexicographic.{pointwise}
use Rattle.std.specs.List.{AllByRecursion}
use Rattle.shore_types.specs.declared.layout.TheConstants.{LONGEST_FRAME, MAX_TRANSACTIONS}
use Rattle.shore_types.specs.declared.versions.Version.{Version}
use Rattle.shore_types.specs.Versions.{slot_limit}
use Rattle.shore_model.specs.declared.calls.Call.{Call}
use Rattle.shore_model.specs.declared.calls.Call.TheVariants as call
use Rattle.shore_model.specs.declared.histories.Entry.{Entry}
use Rattle.shore_model.specs.declared.histories.Opening.{Opening}
use Rattle.shore_model.specs.declared.log_records.LogRecord.{LogRecord}
use Rattle.shore_model.specs.Histories.{acknowledged}
use Rattle.shore_model.specs.Requests.{held_by_all}
use Rattle.shore_locks.specs.Orderly.{IsOrderly}
use Rattle.shore_locks.specs.Tables.{is_waiting}
use Rattle.shore_path.specs.Rooted.{AreRooted}
use Rattle.laws_lives.specs.LogPrefixes.{decisions_in}
use Rattle.laws_lives.specs.Sessions.{Sessions, in_use}
use Rattle.laws_lives.specs.Tickets.{AreTickets}
use Rattle.laws_lives.specs.WholeLogs.{IsOpenOn}
use Rattle.laws_room.specs.Claims.{Claimed}
use Rattle.laws_room.specs.LogRooms.{HasLogRoom}
use Rattle.laws_calls.specs.States.{State, log_room}

-- ---- the history

-- the number that a session's calls go under: that of its transaction, or 0
abbrev pub txn_of : Sessions → ℕ → ℕ
txn_of s session = (s.seats session).txn

-- the first of some transactions that has this global id, 0 if none has
abbrev pub number_under : List ℕ → List (ℕ × List ℕ) → ℕ
number_under global [] = 0
number_under global (p ∷ ps) = if pointwise nat_eq p.1 global then p.0 else number_under global ps

-- the transaction in the table that has it: its resolve may not be answered yet
abbrev pub txn_under : Sessions → List ℕ → ℕ
txn_under s global = number_under global (in_use s)

-- the number that a call which was answered goes under: a begin's is the one that it began, and a resolve's the one that it decided
abbrev pub answered_under : Sessions → ℕ → Call → ℕ
answered_under s session call.Begin = s.next_txn
answered_under s session (call.Resolve global asked) = txn_under s global
answered_under s session _ = txn_of s session

-- ---- what holds after it

-- each acknowledged decision has its record among the durable ones, behind the base, and each ticket is the number of its Commit there
pub record IsForced (base : ℕ) (es : List Entry) (s : State) : Type 0 where
  pub least : base ≤ s.durable
  pub most : s.durable ≤ length s.log
  pub acknowledged_kept : All (Contains (decisions_in base (take s.durable s.log))) (acknowledged es)
  pub tickets : AreTickets base s.log es

-- its pages have room for all that stands and for all that may come back, and so has the log
pub record IsRoomyState (v : Version) (s : State) : Type 0 where
  pub slots : s.sessions.slots ≡ slot_limit v
  pub pages : Claimed v s.sessions.records s.sessions.active s.counts
  pub log : HasLogRoom LONGEST_FRAME (length s.sessions.prepared) s.sessions.active (log_room s)

-- ---- from an open to a crash

-- The lock table has the locks of the sessions, with their intentions, and nobody waits in it.
pub record HasGrantedLocks (s : State) : Type 0 where
  pub held : s.sessions.held ≡ held_by_all s.locks.requests
  pub orderly : IsOrderly s.locks.requests
  pub rooted : AreRooted s.locks.requests
  pub below : All (λ r. r.txn < s.sessions.next_txn) s.locks.requests
  pub nobody_waits : (t : ℕ) → is_waiting t s.locks.requests ≡ false

-- What an open leaves: the records that the list tells, under way those in doubt alone, with their undo lists and locks, as the next transaction's number
-- the least above all of the list's, and all of the list durable. They are no more than there may be.
pub record IsOpened (o : Opening) (found : List LogRecord) (s : State) : Type 0 where
  pub on : IsOpenOn o found s.sessions
  pub log : s.log ≡ found
  pub least : (n : ℕ) → 0 < n → AllByRecursion (λ r. r.txn < n) found → s.sessions.next_txn ≤ n
  pub durable : s.durable ≡ length found
  pub waiting : s.waiting ≡ []
  pub running : s.failed ≡ false
  pub locks : HasGrantedLocks s
  pub few : length s.sessions.active ≤ MAX_TRANSACTIONS

-- what a crash keeps: of the log its first so many records, of which the durable are some
abbrev pub KeepsDurable : State → ℕ → Type 0
KeepsDurable s n = (s.durable ≤ n) × (n ≤ length s.log)

-- a list is the other's prefix
abbrev pub IsPrefix : List LogRecord → List LogRecord → Type 0
IsPrefix rs all = (more : List LogRecord) × (all ≡ rs ++ more)
