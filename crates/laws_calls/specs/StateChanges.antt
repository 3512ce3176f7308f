-- What calls and other events leave of a state, and what happens to a manager.
use Rattle.std.specs.Prelude.{◌≡◌, ◌≢◌, ◌⊎◌, ◌<◌, ◌≤◌, ℕ, List, [], ◌∷◌, None, Ok, true, length}
use Rattle.shore_types.specs.Images.{Image, image_len}
use Rattle.shore_types.specs.declared.faults.Device.{Device}
use Rattle.shore_types.specs.declared.faults.Fault.{Fault}
use Rattle.shore_types.specs.declared.faults.Fault.TheVariants as fault
use Rattle.shore_types.specs.declared.ids.Rid.{Rid}
use Rattle.shore_model.specs.declared.calls.Answer.{Answer}
use Rattle.shore_model.specs.declared.calls.Answer.TheVariants.{Committed}
use Rattle.shore_model.specs.declared.calls.Call.{Call}
use Rattle.shore_model.specs.declared.calls.Call.TheVariants as call
use Rattle.shore_model.specs.declared.histories.Entry.TheVariants.{Exchanged}
use Rattle.shore_model.specs.declared.log_records.Payload.TheVariants as payload
use Rattle.shore_model.specs.declared.requests.Request.{Request}
use Rattle.shore_model.specs.Requests.{held_by_all}
use Rattle.shore_locks.specs.Grants.{released}
use Rattle.shore_model.specs.declared.step.Step.{Step}
use Rattle.shore_model.specs.declared.step.Step.TheVariants.{Done, Waits, Refused, Nothing}
use Rattle.shore_model.specs.declared.step.Wait.TheVariants.{Durable}
use Rattle.laws_lives.specs.Logged.{and_record, log_after_answer}
use Rattle.laws_lives.specs.SessionSteps.{BeginTxn, entries_by, exchange}
use Rattle.laws_lives.specs.Sessions.{SessionTxn, commit_appended, locks_moved, reply_given, seated, txn_begun}
use Rattle.laws_room.specs.Claims.{SlotCounts, Grows}
use Rattle.laws_calls.specs.States.{State, Waiting, next_number, without_waiting, log_room, page_slots}
use Rattle.shore_types.specs.declared.faults.Device.TheVariants.{Volume}
use Rattle.shore_types.specs.declared.versions.Version.{Version}
use Rattle.shore_types.specs.Versions.{record_limit}
use Rattle.shore_page.specs.Room.{Fits}
use Rattle.laws_room.specs.LogRooms.{ChangeAdmits}

-- ---- what is left

abbrev pub with_failure : State → State
with_failure s = record s { failed = true }

-- the log device has forced its records up to this number
abbrev pub with_durable : ℕ → State → State
with_durable n s = record s { durable = n }

-- A refusal has changed nothing; but once a device has failed, or a page was damaged, every later call is refused.
abbrev pub after_refusal : Fault → State → State
after_refusal fault.Device s = with_failure s
after_refusal (fault.Damaged device place) s = with_failure s
after_refusal _ s = s

-- the state with these requests in its table: the locks of the sessions are those that the requests hold
abbrev pub with_requests : State → List Request → State
with_requests s rs = record s { locks = record { limit = s.locks.limit; requests = rs }; sessions = locks_moved s.sessions (held_by_all rs) }

-- a call of a transaction under way has its answer, and what it changed is in place, in the undo list, and logged
abbrev pub answered : State → SessionTxn → Call → Answer → SlotCounts → State
answered s a c answer counts = record s {
  sessions = reply_given s.sessions a c (Ok answer);
  counts = counts;
  log = log_after_answer s.log s.sessions.records a c answer;
}

-- a session begins its transaction
abbrev pub begun : State → ℕ → State
begun s session = record s { sessions = seated s.sessions (entries_by s.sessions (BeginTxn session)) (txn_begun s.sessions session) }

-- a call that has appended a decision's record waits for that to be durable
abbrev pub decision_waiting : ℕ → Call → ℕ → Waiting
decision_waiting session c n = record { session = session; call = c; wait = Durable n; cycle = None }

-- the Commit goes last, its locks go with it, and the session is answered, and is in no transaction
abbrev pub committed : State → SessionTxn → State
committed s a =
    with_requests
    (record s {
      sessions = seated s.sessions (Exchanged a.session a.txn (exchange call.Commit (Ok (Committed (next_number s)))) ∷ []) (commit_appended s.sessions a);
      log = and_record a.txn s.log payload.Commit;
    })
    (released a.txn s.locks.requests)

-- the call that waited is refused
abbrev pub wait_refused : State → ℕ → State
wait_refused s session = record s { waiting = without_waiting session s.waiting }

-- ---- conditions of calls

abbrev pub IsShort : Version → List ℕ → Type 0
IsShort v bytes = length bytes ≤ record_limit v

-- the image fits into the slot of the id, with what the slot claims
abbrev pub FitsAt : Version → State → Rid → Image → Type 0
FitsAt v s id image = Fits v (page_slots s id.page) id.slot (image_len image)

-- the log has room for the Change that puts this image there, and for its undo
abbrev pub CanLog : State → Rid → Image → Type 0
CanLog s id image = ChangeAdmits s.sessions.records id image (log_room s)

-- a page was not read: its device failed, it is damaged, or no frame is free for it until the log is forced up to a record that is there and
-- is not durable
abbrev pub IsPageFault : State → Fault → Type 0
IsPageFault s f =
    (f ≡ fault.Device) ⊎ ((offset : ℕ) × (f ≡ fault.Damaged Volume offset))
    ⊎ ((n : ℕ) × (f ≡ fault.NeedForce n) × (s.durable < n) × (n ≤ length s.log))

-- The image may go to the id: it fits there, and log and undo have room. The page has these slots then.
pub record MayChange (v : Version) (s : State) (id : Rid) (image : Image) (counts : SlotCounts) : Type 0 where
  pub fits : FitsAt v s id image
  pub logs : CanLog s id image
  pub grows : Grows s.counts counts id

-- an answer, a wait, or a refusal that comes of the state alone: it takes no allocation that failed, and no page that was not read
abbrev pub ComesOfState : Step → Type 0
ComesOfState (Done answer) = Unit {0}
ComesOfState (Waits wait) = Unit {0}
ComesOfState (Refused f) =
    (f ≢ fault.Memory) × (f ≢ fault.Device) × ((device : Device) (offset : ℕ) → f ≢ fault.Damaged device offset) × ((n : ℕ) → f ≢ fault.NeedForce n)
ComesOfState Nothing = Unit {0}
