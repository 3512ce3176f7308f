-- What happens to a manager whose sessions take locks: the calls that are served, runs of events, and the entries that they add to the history.
use Rattle.std.specs.Prelude.{◌≡◌, ◌≤◌, ◌==◌, ◌↔◌, ℕ, List, [], ◌∷◌, ◌++◌, Bool, true, Option, None, Some, if◌then◌else◌, length}
use Rattle.shore_types.specs.declared.layout.Geometry.{Geometry}
use Rattle.shore_types.specs.declared.layout.TheConstants.{MAX_TRANSACTIONS}
use Rattle.shore_model.specs.declared.calls.Call.{Call}
use Rattle.shore_model.specs.declared.histories.Entry.{Entry}
use Rattle.shore_model.specs.declared.histories.Entry.TheVariants.{Asked}
use Rattle.shore_model.specs.declared.histories.Opening.{Opening}
use Rattle.shore_model.specs.declared.log_records.LogRecord.{LogRecord}
use Rattle.shore_model.specs.declared.step.Step.{Step}
use Rattle.shore_model.specs.Calls.{IsServed}
use Rattle.laws_calls.specs.CallHistories.{IsForced}
use Rattle.laws_calls.specs.StateChanges.{with_durable, with_failure}
use Rattle.laws_calls.specs.CallSteps.{txn_count}
use Rattle.laws_calls.specs.LockedStates.{IsSessionsState, entries_of_resumed, entries_of_call}
use Rattle.laws_calls.specs.SessionWaits.{WaitsOfSessions}
use Rattle.laws_calls.specs.GivingUp.{GiveUpStep}
use Rattle.laws_calls.specs.Settling.{SettledCall, SettledResume}
use Rattle.laws_calls.specs.States.{State, Waiting}

-- ---- events

-- what happens to a manager: a call and a resume of a session, and a wait of it that is to be taken back, each with what it came to; a force that is told; a device's
-- failure; and whether a ticket is durable is asked, with the answer
pub data ManagerEvent : Type 0 where
  Called : ℕ → Call → Step → ManagerEvent
  Resumed : ℕ → Step → ManagerEvent
  GaveUp : ℕ → Step → ManagerEvent
  Forced : ℕ → ManagerEvent
  HasFailed : ManagerEvent
  TicketAsked : ℕ → Bool → ManagerEvent

abbrev pub EventMoves : Geometry → State → ManagerEvent → State → Type 0
EventMoves g s (Called session c step) new = IsServed c × SettledCall g s session c step new
EventMoves g s (Resumed session step) new = SettledResume g s session step new
EventMoves g s (GaveUp session step) new = GiveUpStep s session step new
EventMoves g s (Forced n) new = (s.durable ≤ n) × (n ≤ length s.log) × (new ≡ with_durable n s)
EventMoves g s HasFailed new = new ≡ with_failure s
EventMoves g s (TicketAsked ticket answer) new = ((answer ≡ true) ↔ (ticket ≤ s.durable)) × (new ≡ s)

-- events may, one after another, leave this
abbrev pub EventsMove : Geometry → State → List ManagerEvent → State → Type 0
EventsMove g s [] last = last ≡ s
EventsMove g s (e ∷ events) last = (new : State) × EventMoves g s e new × EventsMove g new events last

-- ---- the history

-- the call of a session that waits, if one does
abbrev pub call_waiting : ℕ → List Waiting → Option Waiting
call_waiting session [] = None
call_waiting session (w ∷ ws) = if w.session == session then Some w else call_waiting session ws

abbrev pub entries_of_waiting : State → Option Waiting → Step → List Entry
entries_of_waiting s None step = []
entries_of_waiting s (Some w) step = entries_of_resumed s w step

-- what a resume of a session adds, and a wait that is taken back: the reply to its call that waited, if it ended
abbrev pub entries_of_resume : State → ℕ → Step → List Entry
entries_of_resume s session step = entries_of_waiting s (call_waiting session s.waiting) step

abbrev pub entries_of : State → ManagerEvent → State → List Entry
entries_of s (Called session c step) new = entries_of_call s session c step new
entries_of s (Resumed session step) new = entries_of_resume s session step
entries_of s (GaveUp session step) new = entries_of_resume s session step
entries_of s (Forced n) new = []
entries_of s HasFailed new = []
entries_of s (TicketAsked ticket answer) new = Asked ticket answer ∷ []

-- the events lead to the state, and make the entries
abbrev pub MovesMaking : Geometry → State → List ManagerEvent → State → List Entry → Type 0
MovesMaking g s [] last made = (last ≡ s) × (made ≡ [])
MovesMaking g s (e ∷ events) last made = (new : State) × (later : List Entry)
    × EventMoves g s e new × MovesMaking g new events last later × (made ≡ entries_of s e new ++ later)

-- ---- what holds after it

-- The state is what a manager has come to that was opened on this list, after these entries: its sessions, log and locks are, its calls wait truly,
-- what was acknowledged is durable and each ticket is the number of its Commit, and there are no more transactions than there may be.
pub record IsStateAfter (o : Opening) (found : List LogRecord) (es : List Entry) (s : State) : Type 0 where
  pub sessions : IsSessionsState o found es s
  pub waits : WaitsOfSessions (length found) s
  pub forced : IsForced (length found) es s
  pub few : txn_count s ≤ MAX_TRANSACTIONS
