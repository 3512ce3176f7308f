-- The states that a call or a resume comes by before it ends: behind each victim that is taken, and behind each time that the call goes on and waits anew.
use Rattle.std.specs.Prelude.{◌≡◌, ◌⊎◌, ◌≤◌, ℕ, List, [], ◌∷◌, Some, All, true}
use Rattle.shore_types.specs.declared.layout.Geometry.{Geometry}
use Rattle.shore_types.specs.declared.locking.Granule.{Granule}
use Rattle.shore_model.specs.declared.calls.Call.{Call}
use Rattle.shore_model.specs.declared.requests.Request.{Request}
use Rattle.shore_locks.specs.Tables.{is_waiting, waiting_request}
use Rattle.shore_cycles.specs.Cycles.{IsSimpleCycleFrom}
use Rattle.shore_cycles.specs.declared.victims.Victim.{Victim}
use Rattle.laws_lives.specs.Sessions.{SessionTxn, Sessions, doomed, locks_moved}
use Rattle.shore_model.specs.declared.step.Step.{Step}
use Rattle.shore_model.specs.declared.step.Step.TheVariants.{Waits}
use Rattle.shore_model.specs.declared.step.Wait.TheVariants.{Lock}
use Rattle.laws_calls.specs.CallSteps.{CallStep, ResumeStep}
use Rattle.laws_calls.specs.Settling.{WaitsForNoLock}
use Rattle.laws_calls.specs.StateChanges.{wait_refused}
use Rattle.laws_calls.specs.States.{IsOfSession, State}
use Rattle.laws_calls.specs.Victims.{TakesVictim, TellsVictim, Withdraws}

-- what comes between: a transaction is taken as a victim, or the call goes on and waits at a granule
pub data Interlude : Type 0 where
  Takes : SessionTxn → Victim → Interlude
  WaitsAnew : Granule → Interlude

-- A victim is on a cycle that passes the session's transaction.
abbrev pub Intervenes : Geometry → ℕ → State → Interlude → State → Type 0
Intervenes g session s (Takes b v) new = (a : SessionTxn) × IsOfSession s session a × ((h : TakesVictim s a.txn v new) × (h.txn ≡ b))
Intervenes g session s (WaitsAnew at) new = ResumeStep g s session (Waits (Lock at)) new

-- one after another
abbrev pub Intervene : Geometry → ℕ → State → List Interlude → State → Type 0
Intervene g session s [] last = last ≡ s
Intervene g session s (e ∷ between) last = (next : State) × Intervenes g session s e next × Intervene g session next between last

-- midway in a call of the session: it has come to wait for a lock, and these came between
pub record IsMidway (g : Geometry) (s : State) (session : ℕ) (c : Call) (between : List Interlude) (x : State) : Type 0 where
  pub at : Granule
  pub waits : State
  pub calls : CallStep g s session c (Waits (Lock at)) waits
  pub intervene : Intervene g session waits between x

-- the transaction under way of the session has a request that waits at the granule
pub record HasItsWait (s : State) (session : ℕ) (at : Granule) : Type 0 where
  pub txn : SessionTxn
  pub of : IsOfSession s session txn
  pub request : Request
  pub waits : waiting_request txn.txn s.locks.requests ≡ Some request
  pub there : request.granule ≡ at

-- a cycle of waits that begins with the transaction under way of the session, and comes by nobody twice; that transaction is the greatest of it
pub record IsItsCycle (s : State) (session : ℕ) (cycle : List ℕ) : Type 0 where
  pub txn : SessionTxn
  pub of : IsOfSession s session txn
  pub stands : IsSimpleCycleFrom s.locks.requests txn.txn cycle
  pub greatest : All (λ u. u ≤ txn.txn) cycle

-- it waits on
pub record StaysWaiting (x : State) (session : ℕ) (step : Step) (new : State) : Type 0 where
  pub at : Granule
  pub step_is : step ≡ Waits (Lock at)
  pub txn : SessionTxn
  pub of : IsOfSession x session txn
  pub waits : is_waiting txn.txn x.locks.requests ≡ true
  pub is : new ≡ x

-- it is told that it is a victim, or memory for the search was short
abbrev pub IsCutShort : State → ℕ → Step → State → Type 0
IsCutShort x session step new = TellsVictim x session step new ⊎ ((a : SessionTxn) × IsOfSession x session a × Withdraws x a step new)

-- What it comes to from there: it waits on, or it is stopped, or it goes on, and waits for no lock.
abbrev pub EndsFrom : Geometry → State → ℕ → Step → State → Type 0
EndsFrom g x session step new = StaysWaiting x session step new ⊎ (IsCutShort x session step new ⊎ (WaitsForNoLock step × ResumeStep g x session step new))

-- ---- the states in which a call asks

-- A call asks as it is made, and each time that it goes on: the wait is over then, and its locks are asked for as if it were made now.
abbrev pub AsksIn : Geometry → State → ℕ → Call → State → Type 0
AsksIn g s session c z = (z ≡ s) ⊎ ((between : List Interlude) × (x : State) × IsMidway g s session c between x × (z ≡ wait_refused x session))

-- .. and as it is resumed
abbrev pub AsksAgainIn : Geometry → State → ℕ → State → Type 0
AsksAgainIn g s session z = (between : List Interlude) × (x : State) × Intervene g session s between x × (z ≡ wait_refused x session)

-- ---- what is left

-- the transactions that were taken as victims
abbrev pub victims_among : List Interlude → List SessionTxn
victims_among [] = []
victims_among (Takes b v ∷ between) = b ∷ victims_among between
victims_among (WaitsAnew at ∷ between) = victims_among between

-- .. with the cycles that they are told
abbrev pub cycles_among : List Interlude → List Victim
cycles_among [] = []
cycles_among (Takes b v ∷ between) = v ∷ cycles_among between
cycles_among (WaitsAnew at ∷ between) = cycles_among between

-- each of these is doomed
abbrev pub all_doomed : Sessions → List SessionTxn → Sessions
all_doomed s [] = s
all_doomed s (b ∷ bs) = all_doomed (doomed s b) bs

-- The state as it was, but that these are doomed, with the locks, the requests and the calls that wait of another: the records in place, the log, the slots of
-- the pages, what is durable, and each other undo list are as they were.
abbrev pub but_doomed : State → List SessionTxn → State → State
but_doomed s bs other = record s {
  sessions = locks_moved (all_doomed s.sessions bs) other.sessions.held;
  locks = other.locks;
  waiting = other.waiting;
  failed = other.failed;
}
