-- What the calls of sessions wait for, and what is forced, beside their history.
use Rattle.std.specs.Prelude.{◌≡◌, ◌≢◌, ◌<◌, ◌≤◌, ◌⊎◌, ℕ, List, None, Some, Contains, false, length, slice_get, take}
use Rattle.shore_types.specs.declared.locking.Granule.{Granule}
use Rattle.shore_model.specs.declared.histories.Decision.{Decision}
use Rattle.shore_model.specs.declared.histories.Decision.TheVariants as decision
use Rattle.shore_model.specs.declared.calls.Call.{Call}
use Rattle.shore_model.specs.declared.calls.Call.TheVariants as call
use Rattle.shore_model.specs.declared.calls.Outcome.{Outcome}
use Rattle.shore_model.specs.declared.requests.Request.{Request}
use Rattle.shore_model.specs.Locks.{path}
use Rattle.shore_locks.specs.Grants.{wanted_mode}
use Rattle.shore_locks.specs.Tables.{waiting_request}
use Rattle.shore_path.specs.Walks.{asked_of}
use Rattle.laws_locks.specs.CallLocks.{Asked, lock_asked_by}
use Rattle.laws_lives.specs.LogPrefixes.{decision_asked, decisions_in}
use Rattle.laws_lives.specs.Sessions.{PreparedTxn, ResolvedTxn, SessionTxn, Sessions, in_prepared, in_txn}
use Rattle.laws_lives.specs.Views.{IsAmong}
use Rattle.shore_model.specs.declared.step.Wait.TheVariants.{Lock}
use Rattle.laws_calls.specs.CallSteps.{HasEnded, IsPreparing}
use Rattle.laws_calls.specs.StateChanges.{decision_waiting}
use Rattle.laws_calls.specs.States.{HasSeat, IsOfSession, State, Waiting}

-- the session is in no transaction, or in one that is prepared
abbrev pub IsNotUnderWay : Sessions → ℕ → Type 0
IsNotUnderWay s session = (t : ℕ) → 0 < t → s.seats session ≢ in_txn t

-- a prepare or a resolve has decided this, and is not answered
abbrev pub IsUnanswered : Sessions → ℕ → Call → Decision → Type 0
IsUnanswered s session c d =
    ((t : ℕ) × (global : List ℕ) × IsPreparing s session t global × (c ≡ call.Prepare global) × (d ≡ decision.Prepare t global))
    ⊎ ((r : ResolvedTxn) × HasEnded s r × (c ≡ call.Resolve r.global r.outcome) × (d ≡ decision_asked r.txn r.outcome) × IsNotUnderWay s session)

-- it waits for its record, which the log has
pub record IsDecisionWait (base : ℕ) (s : State) (w : Waiting) : Type 0 where
  pub number : ℕ
  pub decision : Decision
  pub is : w ≡ decision_waiting w.session w.call number
  pub unanswered : IsUnanswered s.sessions w.session w.call decision
  pub some : 0 < number
  pub there : number ≤ length s.log
  pub decided : Contains (decisions_in base (take number s.log)) decision

-- a call of a transaction under way waits for a lock, which it asks for
pub record IsLockWait (s : State) (w : Waiting) : Type 0 where
  pub txn : SessionTxn
  pub active : HasSeat s.sessions txn
  pub of : txn.session ≡ w.session
  -- no rollback of it has begun, unless it is a victim
  pub whole : w.cycle ≡ None → txn.undo.rolling ≡ None
  pub at : Granule
  pub is : w.wait ≡ Lock at
  pub lock : Asked
  pub asked : lock_asked_by w.call ≡ Some lock

-- Each call that waits is a prepare, a resolve, or a call that asks for a lock, a session waits with one, and as long as no device has failed each transaction
-- that is prepared or resolved, and not answered, has such a call; a resolved one has no two. A commit never waits.
pub record WaitsOfSessions (base : ℕ) (s : State) : Type 0 where
  pub each : (w : Waiting) → IsAmong w s.waiting → IsDecisionWait base s w ⊎ IsLockWait s w
  pub once : (v w : Waiting) → IsAmong v s.waiting → IsAmong w s.waiting → v.session ≡ w.session → v ≡ w
  pub prepares : s.failed ≡ false → (p : PreparedTxn) → IsAmong p s.sessions.prepared → p.answered ≡ false
      → (session : ℕ) × (n : ℕ) × IsAmong (decision_waiting session (call.Prepare p.global) n) s.waiting × (s.sessions.seats session ≡ in_prepared p.txn)
  pub resolves : s.failed ≡ false → (r : ResolvedTxn) → HasEnded s.sessions r
      → (session : ℕ) × (n : ℕ) × IsAmong (decision_waiting session (call.Resolve r.global r.outcome) n) s.waiting
  pub resolve_once : (v w : Waiting) (global : List ℕ) (x y : Outcome) → IsAmong v s.waiting → IsAmong w s.waiting
      → v.call ≡ call.Resolve global x → w.call ≡ call.Resolve global y → v ≡ w

-- a request at a granule on the path to a call's lock, for the mode that the call asks there, joined to the one held
pub record IsItsRequest (c : Call) (at : Granule) (r : Request) : Type 0 where
  pub lock : Asked
  pub asked : lock_asked_by c ≡ Some lock
  pub there : r.granule ≡ at
  pub on : Contains (path lock.granule) at
  pub wanted : r.wanted ≡ Some (wanted_mode r.held (asked_of lock.granule lock.mode at))

-- A request with which the transaction of a session waits is its call's, at the granule for which the call waits.
abbrev pub WaitsThere : State → ℕ → Type 0
WaitsThere s session = (w : Waiting) → IsAmong w s.waiting → w.session ≡ session → (at : Granule) → w.wait ≡ Lock at
    → (a : SessionTxn) → IsOfSession s session a → (r : Request) → waiting_request a.txn s.locks.requests ≡ Some r → IsItsRequest w.call at r

-- so it is of each session
abbrev pub AllWaitThere : State → Type 0
AllWaitThere s = (session : ℕ) → WaitsThere s session

-- ---- cycles that are to be told

-- whichever transaction is under way of the session is the first of the cycle
abbrev pub BeginsWithIts : State → ℕ → List ℕ → Type 0
BeginsWithIts s session cycle = (a : SessionTxn) → IsOfSession s session a → slice_get cycle 0 ≡ Some a.txn

-- so it is of each session that is to be told a cycle
abbrev pub AllBeginWithTheirs : State → Type 0
AllBeginWithTheirs s = (w : Waiting) → IsAmong w s.waiting → (cycle : List ℕ) → w.cycle ≡ Some cycle → BeginsWithIts s w.session cycle

-- the session has a transaction under way, which is the first of the cycle
abbrev pub HasTheFirst : State → ℕ → List ℕ → Type 0
HasTheFirst s session cycle = (a : SessionTxn) × IsOfSession s session a × (slice_get cycle 0 ≡ Some a.txn)
