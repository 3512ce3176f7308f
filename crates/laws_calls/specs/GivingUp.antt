-- Waits for locks that are taken back.
use Rattle.std.specs.Prelude.{◌≡◌, ◌⊎◌, ℕ, Some, false}
use Rattle.shore_types.specs.declared.faults.Fault.TheVariants as fault
use Rattle.shore_types.specs.declared.locking.Granule.{Granule}
use Rattle.shore_model.specs.declared.requests.Request.{Request}
use Rattle.shore_model.specs.declared.step.Step.{Step}
use Rattle.shore_model.specs.declared.step.Step.TheVariants.{Nothing, Refused}
use Rattle.shore_model.specs.declared.step.Wait.TheVariants.{Lock}
use Rattle.shore_locks.specs.Grants.{cancelled, in_its_way}
use Rattle.shore_locks.specs.Tables.{is_waiting, waiting_request}
use Rattle.laws_lives.specs.Sessions.{SessionTxn}
use Rattle.laws_lives.specs.Views.{IsAmong}
use Rattle.laws_calls.specs.CallSteps.{with_requests}
use Rattle.laws_calls.specs.StateChanges.{wait_refused}
use Rattle.laws_calls.specs.States.{IsOfSession, State, Waiting}

-- A call of the session whose request waits in the table ends as a try does: it is refused, and told one for whom it would wait if it asked now. The request goes, which may
-- let others through. What the transaction held before stays, and so does the transaction.
pub record GivesUp (s : State) (session : ℕ) (step : Step) (new : State) : Type 0 where
  pub running : s.failed ≡ false
  pub waited : Waiting
  pub there : IsAmong waited s.waiting
  pub of : waited.session ≡ session
  pub at : Granule
  pub waits : waited.wait ≡ Lock at
  pub txn : SessionTxn
  pub its : IsOfSession s session txn
  pub request : Request
  pub asks : waiting_request txn.txn s.locks.requests ≡ Some request
  pub holder : ℕ
  pub blocked : in_its_way request s.locks.requests ≡ Some holder
  pub told : step ≡ Refused (fault.WouldBlock holder)
  pub is : new ≡ with_requests (wait_refused s session) (cancelled txn.txn s.locks.requests)

-- no call of the session has a request that waits: one that waits for a lock was let through, or is to be told its cycle
abbrev pub HasNoRequest : State → ℕ → Type 0
HasNoRequest s session = (w : Waiting) (at : Granule) (a : SessionTxn) → IsAmong w s.waiting → w.session ≡ session → w.wait ≡ Lock at → IsOfSession s session a
    → is_waiting a.txn s.locks.requests ≡ false

-- there is nothing to take back, or all calls are stopped by a failure
pub record GivesNothingUp (s : State) (session : ℕ) (step : Step) (new : State) : Type 0 where
  pub none : s.failed ≡ false → HasNoRequest s session
  pub told : step ≡ Nothing
  pub is : new ≡ s

-- what a session's wait comes to that is to be taken back
abbrev pub GiveUpStep : State → ℕ → Step → State → Type 0
GiveUpStep s session step new = GivesUp s session step new ⊎ GivesNothingUp s session step new
