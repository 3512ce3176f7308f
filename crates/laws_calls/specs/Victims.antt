-- Victims of cycles of waits: who is one, and what is left of the state.
use Rattle.std.specs.Prelude.{◌≡◌, ◌==◌, ℕ, List, [], ◌∷◌, Some, false, if◌then◌else◌, map}
use Rattle.shore_types.specs.declared.faults.Fault.TheVariants as fault
use Rattle.shore_locks.specs.Grants.{cancelled}
use Rattle.shore_cycles.specs.Cycles.{IsVictim}
use Rattle.shore_cycles.specs.declared.victims.Victim.{Victim}
use Rattle.laws_lives.specs.Sessions.{SessionTxn, doomed}
use Rattle.laws_lives.specs.Views.{IsAmong}
use Rattle.shore_model.specs.declared.step.Step.{Step}
use Rattle.shore_model.specs.declared.step.Step.TheVariants.{Refused}
use Rattle.laws_calls.specs.CallSteps.{with_requests}
use Rattle.laws_calls.specs.StateChanges.{wait_refused}
use Rattle.laws_calls.specs.States.{State, Waiting}

-- the calls that wait, once that of a session is to be told this cycle
abbrev pub with_cycle : ℕ → List ℕ → List Waiting → List Waiting
with_cycle session cycle ws =
    map (λ w. if w.session == session then record { session = w.session; call = w.call; wait = w.wait; cycle = Some cycle } else w) ws

-- A transaction is a victim: the request with which it waits is taken back, and others may be granted then. It keeps what it holds and what it has changed,
-- and can only be rolled back from now on; its call is to be told.
abbrev pub victim_taken : State → SessionTxn → List ℕ → State
victim_taken s b cycle =
    with_requests (record s { sessions = doomed s.sessions b; waiting = with_cycle b.session cycle s.waiting }) (cancelled b.txn s.locks.requests)

-- the victim is the transaction with the greatest number of a cycle of waits that passes t, and this is left
pub record TakesVictim (s : State) (t : ℕ) (v : Victim) (new : State) : Type 0 where
  pub txn : SessionTxn
  pub active : IsAmong txn s.sessions.active
  pub number : txn.txn ≡ v.txn
  pub victim : IsVictim s.locks.requests t v
  pub is : new ≡ victim_taken s txn v.cycle

-- victims in turn, each on a cycle that the earlier ones left
abbrev pub TakesVictims : State → ℕ → List Victim → State → Type 0
TakesVictims s t [] new = new ≡ s
TakesVictims s t (v ∷ vs) new = (mid : State) × TakesVictim s t v mid × TakesVictims mid t vs new

-- the session of a victim is told its cycle, and waits no more
pub record TellsVictim (s : State) (session : ℕ) (step : Step) (new : State) : Type 0 where
  pub running : s.failed ≡ false
  pub waited : Waiting
  pub there : IsAmong waited s.waiting
  pub of : waited.session ≡ session
  pub cycle : List ℕ
  pub victim : waited.cycle ≡ Some cycle
  pub told : step ≡ Refused (fault.Deadlock cycle)
  pub is : new ≡ wait_refused s session

-- the call of a transaction that waits for a lock is refused, as memory for the search is short: its request is taken back, and it may be made again
abbrev pub Withdraws : State → SessionTxn → Step → State → Type 0
Withdraws s a step new = (step ≡ Refused fault.Memory) × (new ≡ with_requests (wait_refused s a.session) (cancelled a.txn s.locks.requests))
