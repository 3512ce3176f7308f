-- What the lock that a call asks for comes to: rounds of a wait and of victims that let it through, and an end.
use Rattle.std.specs.Prelude.{◌≡◌, ◌⊎◌, ℕ, List, [], ◌∷◌, Result, Ok, Err, Some, true, false}
use Rattle.shore_types.specs.declared.faults.Fault.{Fault}
use Rattle.shore_types.specs.declared.faults.Fault.TheVariants as fault
use Rattle.shore_types.specs.declared.locking.Granule.{Granule}
use Rattle.shore_model.specs.declared.calls.Call.{Call}
use Rattle.shore_locks.specs.Grants.{cancelled}
use Rattle.shore_locks.specs.Tables.{is_waiting}
use Rattle.shore_path.specs.declared.answers.Acquired.{Acquired}
use Rattle.shore_path.specs.declared.answers.Acquired.TheVariants as acquire
use Rattle.shore_cycles.specs.Blockers.{is_victim}
use Rattle.shore_cycles.specs.Cycles.{IsOnNoCycle}
use Rattle.shore_cycles.specs.declared.victims.Victim.{Victim}
use Rattle.laws_locks.specs.CallLocks.{Asked}
use Rattle.laws_lives.specs.Sessions.{SessionTxn}
use Rattle.laws_lives.specs.Views.{IsAmong}
use Rattle.laws_calls.specs.CallSteps.{behind_lock, lock_outcome, lock_waiting, with_requests}
use Rattle.laws_calls.specs.StateChanges.{wait_refused}
use Rattle.laws_calls.specs.States.{State}
use Rattle.laws_calls.specs.Victims.{TakesVictims}

-- the call waits for the lock at a granule of the path
abbrev pub waits_at : State → SessionTxn → Call → Asked → Granule → State
waits_at s a c lock at = record (behind_lock s a c lock) { waiting = lock_waiting a c at ∷ s.waiting }

-- the lock waits there, and victims break cycles that its wait closes
pub record IsBroken (s : State) (a : SessionTxn) (c : Call) (lock : Asked) (at : Granule) (vs : List Victim) (broken : State) : Type 0 where
  pub waits : (lock_outcome s a c lock).answer ≡ Ok (acquire.Waiting at)
  pub victims : TakesVictims (waits_at s a c lock at) a.txn vs broken

-- rounds, in each of which victims were all that stood in its way: then it asks anew
abbrev pub LetThrough : State → SessionTxn → Call → Asked → List (List Victim) → State → Type 0
LetThrough s a c lock [] later = later ≡ s
LetThrough s a c lock (vs ∷ rounds) later =
    (at : Granule) × (broken : State) × IsBroken s a c lock at vs broken × (is_victim vs a.txn ≡ false) × (is_waiting a.txn broken.locks.requests ≡ false)
    × LetThrough (wait_refused broken a.session) a c lock rounds later

-- it has the lock, or waits on, on no cycle
abbrev pub EndsWell : State → SessionTxn → Call → Asked → Acquired → State → Type 0
EndsWell s a c lock acquire.Done new = ((lock_outcome s a c lock).answer ≡ Ok acquire.Done) × (new ≡ behind_lock s a c lock)
EndsWell s a c lock (acquire.Waiting at) new =
    (vs : List Victim) × (broken : State) × IsBroken s a c lock at vs broken × (is_victim vs a.txn ≡ false) × (is_waiting a.txn broken.locks.requests ≡ true)
    × IsOnNoCycle broken.locks.requests a.txn × (broken ≡ record new { waiting = lock_waiting a c at ∷ new.waiting })

-- it is a victim itself, of this cycle
abbrev pub EndsAsVictim : State → SessionTxn → Call → Asked → Fault → State → Type 0
EndsAsVictim s a c lock f new =
    (at : Granule) × (vs : List Victim) × (broken : State) × IsBroken s a c lock at vs broken × (cycle : List ℕ) × (f ≡ fault.Deadlock cycle)
    × IsAmong (record (lock_waiting a c at) { cycle = Some cycle }) broken.waiting × (new ≡ wait_refused broken a.session)

-- memory for the search is short
abbrev pub EndsShort : State → SessionTxn → Call → Asked → Fault → State → Type 0
EndsShort s a c lock f new =
    (at : Granule) × ((lock_outcome s a c lock).answer ≡ Ok (acquire.Waiting at)) × (f ≡ fault.Memory)
    × (new ≡ with_requests (wait_refused (waits_at s a c lock at) a.session) (cancelled a.txn (behind_lock s a c lock).locks.requests))

abbrev pub EndsLock : State → SessionTxn → Call → Asked → Result Acquired Fault → State → Type 0
EndsLock s a c lock (Ok acquired) new = EndsWell s a c lock acquired new
EndsLock s a c lock (Err f) new =
    (((lock_outcome s a c lock).answer ≡ Err f) × (new ≡ behind_lock s a c lock)) ⊎ (EndsAsVictim s a c lock f new ⊎ EndsShort s a c lock f new)

-- The lock comes to this answer and this state, in which the call itself does not wait: if it has to, its wait is noted behind it.
pub record LocksTo (s : State) (a : SessionTxn) (c : Call) (lock : Asked) (answer : Result Acquired Fault) (new : State) : Type 0 where
  pub rounds : List (List Victim)
  pub later : State
  pub go : LetThrough s a c lock rounds later
  pub ends : EndsLock later a c lock answer new
