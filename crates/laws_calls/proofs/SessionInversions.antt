-- What stands behind a step of a session: its transaction, and the lock that its call has.
use Rattle.std.proofs.Common.{◌≡◌, ◌≢◌, ◌⊎◌, inl, inr, ⊎_elim, ℕ, List, false, None, Some, sym, ap, subst, Ok, Err}
use Rattle.std.specs.Prelude.{Option}
use Rattle.shore_types.specs.declared.faults.Fault.{Fault}
use Rattle.shore_types.specs.declared.faults.Fault.TheVariants as fault
use Rattle.shore_types.specs.declared.layout.Geometry.{Geometry}
use Rattle.shore_types.specs.declared.locking.Granule.{Granule}
use Rattle.shore_model.specs.declared.calls.Answer.{Answer}
use Rattle.shore_model.specs.declared.calls.Call.{Call}
use Rattle.shore_model.specs.declared.calls.Call.TheVariants as call
use Rattle.shore_path.specs.declared.answers.Acquired.TheVariants as acquire
use Rattle.laws_locks.specs.CallLocks.{Asked, lock_asked_by}
use Rattle.shore_model.specs.declared.rollbacks.Rollback.{Rollback}
use Rattle.shore_model.specs.declared.rollbacks.Rollback.TheVariants.{To, Whole}
use Rattle.laws_lives.specs.Sessions.{SessionTxn}
use Rattle.shore_model.specs.declared.step.Step.{Step}
use Rattle.shore_model.specs.declared.step.Step.TheVariants.{Done, Refused, Waits}
use Rattle.shore_model.specs.declared.step.Wait.{Wait}
use Rattle.shore_model.specs.declared.step.Wait.TheVariants.{Durable, Lock}
use Rattle.laws_calls.specs.CallSteps.{AbortStep, AnswersBehind, BeginStep, CommitStep, CallGoesOn, InnerStep, MayAsk, RefusesBehind, RefusesEarly, CallStep, behind_lock, lock_outcome, NeedsTxn, OutsideStep}
use Rattle.laws_calls.specs.Rollbacks.{BackToStep, IsInterrupted, SavepointStep, TakesCall}
use Rattle.laws_calls.specs.Shapes.{rollback_of, store_lock}
use Rattle.laws_calls.specs.StateChanges.{IsPageFault}
use Rattle.laws_calls.specs.States.{DoesNotWait, IsOfSession, State, next_number}
use Rattle.laws_calls.specs.Prepares.{PrepareStep, RefusesPrepare}
use Rattle.laws_calls.proofs.Outside.{not_outside, outside_no_lock, outside_waits, CommitWaits, RollbackWaits}

-- ---- clashes of steps

no_done_refused : (answer : Answer) (f : Fault) → Done answer ≡ Refused f → ⊥
no_done_refused answer f e = cc

pub no_waits_refused : (wait : Wait) (f : Fault) → Waits wait ≡ Refused f → ⊥
no_waits_refused wait f e = cc

pub durable_no_lock : (n : ℕ) (at : Granule) → Durable n ≡ Lock at → ⊥
durable_no_lock n at e = cc

pub same_fault : (f h : Fault) → Refused f ≡ Refused h → f ≡ h
same_fault f h e = cc

-- a begin asks for no lock
pub asks_no_begin : (c : Call) (lock : Asked) → lock_asked_by c ≡ Some lock → c ≢ call.Begin
asks_no_begin c lock asks e = let clash : lock_asked_by call.Begin ≡ Some lock = subst (λ (c : Call). lock_asked_by c ≡ Some lock) e asks in absurd cc

-- what asks for a lock needs a transaction
pub asks_in_txn : (c : Call) (lock : Asked) → lock_asked_by c ≡ Some lock → NeedsTxn c
asks_in_txn call.Begin lock asks = absurd cc
asks_in_txn (call.Resolve global outcome) lock asks = absurd cc
asks_in_txn call.InDoubt lock asks = absurd cc
asks_in_txn _ lock asks = tt

-- a call asks for one lock, an insert for that of its store
pub same_lock : (o : Option Asked) (x y : Asked) → o ≡ Some x → o ≡ Some y → x ≡ y
same_lock o x y d e = cc

pub insert_asks : (store : ℕ) (bytes : List ℕ) (lock : Asked) → lock_asked_by (call.Insert store bytes) ≡ Some lock → lock ≡ store_lock store
insert_asks store bytes lock e = cc

-- a call that undoes, or says to where, and asks for no lock
abbrev pub IsLockless : Call → Type 0
IsLockless call.Savepoint = Unit {0}
IsLockless (call.BackTo n) = Unit {0}
IsLockless call.Abort = Unit {0}
IsLockless call.Begin = ⊥
IsLockless (call.Get id) = ⊥
IsLockless (call.GetForUpdate id) = ⊥
IsLockless (call.Insert store bytes) = ⊥
IsLockless (call.Update id bytes) = ⊥
IsLockless (call.Delete id) = ⊥
IsLockless (call.Scan store) = ⊥
IsLockless (call.Lock at mode) = ⊥
IsLockless (call.TryLock at mode) = ⊥
IsLockless call.Commit = Unit {0}
IsLockless (call.Prepare global) = Unit {0}
IsLockless (call.Resolve global outcome) = ⊥
IsLockless call.InDoubt = ⊥

pub asks_no_lockless : (c : Call) (lock : Asked) → lock_asked_by c ≡ Some lock → IsLockless c → ⊥
asks_no_lockless call.Commit lock asks h = absurd cc
asks_no_lockless call.Savepoint lock asks h = absurd cc
asks_no_lockless (call.BackTo n) lock asks h = absurd cc
asks_no_lockless call.Abort lock asks h = absurd cc
asks_no_lockless (call.Prepare global) lock asks h = absurd cc
asks_no_lockless _ lock asks h = h

-- ---- calls that are answered

-- the call has its lock, and is answered behind it
pub record AnsweredFrom (g : Geometry) (s : State) (a : SessionTxn) (c : Call) (answer : Answer) (new : State) : Type 0 where
  pub lock : Asked
  pub asks : lock_asked_by c ≡ Some lock
  pub done : (lock_outcome s a c lock).answer ≡ Ok acquire.Done
  pub behind : AnswersBehind g (behind_lock s a c lock) a c answer new

-- .. of a session that runs and does not wait
pub record AnsweredIn (g : Geometry) (s : State) (session : ℕ) (c : Call) (answer : Answer) (new : State) : Type 0 where
  pub running : s.failed ≡ false
  pub idle : DoesNotWait s session
  pub txn : SessionTxn
  pub of : IsOfSession s session txn
  pub whole : txn.undo.rolling ≡ None
  pub may : MayAsk g c
  pub from : AnsweredFrom g s txn c answer new

module _ (g : Geometry) (s : State) (a : SessionTxn) (c : Call) (new : State) where
  pub answered_from : (answer : Answer) → CallGoesOn g s a c (Done answer) new → AnsweredFrom g s a c answer new
  answered_from answer h = record {
    lock = h.1.0;
    asks = h.1.1;
    done = h.1.2;
    behind = subst (λ (l : State). AnswersBehind g l a c answer new) h.1.3 h.2;
  }

module _ (g : Geometry) (s new : State) (session : ℕ) where
  pub answered_in : (c : Call) (answer : Answer) → NeedsTxn c → (IsLockless c → ⊥) → CallStep g s session c (Done answer) new → AnsweredIn g s session c answer new
  answered_in c answer needs locks (inl h) = absurd (no_done_refused answer fault.Memory h.0)
  answered_in c answer needs locks (inr (inl h)) = absurd (no_done_refused answer fault.Failed h.1)
  answered_in c answer needs locks (inr (inr (inl h))) = absurd (no_done_refused answer fault.Busy h.2)
  answered_in c answer needs locks (inr (inr (inr (inl h)))) = absurd (subst NeedsTxn h.2 needs)
  answered_in c answer needs locks (inr (inr (inr (inr (inl h))))) = absurd (no_done_refused answer fault.NoTransaction h.4)
  answered_in c answer needs locks (inr (inr (inr (inr (inr (inr (inl h))))))) = absurd (no_done_refused answer fault.IsPrepared h.4)
  answered_in c answer needs locks (inr (inr (inr (inr (inr (inr (inr h))))))) = absurd (not_outside s session c (Done answer) new needs h.2)
  answered_in c answer needs locks (inr (inr (inr (inr (inr (inl h)))))) = inner h.2.2
    where
      inner : InnerStep g s h.2.0 c (Done answer) new → AnsweredIn g s session c answer new
      inner (inl x) = absurd (no_done_refused answer fault.MustAbort x.2)
      inner (inr (inl (whole, inl x))) = absurd (no_done_refused answer x.0 x.2)
      inner (inr (inl (whole, inr (inl x)))) = record { running = h.0; idle = h.1; txn = h.2.0; of = h.2.1; whole = whole; may = x.0; from = answered_from g s h.2.0 c new answer x.1 }
      inner (inr (inl (whole, inr (inr (inl x))))) = absurd (locks (subst IsLockless (sym x.0) tt))
      inner (inr (inl (whole, inr (inr (inr (inl x)))))) = absurd (locks (subst IsLockless (sym x.0) tt))
      inner (inr (inl (whole, inr (inr (inr (inr x)))))) = absurd x.2
      inner (inr (inr (inl x))) = absurd (locks (subst IsLockless (sym x.1) tt))
      inner (inr (inr (inr x))) = absurd (locks (subst IsLockless (sym x.0) tt))

  -- whatever is answered to a transaction
  pub answered_of : (c : Call) (answer : Answer) → NeedsTxn c → CallStep g s session c (Done answer) new → (a : SessionTxn) × IsOfSession s session a × InnerStep g s a c (Done answer) new
  answered_of c answer needs (inl h) = absurd (no_done_refused answer fault.Memory h.0)
  answered_of c answer needs (inr (inl h)) = absurd (no_done_refused answer fault.Failed h.1)
  answered_of c answer needs (inr (inr (inl h))) = absurd (no_done_refused answer fault.Busy h.2)
  answered_of c answer needs (inr (inr (inr (inl h)))) = absurd (subst NeedsTxn h.2 needs)
  answered_of c answer needs (inr (inr (inr (inr (inl h))))) = absurd (no_done_refused answer fault.NoTransaction h.4)
  answered_of c answer needs (inr (inr (inr (inr (inr (inr (inl h))))))) = absurd (no_done_refused answer fault.IsPrepared h.4)
  answered_of c answer needs (inr (inr (inr (inr (inr (inr (inr h))))))) = absurd (not_outside s session c (Done answer) new needs h.2)
  answered_of c answer needs (inr (inr (inr (inr (inr (inl h)))))) = (h.2.0, h.2.1, h.2.2)

  pub saved_in : (answer : Answer) → CallStep g s session call.Savepoint (Done answer) new
      → (a : SessionTxn) × IsOfSession s session a × (a.undo.rolling ≡ None) × SavepointStep s a (Done answer) new
  saved_in answer h = let t = answered_of call.Savepoint answer tt h in let how = by t.0 t.2 in (t.0, t.1, how.0, how.1)
    where
      by : (a : SessionTxn) → InnerStep g s a call.Savepoint (Done answer) new → (a.undo.rolling ≡ None) × SavepointStep s a (Done answer) new
      by a (inl x) = absurd (no_done_refused answer fault.MustAbort x.2)
      by a (inr (inl (whole, inl x))) = absurd x.1
      by a (inr (inl (whole, inr (inl x)))) = absurd x.0
      by a (inr (inl (whole, inr (inr (inl x))))) = let clash = x.0 in absurd cc
      by a (inr (inl (whole, inr (inr (inr (inl x)))))) = (whole, x.1)
      by a (inr (inl (whole, inr (inr (inr (inr x)))))) = absurd x.2
      by a (inr (inr (inl x))) = let clash = x.1 in absurd cc
      by a (inr (inr (inr x))) = let clash = x.0 in absurd cc

  same_savepoint : (n m : ℕ) → call.BackTo n ≡ call.BackTo m → m ≡ n
  same_savepoint n m e = cc

  pub went_back_in : (n : ℕ) (answer : Answer) → CallStep g s session (call.BackTo n) (Done answer) new
      → (a : SessionTxn) × IsOfSession s session a × TakesCall a.undo (call.BackTo n) × BackToStep s a n (Done answer) new
  went_back_in n answer h = let t = answered_of (call.BackTo n) answer tt h in let how = by t.0 t.2 in (t.0, t.1, how.0, how.1)
    where
      by : (a : SessionTxn) → InnerStep g s a (call.BackTo n) (Done answer) new → TakesCall a.undo (call.BackTo n) × BackToStep s a n (Done answer) new
      by a (inl x) = absurd (no_done_refused answer fault.MustAbort x.2)
      by a (inr (inl (whole, inl x))) = absurd x.1
      by a (inr (inl (whole, inr (inl x)))) = absurd x.0
      by a (inr (inl (whole, inr (inr (inl x))))) = let clash = x.0 in absurd cc
      by a (inr (inl (whole, inr (inr (inr (inl x)))))) = let clash = x.0 in absurd cc
      by a (inr (inl (whole, inr (inr (inr (inr x)))))) = absurd x.2
      by a (inr (inr (inl x))) = (x.2, subst (λ m. BackToStep s a m (Done answer) new) (same_savepoint n x.0 x.1) x.3)
      by a (inr (inr (inr x))) = let clash = x.0 in absurd cc

  pub aborted_in : (answer : Answer) → CallStep g s session call.Abort (Done answer) new → (a : SessionTxn) × IsOfSession s session a × AbortStep s a (Done answer) new
  aborted_in answer h = let t = answered_of call.Abort answer tt h in (t.0, t.1, by t.0 t.2)
    where
      by : (a : SessionTxn) → InnerStep g s a call.Abort (Done answer) new → AbortStep s a (Done answer) new
      by a (inl x) = absurd (no_done_refused answer fault.MustAbort x.2)
      by a (inr (inl (whole, inl x))) = absurd x.1
      by a (inr (inl (whole, inr (inl x)))) = absurd x.0
      by a (inr (inl (whole, inr (inr (inl x))))) = let clash = x.0 in absurd cc
      by a (inr (inl (whole, inr (inr (inr (inl x)))))) = let clash = x.0 in absurd cc
      by a (inr (inl (whole, inr (inr (inr (inr x)))))) = absurd x.2
      by a (inr (inr (inl x))) = let clash = x.1 in absurd cc
      by a (inr (inr (inr x))) = x.1

  -- a commit is answered
  pub committed_in : (answer : Answer) → CallStep g s session call.Commit (Done answer) new
      → (a : SessionTxn) × IsOfSession s session a × (a.undo.rolling ≡ None) × CommitStep s a (Done answer) new
  committed_in answer h = let t = answered_of call.Commit answer tt h in let k = by t.0 t.2 in (t.0, t.1, k.0, k.1)
    where
      by : (a : SessionTxn) → InnerStep g s a call.Commit (Done answer) new → (a.undo.rolling ≡ None) × CommitStep s a (Done answer) new
      by a (inl x) = absurd (no_done_refused answer fault.MustAbort x.2)
      by a (inr (inl (whole, inl x))) = absurd x.1
      by a (inr (inl (whole, inr (inl x)))) = absurd x.0
      by a (inr (inl (whole, inr (inr (inl x))))) = (whole, x.1)
      by a (inr (inl (whole, inr (inr (inr (inl x)))))) = let clash = x.0 in absurd cc
      by a (inr (inl (whole, inr (inr (inr (inr x)))))) = absurd x.2
      by a (inr (inr (inl x))) = let clash = x.1 in absurd cc
      by a (inr (inr (inr x))) = let clash = x.0 in absurd cc

  not_begun : {step : Step} → OutsideStep s session call.Begin step new → ⊥
  not_begun (inl h) = let clash = h.0 in cc
  not_begun (inr h) = let clash = h.2 in cc

  -- a begin
  pub begun_in : (answer : Answer) → CallStep g s session call.Begin (Done answer) new → (s.failed ≡ false) × DoesNotWait s session × BeginStep s session (Done answer) new
  begun_in answer (inl h) = absurd (no_done_refused answer fault.Memory h.0)
  begun_in answer (inr (inl h)) = absurd (no_done_refused answer fault.Failed h.1)
  begun_in answer (inr (inr (inl h))) = absurd (no_done_refused answer fault.Busy h.2)
  begun_in answer (inr (inr (inr (inl h)))) = (h.0, h.1, h.3)
  begun_in answer (inr (inr (inr (inr (inl h))))) = absurd h.2
  begun_in answer (inr (inr (inr (inr (inr (inr (inl h))))))) = absurd h.2
  begun_in answer (inr (inr (inr (inr (inr (inr (inr h))))))) = absurd (not_begun h.2)
  begun_in answer (inr (inr (inr (inr (inr (inl h)))))) = absurd (no_begin_inside h.2.0 (Done answer) h.2.2)
    where
      no_begin_inside : (a : SessionTxn) (step : Step) → InnerStep g s a call.Begin step new → ⊥
      no_begin_inside a step (inl x) = x.0
      no_begin_inside a step (inr (inl (whole, inl x))) = x.1
      no_begin_inside a step (inr (inl (whole, inr (inl x)))) = x.0
      no_begin_inside a step (inr (inl (whole, inr (inr (inl x))))) = let clash = x.0 in cc
      no_begin_inside a step (inr (inl (whole, inr (inr (inr (inl x)))))) = let clash = x.0 in cc
      no_begin_inside a step (inr (inl (whole, inr (inr (inr (inr x)))))) = let clash = x.1 in cc
      no_begin_inside a step (inr (inr (inl x))) = let clash = x.1 in cc
      no_begin_inside a step (inr (inr (inr x))) = let clash = x.0 in cc

  -- whatever is answered, its session runs and does not wait
  pub answered_running : (c : Call) (answer : Answer) → CallStep g s session c (Done answer) new → (s.failed ≡ false) × DoesNotWait s session
  answered_running c answer (inl h) = absurd (no_done_refused answer fault.Memory h.0)
  answered_running c answer (inr (inl h)) = absurd (no_done_refused answer fault.Failed h.1)
  answered_running c answer (inr (inr (inl h))) = absurd (no_done_refused answer fault.Busy h.2)
  answered_running c answer (inr (inr (inr (inl h)))) = (h.0, h.1)
  answered_running c answer (inr (inr (inr (inr (inl h))))) = (h.0, h.1)
  answered_running c answer (inr (inr (inr (inr (inr (inr (inl h))))))) = (h.0, h.1)
  answered_running c answer (inr (inr (inr (inr (inr (inr (inr h))))))) = (h.0, h.1)
  answered_running c answer (inr (inr (inr (inr (inr (inl h)))))) = (h.0, h.1)

  -- ---- calls that wait

  -- whatever waits, its session runs and did not wait
  pub waits_running : (c : Call) (wait : Wait) → CallStep g s session c (Waits wait) new → (s.failed ≡ false) × DoesNotWait s session
  waits_running c wait (inl h) = absurd (no_waits_refused wait fault.Memory h.0)
  waits_running c wait (inr (inl h)) = absurd (no_waits_refused wait fault.Failed h.1)
  waits_running c wait (inr (inr (inl h))) = absurd (no_waits_refused wait fault.Busy h.2)
  waits_running c wait (inr (inr (inr (inl h)))) = (h.0, h.1)
  waits_running c wait (inr (inr (inr (inr (inl h))))) = (h.0, h.1)
  waits_running c wait (inr (inr (inr (inr (inr (inr (inl h))))))) = (h.0, h.1)
  waits_running c wait (inr (inr (inr (inr (inr (inr (inr h))))))) = (h.0, h.1)
  waits_running c wait (inr (inr (inr (inr (inr (inl h)))))) = (h.0, h.1)

  -- a call of a transaction under way
  pub waits_of : (c : Call) (wait : Wait) → NeedsTxn c → CallStep g s session c (Waits wait) new → (a : SessionTxn) × IsOfSession s session a × InnerStep g s a c (Waits wait) new
  waits_of c wait needs (inl h) = absurd (no_waits_refused wait fault.Memory h.0)
  waits_of c wait needs (inr (inl h)) = absurd (no_waits_refused wait fault.Failed h.1)
  waits_of c wait needs (inr (inr (inl h))) = absurd (no_waits_refused wait fault.Busy h.2)
  waits_of c wait needs (inr (inr (inr (inl h)))) = absurd h.3
  waits_of c wait needs (inr (inr (inr (inr (inl h))))) = absurd (no_waits_refused wait fault.NoTransaction h.4)
  waits_of c wait needs (inr (inr (inr (inr (inr (inr (inl h))))))) = absurd (no_waits_refused wait fault.IsPrepared h.4)
  waits_of c wait needs (inr (inr (inr (inr (inr (inr (inr h))))))) = absurd (not_outside s session c (Waits wait) new needs h.2)
  waits_of c wait needs (inr (inr (inr (inr (inr (inl h)))))) = h.2

  -- no rollback of it is under way
  pub waits_whole : (c : Call) (wait : Wait) (a : SessionTxn) → InnerStep g s a c (Waits wait) new → a.undo.rolling ≡ None
  waits_whole c wait a (inl x) = absurd (no_waits_refused wait fault.MustAbort x.2)
  waits_whole c wait a (inr (inl x)) = x.0
  waits_whole c wait a (inr (inr (inl x))) = absurd x.3
  waits_whole c wait a (inr (inr (inr x))) = absurd x.1

  -- a call that waits for a lock goes on from its locks
  pub record WaitsOnLock (c : Call) (at : Granule) : Type 0 where
    pub running : s.failed ≡ false
    pub idle : DoesNotWait s session
    pub txn : SessionTxn
    pub of : IsOfSession s session txn
    pub whole : txn.undo.rolling ≡ None
    pub may : MayAsk g c
    pub goes : CallGoesOn g s txn c (Waits (Lock at)) new

  pub waits_on_lock : (c : Call) (at : Granule) → CallStep g s session c (Waits (Lock at)) new → WaitsOnLock c at
  waits_on_lock c at (inl h) = absurd (no_waits_refused (Lock at) fault.Memory h.0)
  waits_on_lock c at (inr (inl h)) = absurd (no_waits_refused (Lock at) fault.Failed h.1)
  waits_on_lock c at (inr (inr (inl h))) = absurd (no_waits_refused (Lock at) fault.Busy h.2)
  waits_on_lock c at (inr (inr (inr (inl h)))) = absurd h.3
  waits_on_lock c at (inr (inr (inr (inr (inl h))))) = absurd (no_waits_refused (Lock at) fault.NoTransaction h.4)
  waits_on_lock c at (inr (inr (inr (inr (inr (inr (inl h))))))) = absurd (no_waits_refused (Lock at) fault.IsPrepared h.4)
  waits_on_lock c at (inr (inr (inr (inr (inr (inr (inr h))))))) = absurd (outside_no_lock s session c at new h.2)
  waits_on_lock c at (inr (inr (inr (inr (inr (inl h)))))) =
      let k = how h.2.2 in record { running = h.0; idle = h.1; txn = h.2.0; of = h.2.1; whole = waits_whole c (Lock at) h.2.0 h.2.2; may = k.0; goes = k.1 }
    where
      how : InnerStep g s h.2.0 c (Waits (Lock at)) new → MayAsk g c × CallGoesOn g s h.2.0 c (Waits (Lock at)) new
      how (inl x) = absurd (no_waits_refused (Lock at) fault.MustAbort x.2)
      how (inr (inl (whole, inl x))) = absurd (no_waits_refused (Lock at) x.0 x.2)
      how (inr (inl (whole, inr (inl x)))) = x
      how (inr (inl (whole, inr (inr (inl x))))) = absurd x.1
      how (inr (inl (whole, inr (inr (inr (inl x)))))) = absurd x.1
      how (inr (inl (whole, inr (inr (inr (inr x)))))) = absurd (durable_no_lock (next_number s) at (sym x.2.3))
      how (inr (inr (inl x))) = absurd x.3
      how (inr (inr (inr x))) = absurd x.1

  -- one that waits for a record has appended it
  abbrev pub AppendsIn : Call → ℕ → Type 0
  AppendsIn c n = (a : SessionTxn) × IsOfSession s session a × (a.undo.rolling ≡ None)
      × ((global : List ℕ) × (c ≡ call.Prepare global) × PrepareStep g.version s a global (Waits (Durable n)) new)

  pub waits_on_record : (c : Call) (n : ℕ) → CallStep g s session c (Waits (Durable n)) new
      → AppendsIn c n ⊎ (CommitWaits s session c (Durable n) new ⊎ RollbackWaits s session c (Durable n) new)
  waits_on_record c n (inl h) = absurd (no_waits_refused (Durable n) fault.Memory h.0)
  waits_on_record c n (inr (inl h)) = absurd (no_waits_refused (Durable n) fault.Failed h.1)
  waits_on_record c n (inr (inr (inl h))) = absurd (no_waits_refused (Durable n) fault.Busy h.2)
  waits_on_record c n (inr (inr (inr (inl h)))) = absurd h.3
  waits_on_record c n (inr (inr (inr (inr (inl h))))) = absurd (no_waits_refused (Durable n) fault.NoTransaction h.4)
  waits_on_record c n (inr (inr (inr (inr (inr (inr (inl h))))))) = absurd (no_waits_refused (Durable n) fault.IsPrepared h.4)
  waits_on_record c n (inr (inr (inr (inr (inr (inr (inr h))))))) = inr (outside_waits s session c (Durable n) new h.2)
  waits_on_record c n (inr (inr (inr (inr (inr (inl h)))))) = inl (h.2.0, h.2.1, waits_whole c (Durable n) h.2.0 h.2.2, how h.2.2)
    where
      how : InnerStep g s h.2.0 c (Waits (Durable n)) new
          → (global : List ℕ) × (c ≡ call.Prepare global) × PrepareStep g.version s h.2.0 global (Waits (Durable n)) new
      how (inl x) = absurd (no_waits_refused (Durable n) fault.MustAbort x.2)
      how (inr (inl (whole, inl x))) = absurd (no_waits_refused (Durable n) x.0 x.2)
      how (inr (inl (whole, inr (inl x)))) = absurd (durable_no_lock n x.1.1 x.1.4)
      how (inr (inl (whole, inr (inr (inl x))))) = absurd x.1
      how (inr (inl (whole, inr (inr (inr (inl x)))))) = absurd x.1
      how (inr (inl (whole, inr (inr (inr (inr x)))))) = x
      how (inr (inr (inl x))) = absurd x.3
      how (inr (inr (inr x))) = absurd x.1

-- ---- calls that are refused

-- a refusal that is a transaction's call's own: it is no lack of memory, and does not come of the manager's or the session's state, nor of savepoints
abbrev pub IsOwn : Fault → Type 0
IsOwn fault.Memory = ⊥
IsOwn fault.Failed = ⊥
IsOwn fault.Busy = ⊥
IsOwn fault.NoTransaction = ⊥
IsOwn fault.MustAbort = ⊥
IsOwn fault.TooManySavepoints = ⊥
IsOwn fault.NoSavepoint = ⊥
IsOwn fault.IsPrepared = ⊥
IsOwn _ = Unit {0}

not_own : (f h : Fault) → IsOwn f → (IsOwn h → ⊥) → f ≡ h → ⊥
not_own f h own none e = none (subst IsOwn e own)

-- a call that asks for a lock is refused before it, by the lock table, or behind it; a prepare as it says itself
abbrev pub RefusedFrom : Geometry → State → SessionTxn → Call → Fault → State → Type 0
RefusedFrom g s a c f new =
    (RefusesEarly g c f × (new ≡ s))
    ⊎ (((lock : Asked) × (lock_asked_by c ≡ Some lock) × MayAsk g c
    × ((((lock_outcome s a c lock).answer ≡ Err f) × (new ≡ behind_lock s a c lock))
    ⊎ (((lock_outcome s a c lock).answer ≡ Ok acquire.Done) × RefusesBehind g (behind_lock s a c lock) a c f new)))
    ⊎ ((global : List ℕ) × (c ≡ call.Prepare global) × RefusesPrepare g.version s a global f × (new ≡ s)))

module _ (g : Geometry) (s new : State) (session : ℕ) where
  pub record RefusedIn (c : Call) (f : Fault) : Type 0 where
    pub running : s.failed ≡ false
    pub idle : DoesNotWait s session
    pub txn : SessionTxn
    pub of : IsOfSession s session txn
    pub from : RefusedFrom g s txn c f new

  -- no rollback comes to the refusal
  abbrev pub NoRollback : Call → Fault → Type 0
  NoRollback c f = (r : Rollback) → rollback_of c ≡ Some r → (x : State) → IsPageFault x f → ⊥

  pub refused_in : (c : Call) (f : Fault) → IsOwn f → NeedsTxn c → NoRollback c f → CallStep g s session c (Refused f) new → RefusedIn c f
  refused_in c f own needs none (inl h) = absurd (not_own f fault.Memory own (λ x. x) (same_fault f fault.Memory h.0))
  refused_in c f own needs none (inr (inl h)) = absurd (not_own f fault.Failed own (λ x. x) (same_fault f fault.Failed h.1))
  refused_in c f own needs none (inr (inr (inl h))) = absurd (not_own f fault.Busy own (λ x. x) (same_fault f fault.Busy h.2))
  refused_in c f own needs none (inr (inr (inr (inl h)))) = absurd (subst NeedsTxn h.2 needs)
  refused_in c f own needs none (inr (inr (inr (inr (inl h))))) = absurd (not_own f fault.NoTransaction own (λ x. x) (same_fault f fault.NoTransaction h.4))
  refused_in c f own needs none (inr (inr (inr (inr (inr (inr (inl h))))))) = absurd (not_own f fault.IsPrepared own (λ x. x) (same_fault f fault.IsPrepared h.4))
  refused_in c f own needs none (inr (inr (inr (inr (inr (inr (inr h))))))) = absurd (not_outside s session c (Refused f) new needs h.2)
  refused_in c f own needs none (inr (inr (inr (inr (inr (inl h)))))) = record { running = h.0; idle = h.1; txn = h.2.0; of = h.2.1; from = from h.2.2 }
    where
      goes : MayAsk g c → CallGoesOn g s h.2.0 c (Refused f) new → RefusedFrom g s h.2.0 c f new
      goes may (inl x) = absurd (not_own f fault.Memory own (λ x. x) x.0)
      goes may (inr (inl x)) = inr (inl (x.0, x.1, may, inl (x.2, x.3)))
      goes may (inr (inr x)) = inr (inl (x.1.0, x.1.1, may, inr (x.1.2, subst (λ (l : State). RefusesBehind g l h.2.0 c f new) x.1.3 x.2)))

      interrupts : (r : Rollback) → rollback_of c ≡ Some r → IsInterrupted s h.2.0 r f new → ⊥
      interrupts r is x = ⊎_elim (λ memory. not_own f fault.Memory own (λ x. x) memory) (none r is x.0) x.2

      from : InnerStep g s h.2.0 c (Refused f) new → RefusedFrom g s h.2.0 c f new
      from (inl x) = absurd (not_own f fault.MustAbort own (λ x. x) (same_fault f fault.MustAbort x.2))
      from (inr (inl (whole, inl x))) = inl (subst (RefusesEarly g c) (sym (same_fault f x.0 x.2)) x.1, x.3)
      from (inr (inl (whole, inr (inl x)))) = goes x.0 x.1
      from (inr (inl (whole, inr (inr (inl x))))) = absurd x.1
      from (inr (inl (whole, inr (inr (inr (inl x)))))) = absurd (not_own f fault.TooManySavepoints own (λ x. x) x.1.0)
      from (inr (inl (whole, inr (inr (inr (inr x)))))) = inr (inr (x.0, x.1, x.2.0, x.2.1))
      from (inr (inr (inl x))) =
          ⊎_elim
          (λ late. absurd (not_own f fault.NoSavepoint own (λ x. x) late.0))
          (λ rolls. absurd (interrupts (To x.0) (ap rollback_of x.1) rolls.1))
          x.3
      from (inr (inr (inr x))) = absurd (interrupts Whole (ap rollback_of x.0) x.1)

  -- ---- rollbacks that are interrupted

  pub record InterruptedIn (r : Rollback) (f : Fault) : Type 0 where
    pub running : s.failed ≡ false
    pub idle : DoesNotWait s session
    pub txn : SessionTxn
    pub of : IsOfSession s session txn
    pub how : IsInterrupted s txn r f new

  same_rollback : (o : Option Rollback) (x y : Rollback) → o ≡ Some x → o ≡ Some y → x ≡ y
  same_rollback o x y d e = cc

  not_early : (c : Call) (f : Fault) (r : Rollback) → rollback_of c ≡ Some r → RefusesEarly g c f → ⊥
  not_early (call.BackTo n) f r is h = h
  not_early call.Abort f r is h = h
  not_early (call.Resolve global asked) f r is h = h
  not_early _ f r is h = absurd cc

  asks_none : (c : Call) (r : Rollback) → rollback_of c ≡ Some r → MayAsk g c → ⊥
  asks_none (call.BackTo n) r is h = h
  asks_none call.Abort r is h = h
  asks_none (call.Resolve global asked) r is h = h
  asks_none _ r is h = absurd cc

  no_begin_rolls : (c : Call) (r : Rollback) → rollback_of c ≡ Some r → c ≡ call.Begin → ⊥
  no_begin_rolls c r is e = let clash : rollback_of call.Begin ≡ Some r = subst (λ (x : Call). rollback_of x ≡ Some r) e is in cc

  -- .. by what is no lack of memory
  pub interrupted_in : (c : Call) (r : Rollback) (f : Fault) → NeedsTxn c → rollback_of c ≡ Some r → IsOwn f → CallStep g s session c (Refused f) new → InterruptedIn r f
  interrupted_in c r f needs is own (inl h) = absurd (not_own f fault.Memory own (λ x. x) (same_fault f fault.Memory h.0))
  interrupted_in c r f needs is own (inr (inl h)) = absurd (not_own f fault.Failed own (λ x. x) (same_fault f fault.Failed h.1))
  interrupted_in c r f needs is own (inr (inr (inl h))) = absurd (not_own f fault.Busy own (λ x. x) (same_fault f fault.Busy h.2))
  interrupted_in c r f needs is own (inr (inr (inr (inl h)))) = absurd (no_begin_rolls c r is h.2)
  interrupted_in c r f needs is own (inr (inr (inr (inr (inl h))))) = absurd (not_own f fault.NoTransaction own (λ x. x) (same_fault f fault.NoTransaction h.4))
  interrupted_in c r f needs is own (inr (inr (inr (inr (inr (inr (inl h))))))) = absurd (not_own f fault.IsPrepared own (λ x. x) (same_fault f fault.IsPrepared h.4))
  interrupted_in c r f needs is own (inr (inr (inr (inr (inr (inr (inr h))))))) = absurd (not_outside s session c (Refused f) new needs h.2)
  interrupted_in c r f needs is own (inr (inr (inr (inr (inr (inl h)))))) = record { running = h.0; idle = h.1; txn = h.2.0; of = h.2.1; how = how h.2.2 }
    where
      how : InnerStep g s h.2.0 c (Refused f) new → IsInterrupted s h.2.0 r f new
      how (inl x) = absurd (not_own f fault.MustAbort own (λ x. x) (same_fault f fault.MustAbort x.2))
      how (inr (inl (whole, inl x))) = absurd (not_early c x.0 r is x.1)
      how (inr (inl (whole, inr (inl x)))) = absurd (asks_none c r is x.0)
      how (inr (inl (whole, inr (inr (inl x))))) = absurd x.1
      how (inr (inl (whole, inr (inr (inr (inl x)))))) = absurd (not_own f fault.TooManySavepoints own (λ x. x) x.1.0)
      how (inr (inl (whole, inr (inr (inr (inr x)))))) = let clash : rollback_of (call.Prepare x.0) ≡ Some r = subst (λ (y : Call). rollback_of y ≡ Some r) x.1 is in absurd cc
      how (inr (inr (inl x))) =
          ⊎_elim
          (λ late. absurd (not_own f fault.NoSavepoint own (λ x. x) late.0))
          (λ rolls. subst (λ (q : Rollback). IsInterrupted s h.2.0 q f new) (same_rollback (rollback_of c) (To x.0) r (ap rollback_of x.1) is) rolls.1)
          x.3
      how (inr (inr (inr x))) = subst (λ (q : Rollback). IsInterrupted s h.2.0 q f new) (same_rollback (rollback_of c) Whole r (ap rollback_of x.0) is) x.1
