-- Which refusals fail a state: a device that failed, and a damaged page.
use Rattle.std.proofs.Common.{◌≡◌, ◌⊎◌, inl, inr, ⊎_elim, ℕ, List, false, refl, sym, ap, subst, ◌∙◌}
use Rattle.std.specs.Prelude.{IfErr, IsTrue, Result}
use Rattle.shore_types.specs.declared.faults.Device.{Device}
use Rattle.shore_types.specs.declared.faults.Fault.{Fault}
use Rattle.shore_types.specs.declared.faults.Fault.TheVariants as fault
use Rattle.shore_types.specs.declared.ids.Rid.{Rid}
use Rattle.shore_types.specs.declared.layout.Geometry.{Geometry}
use Rattle.shore_types.specs.declared.locking.Granule.{Granule}
use Rattle.shore_types.specs.declared.locking.Granule.TheVariants as granule
use Rattle.shore_types.specs.declared.locking.Mode.{Mode}
use Rattle.shore_model.specs.declared.calls.Call.{Call}
use Rattle.shore_model.specs.declared.calls.Call.TheVariants as call
use Rattle.shore_model.specs.declared.histories.Entry.{Entry}
use Rattle.shore_model.specs.declared.histories.Opening.{Opening}
use Rattle.shore_model.specs.declared.log_records.LogRecord.{LogRecord}
use Rattle.shore_locks.specs.Orderly.{IsOrderly}
use Rattle.shore_locks.specs.Tables.{Table, is_waiting}
use Rattle.shore_path.specs.declared.answers.Acquired.{Acquired}
use Rattle.shore_path.specs.declared.answers.OnConflict.{OnConflict}
use Rattle.shore_path.specs.Acquires.{MayRefuse}
use Rattle.laws_locks.proofs.Acquired.{acquired_refused}
use Rattle.shore_model.specs.declared.rollbacks.Rollback.{Rollback}
use Rattle.shore_model.specs.declared.rollbacks.Rollback.TheVariants.{To, Whole}
use Rattle.laws_lives.specs.Sessions.{SessionTxn}
use Rattle.laws_calls.specs.Rollbacks.{IsInterrupted}
use Rattle.shore_model.specs.declared.step.Step.{Step}
use Rattle.shore_model.specs.declared.step.Step.TheVariants.{Refused}
use Rattle.shore_model.specs.declared.step.Wait.{Wait}
use Rattle.shore_model.specs.declared.step.Wait.TheVariants.{Durable, Lock}
use Rattle.laws_calls.specs.StateChanges.{after_refusal, wait_refused}
use Rattle.laws_calls.specs.CallSteps.{BeginStep, CallGoesOn, InnerStep, OpenStep, RefusesBehind, RefusesEarly, RefusesGranule, RefusesId, RefusesLock, ResumesWait, CallStep, ResumeStep, lock_outcome, on_conflict_of}
use Rattle.laws_calls.specs.Events.{IsStateAfter}
use Rattle.laws_calls.specs.States.{State, Waiting}
use Rattle.laws_calls.proofs.Outside.{outside_refused}

-- it is no failure
abbrev pub IsHarmless : Fault → Type 0
IsHarmless fault.Device = ⊥
IsHarmless (fault.Damaged device offset) = ⊥
IsHarmless _ = Unit {0}

-- the refusal is harmless, or the state has failed
abbrev pub Fails : Fault → State → Type 0
Fails f new = IsHarmless f ⊎ IsTrue new.failed

after_fails : (f : Fault) (s : State) → Fails f (after_refusal f s)
after_fails fault.Device s = inr refl
after_fails (fault.Damaged device offset) s = inr refl
after_fails _ s = inl tt

exactly : (f exact : Fault) (new : State) → f ≡ exact → IsHarmless exact → Fails f new
exactly f exact new is harmless = inl (subst IsHarmless (sym is) harmless)

refused_exactly : (f exact : Fault) (new : State) → Refused f ≡ Refused exact → IsHarmless exact → Fails f new
refused_exactly f exact new is harmless = exactly f exact new (ap fault_of is) harmless
  where
    fault_of : Step → Fault
    fault_of (Refused x) = x
    fault_of _ = fault.Memory

-- ---- before the locks

id_harmless : (g : Geometry) (id : Rid) (f : Fault) → RefusesId g id f → IsHarmless f
id_harmless g id fault.Device h = absurd h
id_harmless g id (fault.Damaged device offset) h = absurd h
id_harmless g id _ h = tt

granule_harmless : (g : Geometry) (at : Granule) (f : Fault) → RefusesGranule g at f → IsHarmless f
granule_harmless g granule.Volume f h = absurd h
granule_harmless g (granule.Store store) f h = subst IsHarmless (sym h.0) tt
granule_harmless g (granule.Page page) f h = ⊎_elim (λ store. subst IsHarmless (sym store.0) tt) (λ inside. subst IsHarmless (sym inside.0) tt) h
granule_harmless g (granule.Record id) f h = id_harmless g id f h

lock_harmless : (g : Geometry) (at : Granule) (mode : Mode) (f : Fault) → RefusesLock g at mode f → IsHarmless f
lock_harmless g at mode f h = ⊎_elim (λ bad. subst IsHarmless (sym bad.0) tt) (λ other. granule_harmless g at f other.1) h

-- nor is it a failure that refuses a call before its locks
pub early_harmless : (g : Geometry) (c : Call) (f : Fault) → RefusesEarly g c f → IsHarmless f
early_harmless g (call.Get id) f h = id_harmless g id f h
early_harmless g (call.GetForUpdate id) f h = id_harmless g id f h
early_harmless g (call.Insert store bytes) f h = ⊎_elim (λ long. subst IsHarmless (sym long.0) tt) (λ none. subst IsHarmless (sym none.1) tt) h
early_harmless g (call.Update id bytes) f h = ⊎_elim (λ long. subst IsHarmless (sym long.0) tt) (λ other. id_harmless g id f other.1) h
early_harmless g (call.Delete id) f h = id_harmless g id f h
early_harmless g (call.Scan store) f h = subst IsHarmless (sym h.0) tt
early_harmless g (call.Lock at mode) f h = lock_harmless g at mode f h
early_harmless g (call.TryLock at mode) f h = lock_harmless g at mode f h
early_harmless g _ f h = absurd h

-- ---- the locks, and behind them

table_harmless : (c : OnConflict) (table : Table) (t : ℕ) (at : Granule) (mode : Mode) (f : Fault) → MayRefuse c table t at mode f → IsHarmless f
table_harmless c table t at mode fault.Device h = absurd h
table_harmless c table t at mode (fault.Damaged device offset) h = absurd h
table_harmless c table t at mode _ h = tt

behind_fails : (g : Geometry) (s : State) (a : SessionTxn) (c : Call) (f : Fault) (new : State) → RefusesBehind g s a c f new → Fails f new
behind_fails g s a (call.Get id) f new h = subst (Fails f) (sym h.1) (after_fails f s)
behind_fails g s a (call.GetForUpdate id) f new h = subst (Fails f) (sym h.1) (after_fails f s)
behind_fails g s a (call.Insert store bytes) f new (inl h) = exactly f fault.StoreFull new h.0 tt
behind_fails g s a (call.Insert store bytes) f new (inr (inl h)) = exactly f fault.LockTableFull new h.0 tt
behind_fails g s a (call.Insert store bytes) f new (inr (inr (inl h))) = exactly f fault.LogFull new h.0 tt
behind_fails g s a (call.Insert store bytes) f new (inr (inr (inr h))) = subst (Fails f) (sym h.1) (after_fails f s)
behind_fails g s a (call.Update id bytes) f new h = subst (Fails f) (sym h.1) (after_fails f s)
behind_fails g s a (call.Delete id) f new h = subst (Fails f) (sym h.1) (after_fails f s)
behind_fails g s a (call.Scan store) f new h = subst (Fails f) (sym h.1) (after_fails f s)
behind_fails g s a _ f new h = absurd h

on_fails : (g : Geometry) (s : State) (a : SessionTxn) → IsOrderly s.locks.requests → is_waiting a.txn s.locks.requests ≡ false → (c : Call) (f : Fault) (new : State) → CallGoesOn g s a c (Refused f) new → Fails f new
on_fails g s a orderly quiet c f new (inl h) = exactly f fault.Memory new h.0 tt
on_fails g s a orderly quiet c f new (inr (inl h)) =
    let lock = h.0 in
    let out = lock_outcome s a c lock in
    inl (table_harmless (on_conflict_of c) (record { limit = s.locks.limit; requests = out.requests }) a.txn lock.granule lock.mode f
    (subst (λ (x : Result Acquired Fault). IfErr x (MayRefuse (on_conflict_of c) (record { limit = s.locks.limit; requests = out.requests }) a.txn lock.granule lock.mode)) h.2
    (acquired_refused (on_conflict_of c) s.locks a.txn lock.granule lock.mode orderly quiet)))
on_fails g s a orderly quiet c f new (inr (inr h)) = behind_fails g h.0 a c f new h.2

-- ---- steps

begin_fails : (s : State) (session : ℕ) (f : Fault) (new : State) → BeginStep s session (Refused f) new → Fails f new
begin_fails s session f new h = ⊎_elim (λ one. exactly f fault.AlreadyActive new one.0 tt)
    (λ more. ⊎_elim (λ two. exactly f fault.TooManyTransactions new two.0 tt) (λ three. exactly f fault.LogFull new three.0 tt) more) h.0

module _ (g : Geometry) (o : Opening) (found : List LogRecord) (es : List Entry) (s : State) (k : IsStateAfter o found es s) where
  interrupted_fails : (a : SessionTxn) (r : Rollback) (f : Fault) (new : State) → IsInterrupted s a r f new → Fails f new
  interrupted_fails a r f new h = subst (Fails f) (sym h.3) (after_fails f h.0)

  interrupted_fails_at : (d : State) (a : SessionTxn) (f : Fault) (new : State) → IsInterrupted d a Whole f new → Fails f new
  interrupted_fails_at d a f new h = subst (Fails f) (sym h.3) (after_fails f h.0)

  open_fails : (a : SessionTxn) → is_waiting a.txn s.locks.requests ≡ false → (c : Call) (f : Fault) (new : State) → OpenStep g s a c (Refused f) new → Fails f new
  open_fails a quiet c f new (inl h) = refused_exactly f h.0 new h.2 (early_harmless g c h.0 h.1)
  open_fails a quiet c f new (inr (inl h)) = on_fails g s a k.sessions.locks.orderly quiet c f new h.1
  open_fails a quiet c f new (inr (inr (inl h))) = absurd h.1
  open_fails a quiet c f new (inr (inr (inr (inl h)))) = exactly f fault.TooManySavepoints new h.1.0 tt
  open_fails a quiet c f new (inr (inr (inr (inr h)))) = ⊎_elim
      (λ bad. exactly f fault.BadGlobalId new bad.0 tt)
      (⊎_elim (λ used. exactly f fault.GlobalIdInUse new used.0 tt) (λ full. exactly f fault.LogFull new full.0 tt)) h.2.0

  inner_fails : (a : SessionTxn) → is_waiting a.txn s.locks.requests ≡ false → (c : Call) (f : Fault) (new : State) → InnerStep g s a c (Refused f) new → Fails f new
  inner_fails a quiet c f new (inl h) = refused_exactly f fault.MustAbort new h.2 tt
  inner_fails a quiet c f new (inr (inl h)) = open_fails a quiet c f new h.1
  inner_fails a quiet c f new (inr (inr (inl h))) = ⊎_elim (λ none. exactly f fault.NoSavepoint new none.0 tt) (λ rolls. interrupted_fails a (To h.0) f new rolls.1) h.3
  inner_fails a quiet c f new (inr (inr (inr h))) = interrupted_fails a Whole f new h.1

  pub call_fails : (session : ℕ) (c : Call) (f : Fault) (new : State) → CallStep g s session c (Refused f) new → Fails f new
  call_fails session c f new (inl h) = refused_exactly f fault.Memory new h.0 tt
  call_fails session c f new (inr (inl h)) = refused_exactly f fault.Failed new h.1 tt
  call_fails session c f new (inr (inr (inl h))) = refused_exactly f fault.Busy new h.2 tt
  call_fails session c f new (inr (inr (inr (inl h)))) = begin_fails s session f new h.3
  call_fails session c f new (inr (inr (inr (inr (inl h))))) = refused_exactly f fault.NoTransaction new h.4 tt
  call_fails session c f new (inr (inr (inr (inr (inr (inr (inl h))))))) = refused_exactly f fault.IsPrepared new h.4 tt
  call_fails session c f new (inr (inr (inr (inr (inr (inr (inr h))))))) = ⊎_elim
      (λ early. ⊎_elim
      (λ active. exactly f fault.AlreadyActive new active.0 tt)
      (⊎_elim (λ none. exactly f fault.NoGlobalId new none.0 tt) (λ must. exactly f fault.MustAbort new must.0 tt)) early.refuses)
      (λ stopped. interrupted_fails_at stopped.decided stopped.txn f new stopped.how)
      (outside_refused s session c f new h.2)
  call_fails session c f new (inr (inr (inr (inr (inr (inl h)))))) =
      let mem = h.2.1 in
      inner_fails h.2.0 (k.sessions.locks.waits h.0 h.2.0 mem.0.0 (λ w m spared same. h.1 w m (same ∙ mem.1))) c f new h.2.2

  wait_fails : (w : Waiting) (wait : Wait) (f : Fault) (new : State) → ResumesWait g s w wait (Refused f) new → Fails f new
  wait_fails w (Durable n) f new (inl h) = let clash = h.1 in absurd cc
  wait_fails w (Durable n) f new (inr (inl h)) = let clash = h.1 in absurd cc
  wait_fails w (Durable n) f new (inr (inr h)) = let clash = h.1 in absurd cc
  wait_fails w (Lock at) f new h = ⊎_elim
      (λ still. let clash = still.1 in absurd cc)
      (λ free. on_fails g (wait_refused s w.session) h.0 k.sessions.locks.orderly free.0 w.call f new free.1)
      h.2

  pub resume_fails : (session : ℕ) (f : Fault) (new : State) → ResumeStep g s session (Refused f) new → Fails f new
  resume_fails session f new (inl h) = let clash = h.1 in absurd cc
  resume_fails session f new (inr h) = ⊎_elim (λ failed. refused_exactly f fault.Failed new failed.1 tt) (λ on. wait_fails h.0 h.0.wait f new on.1) h.3

  -- ---- a device, and a page

  pub call_device_fails : (session : ℕ) (c : Call) (new : State) → CallStep g s session c (Refused fault.Device) new → IsTrue new.failed
  call_device_fails session c new h = ⊎_elim (λ none. absurd none) (λ failed. failed) (call_fails session c fault.Device new h)

  pub call_damage_fails : (session : ℕ) (c : Call) (device : Device) (offset : ℕ) (new : State) → CallStep g s session c (Refused (fault.Damaged device offset)) new → IsTrue new.failed
  call_damage_fails session c device offset new h = ⊎_elim (λ none. absurd none) (λ failed. failed) (call_fails session c (fault.Damaged device offset) new h)

  pub resume_device_fails : (session : ℕ) (new : State) → ResumeStep g s session (Refused fault.Device) new → IsTrue new.failed
  resume_device_fails session new h = ⊎_elim (λ none. absurd none) (λ failed. failed) (resume_fails session fault.Device new h)

  pub resume_damage_fails : (session : ℕ) (device : Device) (offset : ℕ) (new : State) → ResumeStep g s session (Refused (fault.Damaged device offset)) new → IsTrue new.failed
  resume_damage_fails session device offset new h = ⊎_elim (λ none. absurd none) (λ failed. failed) (resume_fails session (fault.Damaged device offset) new h)
