-- Each refusal of a call is earned in the state in which the call asks.
use Rattle.std.proofs.Common.{◌≡◌, ◌⊎◌, inl, inr, ⊎_elim, ◌<◌, ℕ, List, false, Some, None, refl, sym, ap, subst, ◌∙◌, Err}
use Rattle.std.specs.FinMap.{get}
use Rattle.std.specs.Prelude.{Result, IfErr}
use Rattle.shore_types.specs.declared.faults.Fault.{Fault}
use Rattle.shore_types.specs.declared.faults.Fault.TheVariants as fault
use Rattle.shore_types.specs.declared.ids.Rid.{Rid}
use Rattle.shore_types.specs.declared.layout.Geometry.{Geometry}
use Rattle.shore_types.specs.declared.locking.Granule.{Granule}
use Rattle.shore_types.specs.declared.locking.Granule.TheVariants as granule
use Rattle.shore_types.specs.declared.locking.Mode.{Mode}
use Rattle.shore_types.specs.declared.locking.Mode.TheVariants.{EX}
use Rattle.shore_model.specs.Alone.{record_named_by}
use Rattle.shore_model.specs.declared.calls.Call.{Call}
use Rattle.shore_model.specs.declared.calls.Call.TheVariants as call
use Rattle.shore_model.specs.declared.histories.Entry.{Entry}
use Rattle.shore_model.specs.declared.histories.Opening.{Opening}
use Rattle.shore_model.specs.declared.log_records.LogRecord.{LogRecord}
use Rattle.shore_model.specs.declared.rollbacks.Rollback.{Rollback}
use Rattle.shore_model.specs.declared.rollbacks.Rollback.TheVariants.{To, Whole}
use Rattle.shore_model.specs.declared.step.Step.TheVariants.{Refused}
use Rattle.shore_locks.specs.Orderly.{IsOrderly}
use Rattle.shore_locks.specs.Tables.{is_waiting}
use Rattle.shore_path.specs.Acquires.{IsBlockedBy, MayRefuse}
use Rattle.shore_path.specs.declared.answers.Acquired.{Acquired}
use Rattle.shore_path.specs.declared.answers.OnConflict.TheVariants as conflict
use Rattle.laws_locks.proofs.Acquired.{acquired_refused}
use Rattle.laws_locks.specs.CallLocks.{Asked, lock_asked_by}
use Rattle.laws_lives.specs.Sessions.{SessionTxn}
use Rattle.laws_calls.proofs.SessionInversions.{insert_asks, same_fault}
use Rattle.laws_calls.proofs.TakenLocks.{leaves}
use Rattle.laws_calls.proofs.GoingOn.{never_waiting}
use Rattle.laws_calls.specs.CallSteps.{BeginStep, CallGoesOn, CallStep, InnerStep, IsTooLong, RefusesBehind, RefusesEarly, RefusesGranule, RefusesId, RefusesLock, RefusesRead, behind_lock, behind_place, on_conflict_of, place_outcome, OutsideStep}
use Rattle.laws_calls.specs.Causes.{EarnsRefusal, bytes_put_by, granule_named_by}
use Rattle.laws_calls.specs.LockedStates.{IsSessionsState}
use Rattle.laws_calls.specs.Rollbacks.{IsInterrupted, IsUnwound}
use Rattle.laws_calls.specs.Shapes.{store_lock, store_locked}
use Rattle.laws_calls.specs.StateChanges.{IsPageFault}
use Rattle.laws_calls.specs.States.{IsOfSession, State}
use Rattle.laws_calls.specs.Prepares.{PrepareStep}
use Rattle.laws_calls.specs.Resolves.{DecidesRollback}
use Rattle.laws_calls.proofs.Outside.{outside_refused}

-- a record is not there, or a page was not read
read_split : (s : State) (id : Rid) (f : Fault) → RefusesRead s id f → ((f ≡ fault.NoRecord) × (get s.sessions.records id ≡ None)) ⊎ IsPageFault s f
read_split s id fault.NoRecord h = inl (refl, h)
read_split s id _ h = inr h

-- a try, or a call that may wait
try_or_wait : (c : Call) → ((at : Granule) × (mode : Mode) × (c ≡ call.TryLock at mode)) ⊎ (on_conflict_of c ≡ conflict.Wait)
try_or_wait (call.TryLock at mode) = inl (at, mode, refl)
try_or_wait _ = inr refl

same_asked : (x y : Asked) → Some x ≡ Some y → x ≡ y
same_asked x y e = cc

-- the table is orderly, and the transaction does not wait
record HasTable (s : State) (t : ℕ) : Type 0 where
  orderly : IsOrderly s.locks.requests
  quiet : is_waiting t s.locks.requests ≡ false

place_full : (l : State) (a : SessionTxn) (id : Rid) (f : Fault) → HasTable l a.txn → (place_outcome l a id).answer ≡ Err f
    → MayRefuse conflict.Refuse (behind_place l a id).locks a.txn (granule.Record id) EX f
place_full l a id f k refused =
    subst (λ (r : Result Acquired Fault). IfErr r (MayRefuse conflict.Refuse (behind_place l a id).locks a.txn (granule.Record id) EX)) refused
    (acquired_refused conflict.Refuse l.locks a.txn (granule.Record id) EX k.orderly k.quiet)

module _ (g : Geometry) (s : State) (session : ℕ) (c : Call) where
  abbrev Earns : Fault → Type 0
  Earns f = EarnsRefusal g s session c f

  as_told : (f exact : Fault) → f ≡ exact → Earns exact → Earns f
  as_told f exact is h = subst Earns (sym is) h

  id_earns : (id : Rid) → granule_named_by c ≡ Some (granule.Record id) → record_named_by c ≡ Some id → (f : Fault) → RefusesId g id f → Earns f
  id_earns id named its fault.NoStore h = (granule.Record id, id.page.store, named, refl, h)
  id_earns id named its fault.NoPage h = (granule.Record id, id.page, named, refl, h)
  id_earns id named its fault.NoRecord h = (id, its, inr h.1)
  id_earns id named its f h = absurd h

  granule_earns : (at : Granule) → granule_named_by c ≡ Some at → ((id : Rid) → at ≡ granule.Record id → record_named_by c ≡ Some id) → (f : Fault) → RefusesGranule g at f → Earns f
  granule_earns granule.Volume named its f h = absurd h
  granule_earns (granule.Store store) named its f h = as_told f fault.NoStore h.0 (granule.Store store, store, named, refl, h.1)
  granule_earns (granule.Page page) named its f h = ⊎_elim
      (λ none. as_told f fault.NoStore none.0 (granule.Page page, page.store, named, refl, none.1))
      (λ none. as_told f fault.NoPage none.0 (granule.Page page, page, named, refl, (none.1, none.2)))
      h
  granule_earns (granule.Record id) named its f h = id_earns id named (its id refl) f h

  lock_asked_earns : (at : Granule) (mode : Mode) → granule_named_by c ≡ Some at → lock_asked_by c ≡ Some (record { granule = at; mode = mode })
      → ((id : Rid) → at ≡ granule.Record id → record_named_by c ≡ Some id) → (f : Fault) → RefusesLock g at mode f → Earns f
  lock_asked_earns at mode named asked its f h = ⊎_elim
      (λ bad. as_told f fault.BadMode bad.0 (record { granule = at; mode = mode }, asked, bad.1))
      (λ none. granule_earns at named its f none.1)
      h

  long_earns : (bytes : List ℕ) → bytes_put_by c ≡ Some bytes → (f : Fault) → IsTooLong g.version bytes f → Earns f
  long_earns bytes put f h = as_told f fault.TooLong h.0 (bytes, put, h.1)

  early_earns : (d : Call) → c ≡ d → (f : Fault) → RefusesEarly g d f → Earns f
  early_earns (call.Get id) is f h = id_earns id (ap granule_named_by is) (ap record_named_by is) f h
  early_earns (call.GetForUpdate id) is f h = id_earns id (ap granule_named_by is) (ap record_named_by is) f h
  early_earns (call.Insert store bytes) is f h = ⊎_elim
      (long_earns bytes (ap bytes_put_by is) f)
      (λ none. as_told f fault.NoStore none.1 (granule.Store store, store, ap granule_named_by is, refl, none.2))
      h
  early_earns (call.Update id bytes) is f h = ⊎_elim (long_earns bytes (ap bytes_put_by is) f) (λ none. id_earns id (ap granule_named_by is) (ap record_named_by is) f none.1) h
  early_earns (call.Delete id) is f h = id_earns id (ap granule_named_by is) (ap record_named_by is) f h
  early_earns (call.Scan store) is f h = as_told f fault.NoStore h.0 (granule.Store store, store, ap granule_named_by is, refl, h.1)
  early_earns (call.Lock at mode) is f h =
      lock_asked_earns at mode (ap granule_named_by is) (ap lock_asked_by is) (λ id same. ap record_named_by (is ∙ ap (λ (x : Granule). call.Lock x mode) same)) f h
  early_earns (call.TryLock at mode) is f h =
      lock_asked_earns at mode (ap granule_named_by is) (ap lock_asked_by is) (λ id same. ap record_named_by (is ∙ ap (λ (x : Granule). call.TryLock x mode) same)) f h
  early_earns _ is f h = absurd h

  -- ---- pages

  page_earns : (l : State) (f : Fault) → l.durable ≡ s.durable → IsPageFault l f → Earns f
  page_earns l f same (inl device) = as_told f fault.Device device tt
  page_earns l f same (inr (inl damaged)) = as_told f (fault.Damaged _ damaged.0) damaged.1 tt
  page_earns l f same (inr (inr force)) = as_told f (fault.NeedForce force.0) force.1 (subst (λ n. n < force.0) same force.2)

  read_earns : (l : State) (id : Rid) (f : Fault) → l.durable ≡ s.durable → l.sessions.records ≡ s.sessions.records → record_named_by c ≡ Some id → RefusesRead l id f → Earns f
  read_earns l id f durable records named h = ⊎_elim
      (λ none. as_told f fault.NoRecord none.0 (id, named, inl (ap (λ m. get m id) (sym records) ∙ none.1)))
      (page_earns l f durable)
      (read_split l id f h)

  -- ---- rollbacks

  -- what a rollback has put back till then has forced nothing
  as_durable : (a : SessionTxn) (r : Rollback) (mid : State) → IsUnwound s a r mid → mid.durable ≡ s.durable
  as_durable a r mid (inl same) = ap (λ (x : State). x.durable) same
  as_durable a r mid (inr h) = ap (λ (x : State). x.durable) h.5

  -- .. behind the decision of a resolve, too
  pub rollback_earns : (d : State) → d.durable ≡ s.durable → (a : SessionTxn) (f : Fault) (new : State) → IsInterrupted d a Whole f new → Earns f
  rollback_earns d same a f new h = ⊎_elim (λ memory. as_told f fault.Memory memory tt) (page_earns h.0 f (unwound h.1 ∙ same)) h.2
    where
      unwound : IsUnwound d a Whole h.0 → h.0.durable ≡ d.durable
      unwound (inl x) = ap (λ (y : State). y.durable) x
      unwound (inr x) = ap (λ (y : State). y.durable) x.5

  interrupted_earns : (a : SessionTxn) (r : Rollback) (f : Fault) (new : State) → IsInterrupted s a r f new → Earns f
  interrupted_earns a r f new h = ⊎_elim (λ memory. as_told f fault.Memory memory tt) (page_earns h.0 f (as_durable a r h.0 h.1)) h.2

  module _ (a : SessionTxn) (of : IsOfSession s session a) where
    -- ---- the lock table

    lock_earns : (lock : Asked) → lock_asked_by c ≡ Some lock → (f : Fault)
        → MayRefuse (on_conflict_of c) (behind_lock s a c lock).locks a.txn lock.granule lock.mode f → Earns f
    lock_earns lock asked fault.BadMode h = (lock, asked, h)
    lock_earns lock asked fault.LockTableFull h = (a, of, inl (lock, asked, h))
    lock_earns lock asked (fault.WouldBlock holder) h = ⊎_elim
        (λ tries.
        let mine : lock ≡ record { granule = tries.0; mode = tries.1 } = same_asked lock (record { granule = tries.0; mode = tries.1 }) (sym asked ∙ ap lock_asked_by tries.2) in
        (tries.0, tries.1, tries.2, (a, of, subst (λ (l : Asked). IsBlockedBy (behind_lock s a c l).locks.requests a.txn l.granule l.mode holder) mine h.1)))
        (λ waits. let clash : conflict.Refuse ≡ conflict.Wait = sym h.0 ∙ waits in absurd cc)
        (try_or_wait c)
    lock_earns lock asked f h = absurd h

    -- ---- behind the lock

    -- an insert, behind the lock of its store
    insert_earns : (store : ℕ) (bytes : List ℕ) → c ≡ call.Insert store bytes → HasTable (store_locked s a store bytes) a.txn → (f : Fault) (new : State)
        → RefusesBehind g (store_locked s a store bytes) a (call.Insert store bytes) f new → Earns f
    insert_earns store bytes is k f new (inl full) =
        as_told f fault.StoreFull full.0 (subst (λ (x : Call). EarnsRefusal g s session x fault.StoreFull) (sym is) (a, of, full.1))
    insert_earns store bytes is k f new (inr (inl table)) =
        as_told f fault.LockTableFull table.0 (a, of, inr (store, bytes, table.1.0, is, table.1.1, place_full (store_locked s a store bytes) a table.1.0 fault.LockTableFull k table.1.2))
    insert_earns store bytes is k f new (inr (inr (inl log))) =
        as_told f fault.LogFull log.0 (subst (λ (x : Call). EarnsRefusal g s session x fault.LogFull) (sym is) (a, of, (log.1.0, log.1.1, log.1.2)))
    insert_earns store bytes is k f new (inr (inr (inr page))) = page_earns (store_locked s a store bytes) f refl page.0

    module _ (lock : Asked) (asked : lock_asked_by c ≡ Some lock) where
      abbrev locked : State
      locked = behind_lock s a c lock

      behind_earns : (d : Call) → c ≡ d → HasTable locked a.txn → (f : Fault) (new : State) → RefusesBehind g locked a d f new → Earns f
      behind_earns (call.Get id) is k f new h = read_earns locked id f refl refl (ap record_named_by is) h.0
      behind_earns (call.GetForUpdate id) is k f new h = read_earns locked id f refl refl (ap record_named_by is) h.0
      behind_earns (call.Insert store bytes) is k f new h =
          let of_store : lock ≡ store_lock store = insert_asks store bytes lock (sym (ap lock_asked_by is) ∙ asked) in
          insert_earns store bytes is
          (subst (λ (x : Asked). HasTable (behind_lock s a (call.Insert store bytes) x) a.txn) of_store (subst (λ (x : Call). HasTable (behind_lock s a x lock) a.txn) is k)) f new
          (subst (λ (x : Asked). RefusesBehind g (behind_lock s a (call.Insert store bytes) x) a (call.Insert store bytes) f new) of_store
          (subst (λ (x : Call). RefusesBehind g (behind_lock s a x lock) a (call.Insert store bytes) f new) is h))
      behind_earns (call.Update id bytes) is k f new h = ⊎_elim
          (read_earns locked id f refl refl (ap record_named_by is))
          (λ full. ⊎_elim
          (λ page. as_told f fault.StoreFull page.0 (subst (λ (x : Call). EarnsRefusal g s session x fault.StoreFull) (sym is) page.2))
          (λ log. as_told f fault.LogFull log.0 (subst (λ (x : Call). EarnsRefusal g s session x fault.LogFull) (sym is) log.3))
          full)
          h.0
      behind_earns (call.Delete id) is k f new h = ⊎_elim
          (read_earns locked id f refl refl (ap record_named_by is))
          (λ log. as_told f fault.LogFull log.0 (subst (λ (x : Call). EarnsRefusal g s session x fault.LogFull) (sym is) log.2))
          h.0
      behind_earns (call.Scan store) is k f new h = page_earns locked f refl h.0
      behind_earns _ is k f new h = absurd h

-- ---- the steps

module _ (g : Geometry) (o : Opening) (found : List LogRecord) (es : List Entry) (s : State) (k : IsSessionsState o found es s) (session : ℕ) (c : Call) where
  goes_earns : (a : SessionTxn) → IsOfSession s session a → is_waiting a.txn s.locks.requests ≡ false → (f : Fault) (new : State) → CallGoesOn g s a c (Refused f) new
      → EarnsRefusal g s session c f
  goes_earns a of quiet f new (inl memory) = as_told g s session c f fault.Memory memory.0 tt
  goes_earns a of quiet f new (inr (inl table)) =
      lock_earns g s session c a of table.0 table.1 f
      (subst (λ (r : Result Acquired Fault). IfErr r (MayRefuse (on_conflict_of c) (behind_lock s a c table.0).locks a.txn table.0.granule table.0.mode)) table.2
      (acquired_refused (on_conflict_of c) s.locks a.txn table.0.granule table.0.mode k.locks.orderly quiet))
  goes_earns a of quiet f new (inr (inr behind)) =
      let had = behind.1 in
      let left = leaves o found es s k a of.0 quiet (on_conflict_of c) had.0.granule had.0.mode in
      behind_earns g s session c a of had.0 had.1 c refl (record { orderly = left.orderly; quiet = left.quiet (never_waiting had.2) }) f new
      (subst (λ (l : State). RefusesBehind g l a c f new) had.3 behind.2)

  begin_earns : c ≡ call.Begin → (f : Fault) (new : State) → BeginStep s session (Refused f) new → EarnsRefusal g s session c f
  begin_earns is f new h = ⊎_elim
      (λ active. as_told g s session c f fault.AlreadyActive active.0 (inl (is, active.1)))
      (λ full. ⊎_elim
      (λ many. as_told g s session c f fault.TooManyTransactions many.0 (is, many.2))
      (λ log. as_told g s session c f fault.LogFull log.0 (subst (λ (x : Call). EarnsRefusal g s session x fault.LogFull) (sym is) log.3))
      full)
      h.0

  prepare_earns : (a : SessionTxn) → IsOfSession s session a → (global : List ℕ) → c ≡ call.Prepare global → (f : Fault) (new : State) → PrepareStep g.version s a global (Refused f) new
      → EarnsRefusal g s session c f
  prepare_earns a of global is f new h = ⊎_elim
      (λ bad. as_told g s session c f fault.BadGlobalId bad.0 (global, is, bad.1))
      (⊎_elim
      (λ used. as_told g s session c f fault.GlobalIdInUse used.0 (global, is, used.2))
      (λ log. as_told g s session c f fault.LogFull log.0 (subst (λ (x : Call). EarnsRefusal g s session x fault.LogFull) (sym is) (a, of, log.3))))
      h.0

  inner_earns : (a : SessionTxn) → IsOfSession s session a → is_waiting a.txn s.locks.requests ≡ false → (f : Fault) (new : State) → InnerStep g s a c (Refused f) new → EarnsRefusal g s session c f
  inner_earns a of quiet f new (inl h) = as_told g s session c f fault.MustAbort (same_fault f fault.MustAbort h.2) (inl (h.0, (a, of, h.1)))
  inner_earns a of quiet f new (inr (inl (whole, inl h))) = as_told g s session c f h.0 (same_fault f h.0 h.2) (early_earns g s session c c refl h.0 h.1)
  inner_earns a of quiet f new (inr (inl (whole, inr (inl h)))) = goes_earns a of quiet f new h.1
  inner_earns a of quiet f new (inr (inl (whole, inr (inr (inl h))))) = absurd h.1
  inner_earns a of quiet f new (inr (inl (whole, inr (inr (inr (inl h)))))) = as_told g s session c f fault.TooManySavepoints h.1.0 (h.0, (a, of, h.1.1))
  inner_earns a of quiet f new (inr (inl (whole, inr (inr (inr (inr h)))))) = prepare_earns a of h.0 h.1 f new h.2
  inner_earns a of quiet f new (inr (inr (inl h))) = ⊎_elim
      (λ none. as_told g s session c f fault.NoSavepoint none.0 (h.0, h.1, (a, of, none.1)))
      (λ stopped. interrupted_earns g s session c a (To h.0) f new stopped.1)
      h.3
  inner_earns a of quiet f new (inr (inr (inr h))) = interrupted_earns g s session c a Whole f new h.1

  outside_earns : (f : Fault) (new : State) → OutsideStep s session c (Refused f) new → EarnsRefusal g s session c f
  outside_earns f new h = ⊎_elim
      (λ early. ⊎_elim
      (λ active. as_told g s session c f fault.AlreadyActive active.0 (inr (early.global, early.asked, early.is, active.1)))
      (⊎_elim
      (λ none. as_told g s session c f fault.NoGlobalId none.0 (early.global, early.asked, early.is, none.2))
      (λ must. as_told g s session c f fault.MustAbort must.0 (inr (early.global, early.asked, early.is, (must.2, must.3)))))
      early.refuses)
      (λ stopped. rollback_earns g s session c stopped.decided (decided_durable stopped.by) stopped.txn f new stopped.how)
      (outside_refused s session c f new h)
    where
      decided_durable : {global : List ℕ} {b : SessionTxn} {d : State} → DecidesRollback s global b d → d.durable ≡ s.durable
      decided_durable (inl x) = ap (λ (y : State). y.durable) x.3
      decided_durable (inr x) = ap (λ (y : State). y.durable) x.1

  pub call_earns : (f : Fault) (new : State) → CallStep g s session c (Refused f) new → EarnsRefusal g s session c f
  call_earns f new (inl h) = as_told g s session c f fault.Memory (same_fault f fault.Memory h.0) tt
  call_earns f new (inr (inl h)) = as_told g s session c f fault.Failed (same_fault f fault.Failed h.1) h.0
  call_earns f new (inr (inr (inl h))) = as_told g s session c f fault.Busy (same_fault f fault.Busy h.2) h.1
  call_earns f new (inr (inr (inr (inl h)))) = begin_earns h.2 f new h.3
  call_earns f new (inr (inr (inr (inr (inl h))))) = as_told g s session c f fault.NoTransaction (same_fault f fault.NoTransaction h.4) (h.2, h.3)
  call_earns f new (inr (inr (inr (inr (inr (inr (inl h))))))) = as_told g s session c f fault.IsPrepared (same_fault f fault.IsPrepared h.4) (h.2, h.3)
  call_earns f new (inr (inr (inr (inr (inr (inr (inr h))))))) = outside_earns f new h.2
  call_earns f new (inr (inr (inr (inr (inr (inl h)))))) =
      let a = h.2.0 in
      inner_earns a h.2.1 (k.locks.waits h.0 a h.2.1.0.0 (λ w m spared of. h.1 w m (of ∙ h.2.1.1))) f new h.2.2
