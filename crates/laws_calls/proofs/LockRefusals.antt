-- Refusals by the lock table, and what refusals leave.
use Rattle.std.proofs.Common.{◌≡◌, ◌≢◌, ◌⊎◌, inl, inr, ⊎_elim, ℕ, List, Bool, true, Some, None, refl, subst, Ok, Err}
use Rattle.std.specs.Prelude.{IsFalse, Result}
use Rattle.shore_types.specs.Locking.{level_of}
use Rattle.shore_types.specs.declared.faults.Fault.{Fault}
use Rattle.shore_types.specs.declared.faults.Fault.TheVariants as fault
use Rattle.shore_types.specs.declared.ids.Rid.{Rid}
use Rattle.shore_types.specs.declared.layout.Geometry.{Geometry}
use Rattle.shore_types.specs.declared.locking.Granule.{Granule}
use Rattle.shore_types.specs.declared.locking.Granule.TheVariants as granule
use Rattle.shore_types.specs.declared.locking.Mode.{Mode}
use Rattle.shore_model.specs.Modes.{is_allowed}
use Rattle.shore_model.specs.declared.calls.Call.{Call}
use Rattle.shore_model.specs.declared.calls.Call.TheVariants as call
use Rattle.shore_path.specs.Walks.{acquired}
use Rattle.shore_path.specs.declared.answers.Acquired.{Acquired}
use Rattle.shore_path.specs.declared.answers.Acquired.TheVariants as acquire
use Rattle.shore_path.specs.declared.answers.OnConflict.{OnConflict}
use Rattle.shore_path.specs.declared.answers.OnConflict.TheVariants as conflict
use Rattle.laws_locks.specs.CallLocks.{Asked, lock_asked_by}
use Rattle.laws_lives.specs.Sessions.{SessionTxn}
use Rattle.laws_calls.proofs.AcquireAnswers.{allowed_mode, wait_never_blocks}
use Rattle.laws_calls.proofs.RefusalCauses.{table_full}
use Rattle.laws_calls.proofs.SessionInversions.{IsOwn, RefusedIn, insert_asks, refused_in, same_lock}
use Rattle.laws_calls.proofs.WrongRefusals.{IsBehind, RefusedWith, begin_fault, begin_refused, page_behind, refused_behind, refused_early, IsOfPrepare, prepare_refuses}
use Rattle.laws_calls.specs.CallSteps.{Finds, IsPlaceOf, IsTooLong, RefusesBehind, RefusesEarly, RefusesGranule, RefusesLock, RefusesRead, behind_lock, lock_outcome, on_conflict_of, place_outcome, NeedsTxn}
use Rattle.laws_calls.specs.StateChanges.{CanLog, FitsAt}
use Rattle.laws_calls.specs.Shapes.{ForItsTxn, store_lock, store_locked}
use Rattle.laws_calls.specs.States.{IsOfSession, State}
use Rattle.laws_calls.proofs.Outside.{resolve_fault, listing_fault, asks_needs}

module _ (g : Geometry) (s new : State) (session : ℕ) where
  abbrev Refuses : Call → Fault → Type 0
  Refuses c f = RefusedWith g s new session c f

  -- ---- by the lock table

  -- a refusal that is none before the locks and none behind them is the table's
  by_table : (c : Call) (f : Fault) → IsOwn f → (RefusesEarly g c f → ⊥) → (IsBehind f → ⊥) → (IsOfPrepare f → ⊥) → NeedsTxn c → Refuses c f
      → (a : SessionTxn) × IsOfSession s session a × ((lock : Asked) × (lock_asked_by c ≡ Some lock) × ((lock_outcome s a c lock).answer ≡ Err f))
  by_table c f own early behind prepares other h = by (refused_in g s new session c f own other (λ r is x p. behind (page_behind x f p)) h)
    where
      by : RefusedIn g s new session c f → (a : SessionTxn) × IsOfSession s session a × ((lock : Asked) × (lock_asked_by c ≡ Some lock) × ((lock_outcome s a c lock).answer ≡ Err f))
      by t = ⊎_elim
          (λ before. absurd (early before.0))
          (⊎_elim
          (λ x. ⊎_elim
          (λ full. (t.txn, t.of, (x.0, x.1, full.0)))
          (λ b. absurd (behind (refused_behind g (behind_lock s t.txn c x.0) t.txn new c f b.1)))
          x.3)
          (λ prepare. absurd (prepares (prepare_refuses g.version s t.txn prepare.0 f prepare.2))))
          t.from

  no_begin_blocks : (holder : ℕ) → Refuses call.Begin (fault.WouldBlock holder) → ⊥
  no_begin_blocks holder h =
      begin_fault g s new session (λ f. f ≢ fault.WouldBlock holder) (λ e. cc) (λ e. cc) (λ e. cc) (fault.WouldBlock holder)
      (begin_refused g s new session (fault.WouldBlock holder) tt h) refl

  blocked : (c : Call) (holder : ℕ) → NeedsTxn c → Refuses c (fault.WouldBlock holder)
      → (a : SessionTxn) × IsOfSession s session a × ((lock : Asked) × (lock_asked_by c ≡ Some lock) × ((lock_outcome s a c lock).answer ≡ Err (fault.WouldBlock holder)))
  blocked c holder other h = by_table c (fault.WouldBlock holder) tt (refused_early g c (fault.WouldBlock holder)) (λ x. x) (λ x. x) other h

  may_wait : (c : Call) (holder : ℕ) → NeedsTxn c → on_conflict_of c ≡ conflict.Wait → Refuses c (fault.WouldBlock holder) → ⊥
  may_wait c holder other waits h =
      let t = blocked c holder other h in
      wait_never_blocks s.locks t.0.txn t.2.0.granule t.2.0.mode holder
      (subst (λ (x : OnConflict). (acquired x s.locks t.0.txn t.2.0.granule t.2.0.mode).answer ≡ Err (fault.WouldBlock holder)) waits t.2.2)

  -- a call that may wait is not refused for a holder
  pub blocked_though_may_wait : (c : Call) (holder : ℕ) → ((at : Granule) (mode : Mode) → c ≢ call.TryLock at mode) → Refuses c (fault.WouldBlock holder) → ⊥
  blocked_though_may_wait call.Begin holder no_try h = no_begin_blocks holder h
  blocked_though_may_wait (call.TryLock at mode) holder no_try h = no_try at mode refl
  blocked_though_may_wait (call.Resolve global asked) holder no_try h = resolve_fault g s new session global asked (fault.WouldBlock holder) h
  blocked_though_may_wait call.InDoubt holder no_try h = listing_fault g s new session (fault.WouldBlock holder) h
  blocked_though_may_wait c holder no_try h = may_wait c holder tt refl h

  pub blocked_though_free : (at : Granule) (mode : Mode) (holder : ℕ)
      → ForItsTxn s session (λ a. (acquired conflict.Refuse s.locks a.txn at mode).answer ≢ Err (fault.WouldBlock holder)) → Refuses (call.TryLock at mode) (fault.WouldBlock holder) → ⊥
  blocked_though_free at mode holder free h =
      let t = blocked (call.TryLock at mode) holder tt h in
      free t.0 t.1
      (subst (λ (l : Asked). (acquired conflict.Refuse s.locks t.0.txn l.granule l.mode).answer ≡ Err (fault.WouldBlock holder)) (asks t.2.0 t.2.1) t.2.2)
    where
      asks : (lock : Asked) → lock_asked_by (call.TryLock at mode) ≡ Some lock → lock ≡ record { granule = at; mode = mode }
      asks lock e = cc

  pub bad_mode_though_allowed : (c : Call) (lock : Asked) → lock_asked_by c ≡ Some lock → is_allowed (level_of lock.granule) lock.mode ≡ true → Refuses c fault.BadMode → ⊥
  bad_mode_though_allowed c lock asks allowed h =
      let t = by_table c fault.BadMode tt (λ x. never c lock asks allowed x) (λ x. x) (λ x. x) (asks_needs c lock asks) h in
      allowed_mode s.locks t.0.txn t.2.0.granule t.2.0.mode (on_conflict_of c)
      (subst (λ (l : Asked). is_allowed (level_of l.granule) l.mode ≡ true) (same_lock (lock_asked_by c) lock t.2.0 asks t.2.1) allowed) t.2.2
    where
      not_long : (bytes : List ℕ) → IsTooLong g.version bytes fault.BadMode → ⊥
      not_long bytes h = let clash = h.0 in cc

      both : (b : Bool) → b ≡ true → IsFalse b → ⊥
      both b e f = cc

      by_granule : (at : Granule) → RefusesGranule g at fault.BadMode → ⊥
      by_granule granule.Volume h = h
      by_granule (granule.Store store) h = let clash = h.0 in cc
      by_granule (granule.Page page) h = ⊎_elim (λ x. let clash = x.0 in cc) (λ x. let clash = x.0 in cc) h
      by_granule (granule.Record id) h = h

      by_lock : (at : Granule) (mode : Mode) → is_allowed (level_of at) mode ≡ true → RefusesLock g at mode fault.BadMode → ⊥
      by_lock at mode allowed h = ⊎_elim (λ bad. both (is_allowed (level_of at) mode) allowed bad.1) (λ none. by_granule at none.1) h

      its : (at : Granule) (mode : Mode) (lock : Asked) → Some (record { granule = at; mode = mode }) ≡ Some lock → lock ≡ record { granule = at; mode = mode }
      its at mode lock e = cc

      its_mode : (at : Granule) (mode : Mode) (lock : Asked) → Some (record { granule = at; mode = mode }) ≡ Some lock → is_allowed (level_of lock.granule) lock.mode ≡ true
          → is_allowed (level_of at) mode ≡ true
      its_mode at mode lock e allowed = subst (λ (l : Asked). is_allowed (level_of l.granule) l.mode ≡ true) (its at mode lock e) allowed

      never : (c : Call) (lock : Asked) → lock_asked_by c ≡ Some lock → is_allowed (level_of lock.granule) lock.mode ≡ true → RefusesEarly g c fault.BadMode → ⊥
      never (call.Get id) lock asks allowed h = h
      never (call.GetForUpdate id) lock asks allowed h = h
      never (call.Insert store bytes) lock asks allowed h = ⊎_elim (not_long bytes) (λ x. let clash = x.1 in cc) h
      never (call.Update id bytes) lock asks allowed h = ⊎_elim (not_long bytes) (λ x. x.1) h
      never (call.Delete id) lock asks allowed h = h
      never (call.Scan store) lock asks allowed h = let clash = h.0 in cc
      never (call.Lock at mode) lock asks allowed h = by_lock at mode (its_mode at mode lock asks allowed) h
      never (call.TryLock at mode) lock asks allowed h = by_lock at mode (its_mode at mode lock asks allowed) h
      never _ lock asks allowed h = absurd h

  -- ---- a full lock table

  not_early : (c : Call) → RefusesEarly g c fault.LockTableFull → ⊥
  not_early c h = refused_early g c fault.LockTableFull h

  full_how : (c : Call) → NeedsTxn c → Refuses c fault.LockTableFull → (a : SessionTxn) × IsOfSession s session a × ((lock : Asked) × (lock_asked_by c ≡ Some lock)
      × (((lock_outcome s a c lock).answer ≡ Err fault.LockTableFull) ⊎ RefusesBehind g (behind_lock s a c lock) a c fault.LockTableFull new))
  full_how c other h = by (refused_in g s new session c fault.LockTableFull tt other (λ r is x p. table_full x p) h)
    where
      by : RefusedIn g s new session c fault.LockTableFull → (a : SessionTxn) × IsOfSession s session a × ((lock : Asked) × (lock_asked_by c ≡ Some lock)
          × (((lock_outcome s a c lock).answer ≡ Err fault.LockTableFull) ⊎ RefusesBehind g (behind_lock s a c lock) a c fault.LockTableFull new))
      by t = ⊎_elim
          (λ before. absurd (not_early c before.0))
          (⊎_elim
          (λ x. (t.txn, t.of, (x.0, x.1, ⊎_elim (λ full. inl full.0) (λ b. inr b.1) x.3)))
          (λ prepare. absurd (prepare_refuses g.version s t.txn prepare.0 fault.LockTableFull prepare.2)))
          t.from

  -- behind its lock only an insert comes to a full table
  only_place : (l : State) (a : SessionTxn) (c : Call) → ((store : ℕ) (bytes : List ℕ) → c ≢ call.Insert store bytes) → RefusesBehind g l a c fault.LockTableFull new → ⊥
  only_place l a (call.Get id) other h = table_full l h.0
  only_place l a (call.GetForUpdate id) other h = table_full l h.0
  only_place l a (call.Insert store bytes) other h = other store bytes refl
  only_place l a (call.Update id bytes) other h = update_full l id bytes h.0
    where
      update_full : (l : State) (id : Rid) (bytes : List ℕ) → RefusesRead l id fault.LockTableFull ⊎ ((fault.LockTableFull ≡ fault.StoreFull) × Finds l id × (FitsAt g.version l id (Some bytes) → ⊥))
          ⊎ ((fault.LockTableFull ≡ fault.LogFull) × Finds l id × FitsAt g.version l id (Some bytes) × (CanLog l id (Some bytes) → ⊥)) → ⊥
      update_full l id bytes (inl x) = table_full l x
      update_full l id bytes (inr (inl x)) = let clash = x.0 in cc
      update_full l id bytes (inr (inr x)) = let clash = x.0 in cc
  only_place l a (call.Delete id) other h = delete_full l id h.0
    where
      delete_full : (l : State) (id : Rid) → RefusesRead l id fault.LockTableFull ⊎ ((fault.LockTableFull ≡ fault.LogFull) × Finds l id × (CanLog l id None → ⊥)) → ⊥
      delete_full l id (inl x) = table_full l x
      delete_full l id (inr x) = let clash = x.0 in cc
  only_place l a (call.Scan store) other h = table_full l h.0
  only_place l a _ other h = absurd h

  pub table_full_though_locked : (c : Call) (lock : Asked) → lock_asked_by c ≡ Some lock → ((store : ℕ) (bytes : List ℕ) → c ≢ call.Insert store bytes)
      → ForItsTxn s session (λ a. (lock_outcome s a c lock).answer ≡ Ok acquire.Done) → Refuses c fault.LockTableFull → ⊥
  table_full_though_locked c lock asks other locked h =
      let t = full_how c (asks_needs c lock asks) h in
      ⊎_elim
      (λ full. clash (lock_outcome s t.0 c lock).answer (locked t.0 t.1)
      (subst (λ (l : Asked). (lock_outcome s t.0 c l).answer ≡ Err fault.LockTableFull) (same_lock (lock_asked_by c) t.2.0 lock t.2.1 asks) full))
      (only_place (behind_lock s t.0 c t.2.0) t.0 c other)
      t.2.2
    where
      clash : (o : Result Acquired Fault) → o ≡ Ok acquire.Done → o ≡ Err fault.LockTableFull → ⊥
      clash o d e = cc

  -- of an insert whose store and place are locked it is not full
  pub table_full_though_placed : (store : ℕ) (bytes : List ℕ) → ForItsTxn s session (λ a. (lock_outcome s a (call.Insert store bytes) (store_lock store)).answer ≡ Ok acquire.Done)
      → ForItsTxn s session (λ a. (id : Rid) → IsPlaceOf g (store_locked s a store bytes) a.txn store bytes id → (place_outcome (store_locked s a store bytes) a id).answer ≡ Ok acquire.Done)
      → Refuses (call.Insert store bytes) fault.LockTableFull → ⊥
  table_full_though_placed store bytes locked placed h =
      let t = full_how (call.Insert store bytes) tt h in
      let asks = insert_asks store bytes t.2.0 t.2.1 in
      ⊎_elim
      (λ full. clash (lock_outcome s t.0 (call.Insert store bytes) (store_lock store)).answer (locked t.0 t.1)
      (subst (λ (l : Asked). (lock_outcome s t.0 (call.Insert store bytes) l).answer ≡ Err fault.LockTableFull) asks full))
      (λ behind. by t.0 (placed t.0 t.1)
      (subst (λ (l : Asked). RefusesBehind g (behind_lock s t.0 (call.Insert store bytes) l) t.0 (call.Insert store bytes) fault.LockTableFull new) asks behind))
      t.2.2
    where
      clash : (o : Result Acquired Fault) → o ≡ Ok acquire.Done → o ≡ Err fault.LockTableFull → ⊥
      clash o d e = cc

      by : (a : SessionTxn) → ((id : Rid) → IsPlaceOf g (store_locked s a store bytes) a.txn store bytes id → (place_outcome (store_locked s a store bytes) a id).answer ≡ Ok acquire.Done)
          → RefusesBehind g (store_locked s a store bytes) a (call.Insert store bytes) fault.LockTableFull new → ⊥
      by a placed (inl x) = let no = x.0 in cc
      by a placed (inr (inl x)) = clash (place_outcome (store_locked s a store bytes) a x.1.0).answer (placed x.1.0 x.1.1) x.1.2
      by a placed (inr (inr (inl x))) = let no = x.0 in cc
      by a placed (inr (inr (inr x))) = table_full (store_locked s a store bytes) x.0
