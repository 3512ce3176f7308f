-- The refusals of calls within a transaction have their causes.
use Rattle.std.proofs.Common.{◌≡◌, ◌≢◌, ◌⊎◌, inl, inr, ⊎_elim, ◌+◌, ◌≤◌, ◌<◌, ℕ, List, Some, None, refl, sym, ap, subst, ◌∙◌, length, length-append, arith, Ok, Err}
use Rattle.std.specs.FinMap.{get}
use Rattle.std.specs.Prelude.{IsSome, Option}
use Rattle.shore_types.specs.Layout.{HasPage, HasStore}
use Rattle.shore_types.specs.declared.faults.Device.TheVariants.{Volume}
use Rattle.shore_types.specs.declared.faults.Fault.{Fault}
use Rattle.shore_types.specs.declared.faults.Fault.TheVariants as fault
use Rattle.shore_types.specs.declared.ids.Rid.{Rid}
use Rattle.shore_types.specs.declared.layout.Geometry.{Geometry}
use Rattle.shore_types.specs.Versions.{record_limit, slot_limit}
use Rattle.shore_model.specs.declared.calls.Call.{Call}
use Rattle.shore_model.specs.declared.calls.Call.TheVariants as call
use Rattle.shore_path.specs.declared.answers.Acquired.TheVariants as acquire
use Rattle.laws_locks.specs.CallLocks.{Asked, lock_asked_by}
use Rattle.shore_model.specs.declared.log_records.LogRecord.{LogRecord}
use Rattle.shore_model.specs.declared.rollbacks.Rollback.{Rollback}
use Rattle.laws_lives.specs.Sessions.{SessionTxn}
use Rattle.shore_model.specs.declared.step.Step.TheVariants.{Refused}
use Rattle.laws_calls.proofs.LongerLogs.{call_further}
use Rattle.laws_calls.proofs.RollingLeaves.{unwound_durable}
use Rattle.laws_calls.proofs.AcquireAnswers.{IsLockFault, acquire_fault}
use Rattle.laws_calls.proofs.Decided.{no_record_both}
use Rattle.laws_calls.proofs.SessionInversions.{IsOwn, NoRollback, RefusedIn, insert_asks, interrupted_in, refused_in}
use Rattle.laws_calls.proofs.WrongRefusals.{IsBehind, IsEarly, RefusedWith, begin_fault, begin_refused, page_behind, refused_behind, refused_early, IsOfPrepare, prepare_refuses, early_no_prepare}
use Rattle.laws_calls.specs.CallSteps.{Finds, HasPlace, RefusesBehind, RefusesEarly, RefusesId, RefusesRead, ServesTxn, behind_lock, behind_place, lock_outcome, on_conflict_of, NeedsTxn}
use Rattle.laws_calls.specs.StateChanges.{CanLog, FitsAt, IsPageFault}
use Rattle.laws_calls.specs.Shapes.{ForItsTxn, rollback_of, store_lock, store_locked}
use Rattle.laws_calls.specs.States.{IsOfSession, State}
use Rattle.laws_calls.proofs.Outside.{resolve_stopped, listing_no_page}
use Rattle.laws_calls.proofs.ResolveLeaves.{decided_durable}
use Rattle.shore_model.specs.declared.rollbacks.Rollback.TheVariants.{Whole}

-- ---- page faults

no_page_fault : (s : State) (f : Fault) → (f ≢ fault.Device) → ((offset : ℕ) → f ≢ fault.Damaged Volume offset) → ((n : ℕ) → f ≢ fault.NeedForce n) → IsPageFault s f → ⊥
no_page_fault s f device damaged force (inl e) = device e
no_page_fault s f device damaged force (inr (inl h)) = damaged h.0 h.1
no_page_fault s f device damaged force (inr (inr h)) = force h.0 h.1

store_full : (s : State) → IsPageFault s fault.StoreFull → ⊥
store_full s h = no_page_fault s fault.StoreFull (λ e. cc) (λ offset e. cc) (λ n e. cc) h

log_full : (s : State) → IsPageFault s fault.LogFull → ⊥
log_full s h = no_page_fault s fault.LogFull (λ e. cc) (λ offset e. cc) (λ n e. cc) h

pub table_full : (s : State) → IsPageFault s fault.LockTableFull → ⊥
table_full s h = no_page_fault s fault.LockTableFull (λ e. cc) (λ offset e. cc) (λ n e. cc) h

-- a need for a force has its cause
force_cause : (s : State) (n : ℕ) → IsPageFault s (fault.NeedForce n) → (s.durable < n) × (n ≤ length s.log)
force_cause s n (inl e) = cc
force_cause s n (inr (inl h)) = let e = h.1 in cc
force_cause s n (inr (inr h)) = (subst (λ m. s.durable < m) (same h.0 h.1) h.2, subst (λ m. m ≤ length s.log) (same h.0 h.1) h.3)
  where
    same : (m : ℕ) → fault.NeedForce n ≡ fault.NeedForce m → m ≡ n
    same m e = cc

module _ (g : Geometry) (s new : State) (session : ℕ) where
  -- ---- behind the lock

  -- a refusal behind the lock of the call
  pub record BehindLock (c : Call) (f : Fault) : Type 0 where
    pub txn : SessionTxn
    pub of : IsOfSession s session txn
    pub lock : Asked
    pub asks : lock_asked_by c ≡ Some lock
    pub done : (lock_outcome s txn c lock).answer ≡ Ok acquire.Done
    pub refuses : RefusesBehind g (behind_lock s txn c lock) txn c f new

  pub behind_lock_of : (c : Call) (f : Fault) → IsOwn f → ((a : SessionTxn) (lock : Asked) → (lock_outcome s a c lock).answer ≡ Err f → ⊥) → (RefusesEarly g c f → ⊥)
      → NeedsTxn c → ((global : List ℕ) → c ≡ call.Prepare global → IsOfPrepare f → ⊥) → NoRollback g s new session c f → RefusedWith g s new session c f → BehindLock c f
  behind_lock_of c f own table early other prepares none h = by (refused_in g s new session c f own other none h)
    where
      by : RefusedIn g s new session c f → BehindLock c f
      by t = ⊎_elim
          (λ before. absurd (early before.0))
          (⊎_elim
          (λ x. ⊎_elim
          (λ full. absurd (table t.txn x.0 full.0))
          (λ behind. record { txn = t.txn; of = t.of; lock = x.0; asks = x.1; done = behind.0; refuses = behind.1 })
          x.3)
          (λ prepare. absurd (prepares prepare.0 prepare.1 (prepare_refuses g.version s t.txn prepare.0 f prepare.2))))
          t.from

  -- the lock table does not give this refusal, and it is none before the locks
  pub comes_behind : (c : Call) (f : Fault) → IsOwn f → (IsLockFault f → ⊥) → (IsEarly f → ⊥) → NeedsTxn c → ((global : List ℕ) → c ≡ call.Prepare global → IsOfPrepare f → ⊥) → NoRollback g s new session c f → RefusedWith g s new session c f → BehindLock c f
  comes_behind c f own table early other prepares none h =
      behind_lock_of c f own (λ a lock is. table (acquire_fault s.locks a.txn lock.granule lock.mode (on_conflict_of c) f is)) (λ x. early (refused_early g c f x)) other prepares none h

  abbrev Refuses : Call → Fault → Type 0
  Refuses c f = RefusedWith g s new session c f

  store_full_behind : (c : Call) → NeedsTxn c → Refuses c fault.StoreFull → BehindLock c fault.StoreFull
  store_full_behind c other h = comes_behind c fault.StoreFull tt no_lock (λ x. x) other (λ global is x. x) (λ r is x p. store_full x p) h
    where
      no_lock : IsLockFault fault.StoreFull → ⊥
      no_lock (inl e) = cc
      no_lock (inr (inl e)) = cc
      no_lock (inr (inr e)) = let clash = e.1 in cc

  log_full_behind : (c : Call) → NeedsTxn c → ((global : List ℕ) → c ≢ call.Prepare global) → Refuses c fault.LogFull → BehindLock c fault.LogFull
  log_full_behind c other plain h = comes_behind c fault.LogFull tt no_lock (λ x. x) other (λ global is x. plain global is) (λ r is x p. log_full x p) h
    where
      no_lock : IsLockFault fault.LogFull → ⊥
      no_lock (inl e) = cc
      no_lock (inr (inl e)) = cc
      no_lock (inr (inr e)) = let clash = e.1 in cc

  force_behind : (c : Call) (n : ℕ) → NeedsTxn c → NoRollback g s new session c (fault.NeedForce n) → Refuses c (fault.NeedForce n) → BehindLock c (fault.NeedForce n)
  force_behind c n other none h = comes_behind c (fault.NeedForce n) tt no_lock (λ x. x) other (λ global is x. x) none h
    where
      no_lock : IsLockFault (fault.NeedForce n) → ⊥
      no_lock (inl e) = cc
      no_lock (inr (inl e)) = cc
      no_lock (inr (inr e)) = let clash = e.1 in cc

  -- what refuses an insert behind the lock of its store
  insert_refuses : (store : ℕ) (bytes : List ℕ) (f : Fault) (t : BehindLock (call.Insert store bytes) f) → RefusesBehind g (store_locked s t.txn store bytes) t.txn (call.Insert store bytes) f new
  insert_refuses store bytes f t =
      subst (λ (l : Asked). RefusesBehind g (behind_lock s t.txn (call.Insert store bytes) l) t.txn (call.Insert store bytes) f new) (insert_asks store bytes t.lock t.asks) t.refuses

  -- ---- full stores

  pub full_though_served : (store : ℕ) (bytes : List ℕ) (id : Rid) → ForItsTxn s session (λ a. ServesTxn g (store_locked s a store bytes) a.txn store bytes id)
      → Refuses (call.Insert store bytes) fault.StoreFull → ⊥
  full_though_served store bytes id serves h =
      let t = store_full_behind (call.Insert store bytes) tt h in by t.txn (serves t.txn t.of) (insert_refuses store bytes fault.StoreFull t)
    where
      by : (a : SessionTxn) → ServesTxn g (store_locked s a store bytes) a.txn store bytes id
          → RefusesBehind g (store_locked s a store bytes) a (call.Insert store bytes) fault.StoreFull new → ⊥
      by a there (inl x) = x.1 id there
      by a there (inr (inl x)) = let clash = x.0 in cc
      by a there (inr (inr (inl x))) = let clash = x.0 in cc
      by a there (inr (inr (inr x))) = store_full (store_locked s a store bytes) x.0

  -- what refuses a change behind its lock, besides pages that were not read
  update_causes : (l : State) (a : SessionTxn) (id : Rid) (bytes : List ℕ) (f : Fault) → RefusesBehind g l a (call.Update id bytes) f new → (RefusesRead l id f → ⊥)
      → ((f ≡ fault.StoreFull) × (FitsAt g.version l id (Some bytes) → ⊥)) ⊎ ((f ≡ fault.LogFull) × FitsAt g.version l id (Some bytes) × (CanLog l id (Some bytes) → ⊥))
  update_causes l a id bytes f h no_read = by h.0
    where
      by : RefusesRead l id f ⊎ ((f ≡ fault.StoreFull) × Finds l id × (FitsAt g.version l id (Some bytes) → ⊥))
          ⊎ ((f ≡ fault.LogFull) × Finds l id × FitsAt g.version l id (Some bytes) × (CanLog l id (Some bytes) → ⊥))
          → ((f ≡ fault.StoreFull) × (FitsAt g.version l id (Some bytes) → ⊥)) ⊎ ((f ≡ fault.LogFull) × FitsAt g.version l id (Some bytes) × (CanLog l id (Some bytes) → ⊥))
      by (inl x) = absurd (no_read x)
      by (inr (inl x)) = inl (x.0, x.2)
      by (inr (inr x)) = inr (x.0, x.2, x.3)

  delete_cause : (l : State) (a : SessionTxn) (id : Rid) → RefusesBehind g l a (call.Delete id) fault.LogFull new → CanLog l id None → ⊥
  delete_cause l a id h logs = by h.0
    where
      by : RefusesRead l id fault.LogFull ⊎ ((fault.LogFull ≡ fault.LogFull) × Finds l id × (CanLog l id None → ⊥)) → ⊥
      by (inl x) = log_full l x
      by (inr x) = x.2 logs

  pub update_full_though_fits : (id : Rid) (bytes : List ℕ) → FitsAt g.version s id (Some bytes) → Refuses (call.Update id bytes) fault.StoreFull → ⊥
  update_full_though_fits id bytes fits h =
      let t = store_full_behind (call.Update id bytes) tt h in by (update_causes (behind_lock s t.txn (call.Update id bytes) t.lock) t.txn id bytes fault.StoreFull t.refuses (store_full s))
    where
      by : ((fault.StoreFull ≡ fault.StoreFull) × (FitsAt g.version s id (Some bytes) → ⊥)) ⊎ ((fault.StoreFull ≡ fault.LogFull) × FitsAt g.version s id (Some bytes) × (CanLog s id (Some bytes) → ⊥)) → ⊥
      by (inl x) = x.1 fits
      by (inr x) = let clash = x.0 in cc

  update_log_full : (id : Rid) (bytes : List ℕ) → Refuses (call.Update id bytes) fault.LogFull → FitsAt g.version s id (Some bytes) × (CanLog s id (Some bytes) → ⊥)
  update_log_full id bytes h =
      let t = log_full_behind (call.Update id bytes) tt (λ global e. cc) h in by (update_causes (behind_lock s t.txn (call.Update id bytes) t.lock) t.txn id bytes fault.LogFull t.refuses (log_full s))
    where
      by : ((fault.LogFull ≡ fault.StoreFull) × (FitsAt g.version s id (Some bytes) → ⊥)) ⊎ ((fault.LogFull ≡ fault.LogFull) × FitsAt g.version s id (Some bytes) × (CanLog s id (Some bytes) → ⊥))
          → FitsAt g.version s id (Some bytes) × (CanLog s id (Some bytes) → ⊥)
      by (inl x) = let clash = x.0 in absurd cc
      by (inr x) = (x.1, x.2)

  -- ---- full logs

  pub log_before_page : (id : Rid) (bytes : List ℕ) → (FitsAt g.version s id (Some bytes) → ⊥) → Refuses (call.Update id bytes) fault.LogFull → ⊥
  log_before_page id bytes none h = none (update_log_full id bytes h).0

  pub update_log_full_though_room : (id : Rid) (bytes : List ℕ) → CanLog s id (Some bytes) → Refuses (call.Update id bytes) fault.LogFull → ⊥
  update_log_full_though_room id bytes logs h = (update_log_full id bytes h).1 logs

  pub delete_log_full_though_room : (id : Rid) → CanLog s id None → Refuses (call.Delete id) fault.LogFull → ⊥
  delete_log_full_though_room id logs h =
      let t = log_full_behind (call.Delete id) tt (λ global e. cc) h in delete_cause (behind_lock s t.txn (call.Delete id) t.lock) t.txn id t.refuses logs

  -- an insert whose log is full has locked its place
  pub record LogFullAt (store : ℕ) (bytes : List ℕ) : Type 0 where
    pub txn : SessionTxn
    pub of : IsOfSession s session txn
    pub done : (lock_outcome s txn (call.Insert store bytes) (store_lock store)).answer ≡ Ok acquire.Done
    pub id : Rid
    pub place : HasPlace g (store_locked s txn store bytes) txn store bytes id
    pub full : CanLog s id (Some bytes) → ⊥
    pub leaves : new ≡ behind_place (store_locked s txn store bytes) txn id

  pub insert_log_full : (store : ℕ) (bytes : List ℕ) → Refuses (call.Insert store bytes) fault.LogFull → LogFullAt store bytes
  insert_log_full store bytes h = let t = log_full_behind (call.Insert store bytes) tt (λ global e. cc) h in
      by t.txn t.of (subst (λ (l : Asked). (lock_outcome s t.txn (call.Insert store bytes) l).answer ≡ Ok acquire.Done) (insert_asks store bytes t.lock t.asks) t.done) (insert_refuses store bytes fault.LogFull t)
    where
      by : (a : SessionTxn) → IsOfSession s session a → (lock_outcome s a (call.Insert store bytes) (store_lock store)).answer ≡ Ok acquire.Done
          → RefusesBehind g (store_locked s a store bytes) a (call.Insert store bytes) fault.LogFull new → LogFullAt store bytes
      by a of done (inl x) = let clash = x.0 in absurd cc
      by a of done (inr (inl x)) = let clash = x.0 in absurd cc
      by a of done (inr (inr (inl x))) = record { txn = a; of = of; done = done; id = x.1.0; place = x.1.1; full = x.1.2; leaves = x.1.3 }
      by a of done (inr (inr (inr x))) = absurd (log_full (store_locked s a store bytes) x.0)

  pub insert_log_full_unlocked : (store : ℕ) (bytes : List ℕ) → ForItsTxn s session (λ a. (id : Rid) → new ≢ behind_place (store_locked s a store bytes) a id)
      → Refuses (call.Insert store bytes) fault.LogFull → ⊥
  insert_log_full_unlocked store bytes never h = let t = insert_log_full store bytes h in never t.txn t.of t.id t.leaves

  pub insert_log_full_though_room : (store : ℕ) (bytes : List ℕ) → ((id : Rid) → CanLog s id (Some bytes)) → Refuses (call.Insert store bytes) fault.LogFull → ⊥
  insert_log_full_though_room store bytes logs h = let t = insert_log_full store bytes h in t.full (logs t.id)

  -- ---- records and places in the volume

  no_table_fault : (f : Fault) → IsEarly f → f ≢ fault.BadMode → IsLockFault f → ⊥
  no_table_fault f early other (inl e) = subst IsEarly e early
  no_table_fault f early other (inr (inl e)) = other e
  no_table_fault f early other (inr (inr h)) = subst IsEarly h.1 early

  -- a record that is there is found, if its slot is one that a page may have
  no_record : (id : Rid) (c : Call) → NeedsTxn c → (RefusesEarly g c fault.NoRecord → ⊥) → ((l : State) (a : SessionTxn) → RefusesBehind g l a c fault.NoRecord new → get l.sessions.records id ≡ None)
      → IsSome (get s.sessions.records id) → Refuses c fault.NoRecord → ⊥
  no_record id c other early reads there h =
      let t = behind_lock_of c fault.NoRecord tt
      (λ a lock is. no_table_fault fault.NoRecord tt (λ e. cc) (acquire_fault s.locks a.txn lock.granule lock.mode (on_conflict_of c) fault.NoRecord is)) early other (λ global e x. x) (λ r is x p. no_page_fault x fault.NoRecord (λ e. cc) (λ offset e. cc) (λ n e. cc) p) h in
      no_record_both (get s.sessions.records id) there (reads (behind_lock s t.txn c t.lock) t.txn t.refuses)

  beyond : (id : Rid) → id.slot < slot_limit g.version → RefusesId g id fault.NoRecord → ⊥
  beyond id within h = let le = h.1 in omega arith

  pub get_none_though_there : (id : Rid) → id.slot < slot_limit g.version → IsSome (get s.sessions.records id) → Refuses (call.Get id) fault.NoRecord → ⊥
  get_none_though_there id within there h = no_record id (call.Get id) tt (beyond id within) (λ l a x. x.0) there h

  pub for_update_none_though_there : (id : Rid) → id.slot < slot_limit g.version → IsSome (get s.sessions.records id) → Refuses (call.GetForUpdate id) fault.NoRecord → ⊥
  for_update_none_though_there id within there h = no_record id (call.GetForUpdate id) tt (beyond id within) (λ l a x. x.0) there h

  pub update_none_though_there : (id : Rid) (bytes : List ℕ) → id.slot < slot_limit g.version → IsSome (get s.sessions.records id) → Refuses (call.Update id bytes) fault.NoRecord → ⊥
  update_none_though_there id bytes within there h =
      no_record id (call.Update id bytes) tt
      (λ x. ⊎_elim (λ long. let clash = long.0 in cc) (λ none. beyond id within none.1) x)
      (λ l a x. ⊎_elim (λ none. none) (λ more. ⊎_elim (λ y. let clash = y.0 in absurd cc) (λ y. let clash = y.0 in absurd cc) more) x.0)
      there h

  pub delete_none_though_there : (id : Rid) → id.slot < slot_limit g.version → IsSome (get s.sessions.records id) → Refuses (call.Delete id) fault.NoRecord → ⊥
  delete_none_though_there id within there h =
      no_record id (call.Delete id) tt (beyond id within) (λ l a x. ⊎_elim (λ none. none) (λ y. let clash = y.0 in absurd cc) x.0) there h

  -- refusals of ids that are no page and no store
  early_of : (c : Call) (f : Fault) → IsOwn f → IsEarly f → f ≢ fault.BadMode → (IsBehind f → ⊥) → NeedsTxn c → Refuses c f → RefusesEarly g c f
  early_of c f own early mode behind other h = by (refused_in g s new session c f own other (λ r is x p. behind (page_behind x f p)) h)
    where
      by : RefusedIn g s new session c f → RefusesEarly g c f
      by t = ⊎_elim
          (λ before. before.0)
          (⊎_elim
          (λ x. ⊎_elim
          (λ full. absurd (no_table_fault f early mode (acquire_fault s.locks t.txn.txn x.0.granule x.0.mode (on_conflict_of c) f full.0)))
          (λ b. absurd (behind (refused_behind g (behind_lock s t.txn c x.0) t.txn new c f b.1)))
          x.3)
          (λ prepare. absurd (early_no_prepare f early (prepare_refuses g.version s t.txn prepare.0 f prepare.2))))
          t.from

  pub no_page_of_no_store : (id : Rid) → (HasStore g id.page.store → ⊥) → Refuses (call.Get id) fault.NoPage → ⊥
  no_page_of_no_store id none h = none (early_of (call.Get id) fault.NoPage tt tt (λ e. cc) (λ x. x) tt h).0

  pub no_page_though_there : (id : Rid) → HasPage g id.page → Refuses (call.Get id) fault.NoPage → ⊥
  no_page_though_there id page h = (early_of (call.Get id) fault.NoPage tt tt (λ e. cc) (λ x. x) tt h).1 page

  pub no_store_though_there : (id : Rid) → HasStore g id.page.store → Refuses (call.Get id) fault.NoStore → ⊥
  no_store_though_there id store h = early_of (call.Get id) fault.NoStore tt tt (λ e. cc) (λ x. x) tt h store

  pub too_long_though_short : (store : ℕ) (bytes : List ℕ) → length bytes ≤ record_limit g.version → Refuses (call.Insert store bytes) fault.TooLong → ⊥
  too_long_though_short store bytes short h =
      ⊎_elim (λ long. let less = long.1 in omega arith) (λ none. let clash = none.1 in cc)
      (early_of (call.Insert store bytes) fault.TooLong tt tt (λ e. cc) (λ x. x) tt h)

  -- ---- forces

  behind_forces : (l : State) (a : SessionTxn) (c : Call) (n : ℕ) → RefusesBehind g l a c (fault.NeedForce n) new → (l.durable < n) × (n ≤ length l.log)
  behind_forces l a (call.Get id) n h = force_cause l n h.0
  behind_forces l a (call.GetForUpdate id) n h = force_cause l n h.0
  behind_forces l a (call.Insert store bytes) n (inl h) = let clash = h.0 in absurd cc
  behind_forces l a (call.Insert store bytes) n (inr (inl h)) = let clash = h.0 in absurd cc
  behind_forces l a (call.Insert store bytes) n (inr (inr (inl h))) = let clash = h.0 in absurd cc
  behind_forces l a (call.Insert store bytes) n (inr (inr (inr h))) = force_cause l n h.0
  behind_forces l a (call.Update id bytes) n h =
      ⊎_elim (force_cause l n) (λ more. ⊎_elim (λ x. let clash = x.0 in absurd cc) (λ x. let clash = x.0 in absurd cc) more) h.0
  behind_forces l a (call.Delete id) n h = ⊎_elim (force_cause l n) (λ x. let clash = x.0 in absurd cc) h.0
  behind_forces l a (call.Scan store) n h = force_cause l n h.0
  behind_forces l a _ n h = absurd h

  forced : (c : Call) (n : ℕ) → NeedsTxn c → NoRollback g s new session c (fault.NeedForce n) → Refuses c (fault.NeedForce n) → (s.durable < n) × (n ≤ length s.log)
  forced c n other none h = let t = force_behind c n other none h in behind_forces (behind_lock s t.txn c t.lock) t.txn c n t.refuses

  force_of : (c : Call) (n : ℕ) → rollback_of c ≡ None → Refuses c (fault.NeedForce n) → (s.durable < n) × (n ≤ length s.log)
  force_of call.Begin n plain h =
      absurd (begin_fault g s new session (λ f. f ≢ fault.NeedForce n) (λ e. cc) (λ e. cc) (λ e. cc) (fault.NeedForce n) (begin_refused g s new session (fault.NeedForce n) tt h) refl)
  force_of call.InDoubt n plain h = absurd (listing_no_page g s new session (fault.NeedForce n) tt h)
  force_of (call.Resolve global asked) n plain h =
      let t = resolve_stopped g s new session global asked (fault.NeedForce n) tt h in
      let clash : None ≡ Some Whole = sym plain ∙ ap rollback_of t.is in
      absurd cc
  force_of c n plain h = forced c n tt (λ r is. absurd (no_rollback (rollback_of c) r plain is)) h
    where
      no_rollback : (o : Option Rollback) (r : Rollback) → o ≡ None → o ≡ Some r → ⊥
      no_rollback o r d e = cc

  -- .. and of a rollback: its own records are there then
  rollback_force_of : (c : Call) (r : Rollback) (n : ℕ) → rollback_of c ≡ Some r → Refuses c (fault.NeedForce n) → (s.durable < n) × (n ≤ length new.log)
  rollback_force_of call.Begin r n is h = let clash : None ≡ Some r = is in absurd cc
  rollback_force_of call.InDoubt r n is h = let clash : None ≡ Some r = is in absurd cc
  rollback_force_of (call.Resolve global asked) r n is h =
      let t = resolve_stopped g s new session global asked (fault.NeedForce n) tt h in
      ⊎_elim
      (λ memory. let clash = memory in absurd cc)
      (λ page.
      let force = force_cause t.how.0 n page in
      let log : new.log ≡ t.how.0.log = ap (λ (x : State). x.log) t.how.3 in (
        subst (λ d. d < n) (unwound_durable t.decided t.txn Whole t.how.0 t.how.1 ∙ decided_durable s t.global t.txn t.decided t.by) force.0,
        subst (λ (l : List LogRecord). n ≤ length l) (sym log) force.1,
      ))
      t.how.2
  rollback_force_of c r n is h =
      let t = interrupted_in g s new session c r (fault.NeedForce n) tt is tt h in
      ⊎_elim
      (λ memory. let clash = memory in absurd cc)
      (λ page.
      let force = force_cause t.how.0 n page in
      let log : new.log ≡ t.how.0.log = ap (λ (x : State). x.log) t.how.3 in (
        subst (λ d. d < n) (unwound_durable s t.txn r t.how.0 t.how.1) force.0,
        subst (λ (l : List LogRecord). n ≤ length l) (sym log) force.1,
      ))
      t.how.2

  any_force : (c : Call) (n : ℕ) → Refuses c (fault.NeedForce n) → (s.durable < n) × (n ≤ length new.log)
  any_force c n h = by (rollback_of c) refl
    where
      by : (o : Option Rollback) → rollback_of c ≡ o → (s.durable < n) × (n ≤ length new.log)
      by None plain =
          let force = force_of c n plain h in
          let on = (call_further g s session c (Refused (fault.NeedForce n)) new h).on in
          let longer : length new.log ≡ length s.log + length on.0 = ap length on.1 ∙ length-append s.log on.0 in
          let within = force.1 in
          (force.0, omega (arith, within, longer))
      by (Some r) is = rollback_force_of c r n is h

  pub force_of_durable : (c : Call) (n : ℕ) → n ≤ s.durable → Refuses c (fault.NeedForce n) → ⊥
  force_of_durable c n durable h = let above = (any_force c n h).0 in omega arith

  pub force_beyond_log : (c : Call) (n : ℕ) → rollback_of c ≡ None → length s.log < n → Refuses c (fault.NeedForce n) → ⊥
  force_beyond_log c n plain past h = let within = (force_of c n plain h).1 in omega arith

  pub force_beyond_all : (c : Call) (n : ℕ) → length new.log < n → Refuses c (fault.NeedForce n) → ⊥
  force_beyond_all c n past h = let within = (any_force c n h).1 in omega arith
