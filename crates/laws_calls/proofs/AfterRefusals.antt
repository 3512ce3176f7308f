-- What the refusals of sessions leave: the locks that were taken, and nothing else.
use Rattle.std.proofs.Common.{◌≡◌, ◌⊎◌, inl, inr, ⊎_elim, ◌≤◌, ◌<◌, ℕ, List, None, Some, refl, sym, ap, subst, ◌∙◌, arith, Err}
use Rattle.std.specs.Prelude.{Option, IsTrue}
use Rattle.shore_types.specs.declared.faults.Device.{Device}
use Rattle.shore_types.specs.declared.faults.Fault.{Fault}
use Rattle.shore_types.specs.declared.faults.Fault.TheVariants as fault
use Rattle.shore_types.specs.declared.ids.Rid.{Rid}
use Rattle.shore_types.specs.declared.layout.Geometry.{Geometry}
use Rattle.shore_types.specs.declared.locking.Granule.TheVariants as granule
use Rattle.shore_types.specs.declared.locking.Mode.TheVariants.{EX}
use Rattle.shore_types.specs.Versions.{slot_limit}
use Rattle.shore_model.specs.Alone.{record_named_by}
use Rattle.shore_model.specs.declared.calls.Call.{Call}
use Rattle.shore_model.specs.declared.calls.Call.TheVariants as call
use Rattle.shore_model.specs.declared.histories.Entry.{Entry}
use Rattle.shore_model.specs.declared.histories.Opening.{Opening}
use Rattle.shore_model.specs.declared.holds.Hold.{Hold}
use Rattle.shore_model.specs.declared.log_records.LogRecord.{LogRecord}
use Rattle.shore_model.specs.declared.requests.Request.{Request}
use Rattle.laws_locks.proofs.Held.{locked_of}
use Rattle.laws_locks.specs.CallLocks.{Asked, lock_asked_by}
use Rattle.laws_lives.specs.GranuleLocks.{HasLock}
use Rattle.shore_model.specs.declared.rollbacks.Rollback.{Rollback}
use Rattle.shore_model.specs.declared.rollbacks.Rollback.TheVariants.{To, Whole}
use Rattle.laws_lives.specs.Sessions.{SessionTxn}
use Rattle.shore_model.specs.declared.step.Step.TheVariants.{Refused}
use Rattle.laws_calls.proofs.AcquireAnswers.{IsLockFault, acquire_fault}
use Rattle.laws_calls.proofs.LocksKept.{SameLocks, after_same, its_number, lock_leaves, may_ask_behind, may_ask_in, place_leaves, same_locks}
use Rattle.laws_calls.proofs.RefusalCauses.{behind_lock_of, comes_behind, insert_log_full}
use Rattle.laws_calls.proofs.SessionCalls.{names_no_slot}
use Rattle.laws_calls.proofs.SessionInversions.{IsOwn, interrupted_in, refused_in, same_lock}
use Rattle.laws_calls.proofs.WrongRefusals.{IsEarly, begin_fault, begin_refused, IsOfPrepare}
use Rattle.laws_calls.specs.StateChanges.{CanLog, after_refusal, with_failure}
use Rattle.laws_calls.specs.CallSteps.{CallGoesOn, InnerStep, LacksMemory, RefusesBehind, RefusesEarly, CallStep, behind_lock, behind_place, lock_outcome, on_conflict_of, place_outcome, with_requests, NeedsTxn}
use Rattle.laws_calls.specs.LockedStates.{IsSessionsState}
use Rattle.laws_calls.specs.Shapes.{rollback_of, store_lock, store_locked, with_locks_of}
use Rattle.laws_calls.specs.States.{IsOfSession, State}
use Rattle.laws_calls.proofs.Outside.{outside_refused, resolve_stopped, listing_no_page, asks_needs, IsOfPage}
use Rattle.shore_model.specs.declared.calls.Outcome.{Outcome}

-- ---- only locks change

-- but for its locks, and whether it failed, the state is another
abbrev pub HasLocksOf : State → State → Type 0
HasLocksOf new s = new ≡ with_locks_of new s

itself : (s new l : State) → new ≡ l → l ≡ with_locks_of l s → HasLocksOf new s
itself s new l is e = subst (λ (n : State). n ≡ with_locks_of n s) (sym is) e

module _ (s l : State) (from : HasLocksOf l s) where
  then_locked : (rs : List Request) → HasLocksOf (with_requests l rs) s
  then_locked rs = ap (λ (n : State). with_requests n rs) from

  then_refused : (f : Fault) → HasLocksOf (after_refusal f l) s
  then_refused fault.Device = ap with_failure from
  then_refused (fault.Damaged device place) = ap with_failure from
  then_refused _ = from

module _ (g : Geometry) (s new : State) where
  after : (l : State) → HasLocksOf l s → (f : Fault) → new ≡ after_refusal f l → HasLocksOf new s
  after l from f is = itself s new (after_refusal f l) is (then_refused s l from f)

  behind_leaves : (l : State) → HasLocksOf l s → (a : SessionTxn) (c : Call) (f : Fault) → RefusesBehind g l a c f new → HasLocksOf new s
  behind_leaves l from a (call.Get id) f h = after l from f h.1
  behind_leaves l from a (call.GetForUpdate id) f h = after l from f h.1
  behind_leaves l from a (call.Insert store bytes) f (inl h) = itself s new l h.2 from
  behind_leaves l from a (call.Insert store bytes) f (inr (inl h)) = itself s new (behind_place l a h.1.0) h.1.3 (then_locked s l from (place_outcome l a h.1.0).requests)
  behind_leaves l from a (call.Insert store bytes) f (inr (inr (inl h))) = itself s new (behind_place l a h.1.0) h.1.3 (then_locked s l from (place_outcome l a h.1.0).requests)
  behind_leaves l from a (call.Insert store bytes) f (inr (inr (inr h))) = after l from f h.1
  behind_leaves l from a (call.Update id bytes) f h = after l from f h.1
  behind_leaves l from a (call.Delete id) f h = after l from f h.1
  behind_leaves l from a (call.Scan store) f h = after l from f h.1
  behind_leaves l from a _ f h = absurd h

  locked_leaves : (a : SessionTxn) (c : Call) (lock : Asked) → HasLocksOf (behind_lock s a c lock) s
  locked_leaves a c lock = refl

  memory_leaves : (a : SessionTxn) (c : Call) → LacksMemory g s a c new → HasLocksOf new s
  memory_leaves a c (inl same) = itself s new s same refl
  memory_leaves a c (inr h) =
      let locked = itself s h.0 (behind_lock s a c h.1.0) h.1.3 (locked_leaves a c h.1.0) in
      ⊎_elim
      (λ same. itself s new h.0 same locked)
      (λ more. itself s new (behind_place h.0 a more.2) more.5 (then_locked s h.0 locked (place_outcome h.0 a more.2).requests))
      h.2

  pub goes_leaves : (a : SessionTxn) (c : Call) (f : Fault) → CallGoesOn g s a c (Refused f) new → HasLocksOf new s
  goes_leaves a c f (inl h) = memory_leaves a c h.1
  goes_leaves a c f (inr (inl h)) = itself s new (behind_lock s a c h.0) h.3 (locked_leaves a c h.0)
  goes_leaves a c f (inr (inr h)) = behind_leaves h.0 (itself s h.0 (behind_lock s a c h.1.0) h.1.3 (locked_leaves a c h.1.0)) a c f h.2

  module _ (session : ℕ) (c : Call) (f : Fault) where
    -- what refuses a call of a transaction under way that asks for no rollback
    inner_leaves : (a : SessionTxn) → rollback_of c ≡ None → InnerStep g s a c (Refused f) new → HasLocksOf new s
    inner_leaves a plain (inl h) = itself s new s h.3 refl
    inner_leaves a plain (inr (inl (whole, inl h))) = itself s new s h.3 refl
    inner_leaves a plain (inr (inl (whole, inr (inl h)))) = goes_leaves a c f h.1
    inner_leaves a plain (inr (inl (whole, inr (inr (inl h))))) = absurd h.1
    inner_leaves a plain (inr (inl (whole, inr (inr (inr (inl h)))))) = itself s new s h.1.2 refl
    inner_leaves a plain (inr (inl (whole, inr (inr (inr (inr h)))))) = itself s new s h.2.1 refl
    inner_leaves a plain (inr (inr (inl h))) = let clash : None ≡ Some (To h.0) = sym plain ∙ ap rollback_of h.1 in absurd cc
    inner_leaves a plain (inr (inr (inr h))) = let clash : None ≡ Some Whole = sym plain ∙ ap rollback_of h.0 in absurd cc

    pub refusal_leaves : rollback_of c ≡ None → CallStep g s session c (Refused f) new → new ≡ with_locks_of new s
    refusal_leaves plain (inl h) = itself s new s h.1 refl
    refusal_leaves plain (inr (inl h)) = itself s new s h.2 refl
    refusal_leaves plain (inr (inr (inl h))) = itself s new s h.3 refl
    refusal_leaves plain (inr (inr (inr (inl h)))) = itself s new s h.3.1 refl
    refusal_leaves plain (inr (inr (inr (inr (inl h))))) = itself s new s h.5 refl
    refusal_leaves plain (inr (inr (inr (inr (inr (inr (inl h))))))) = itself s new s h.5 refl
    refusal_leaves plain (inr (inr (inr (inr (inr (inr (inr h))))))) = ⊎_elim
        (λ early. itself s new s early.same refl)
        (λ stopped. let clash : None ≡ Some Whole = sym plain ∙ ap rollback_of stopped.is in absurd cc)
        (outside_refused s session c f new h.2)
    refusal_leaves plain (inr (inr (inr (inr (inr (inl h)))))) =
        inner_leaves h.2.0 plain h.2.2

-- ---- and a device that failed, or a page that was damaged

module _ (g : Geometry) (s new : State) (session : ℕ) where
  -- the fault fails the state, or leaves it as it runs
  fails_after : (l : State) (f : Fault) → new ≡ after_refusal f l → (f ≡ fault.Device) ⊎ ((device : Device) × (offset : ℕ) × (f ≡ fault.Damaged device offset)) → IsTrue new.failed
  fails_after l f is (inl e) = subst (λ (n : State). IsTrue n.failed) (sym (is ∙ ap (λ (x : Fault). after_refusal x l) e)) refl
  fails_after l f is (inr h) = subst (λ (n : State). IsTrue n.failed) (sym (is ∙ ap (λ (x : Fault). after_refusal x l) h.2)) refl

  abbrev Fails : Fault → Type 0
  Fails f = (f ≡ fault.Device) ⊎ ((device : Device) × (offset : ℕ) × (f ≡ fault.Damaged device offset))

  no_fail : (f exact : Fault) → f ≡ exact → (Fails exact → ⊥) → Fails f → ⊥
  no_fail f exact e none h = none (subst Fails e h)

  behind_fails : (l : State) (a : SessionTxn) (c : Call) (f : Fault) → Fails f → RefusesBehind g l a c f new → IsTrue new.failed
  behind_fails l a (call.Get id) f fails h = fails_after l f h.1 fails
  behind_fails l a (call.GetForUpdate id) f fails h = fails_after l f h.1 fails
  behind_fails l a (call.Insert store bytes) f fails (inl h) = absurd (no_fail f fault.StoreFull h.0 (⊎_elim (λ e. cc) (λ x. let clash = x.2 in cc)) fails)
  behind_fails l a (call.Insert store bytes) f fails (inr (inl h)) = absurd (no_fail f fault.LockTableFull h.0 (⊎_elim (λ e. cc) (λ x. let clash = x.2 in cc)) fails)
  behind_fails l a (call.Insert store bytes) f fails (inr (inr (inl h))) = absurd (no_fail f fault.LogFull h.0 (⊎_elim (λ e. cc) (λ x. let clash = x.2 in cc)) fails)
  behind_fails l a (call.Insert store bytes) f fails (inr (inr (inr h))) = fails_after l f h.1 fails
  behind_fails l a (call.Update id bytes) f fails h = fails_after l f h.1 fails
  behind_fails l a (call.Delete id) f fails h = fails_after l f h.1 fails
  behind_fails l a (call.Scan store) f fails h = fails_after l f h.1 fails
  behind_fails l a _ f fails h = absurd h

  faults_fail : (c : Call) (f : Fault) → IsOwn f → (IsLockFault f → ⊥) → (IsEarly f → ⊥) → NeedsTxn c → Fails f → CallStep g s session c (Refused f) new → IsTrue new.failed
  faults_fail c f own table early other fails h = by (rollback_of c) refl
    where
      no_rollback : (o : Option Rollback) (r : Rollback) → o ≡ None → o ≡ Some r → ⊥
      no_rollback o r d e = cc

      by : (o : Option Rollback) → rollback_of c ≡ o → IsTrue new.failed
      by (Some r) is = let t = interrupted_in g s new session c r f other is own h in fails_after t.how.0 f t.how.3 fails
      by None plain = let t = comes_behind g s new session c f own table early other (λ global e x. ⊎_elim (λ d. subst IsOfPrepare d x) (λ d. subst IsOfPrepare d.2 x) fails) (λ r is. absurd (no_rollback (rollback_of c) r plain is)) h in behind_fails (behind_lock s t.txn c t.lock) t.txn c f fails t.refuses

  no_begin_fails : (f : Fault) → IsOwn f → Fails f → CallStep g s session call.Begin (Refused f) new → ⊥
  no_begin_fails f own fails h =
      begin_fault g s new session (λ f. Fails f → ⊥) (⊎_elim (λ e. cc) (λ x. let clash = x.2 in cc)) (⊎_elim (λ e. cc) (λ x. let clash = x.2 in cc))
      (⊎_elim (λ e. cc) (λ x. let clash = x.2 in cc)) f (begin_refused g s new session f own h) fails

  -- a resolve whose rollback it interrupts
  resolve_fails : (global : List ℕ) (asked : Outcome) (f : Fault) → IsOfPage f → Fails f → CallStep g s session (call.Resolve global asked) (Refused f) new → IsTrue new.failed
  resolve_fails global asked f page fails h = let t = resolve_stopped g s new session global asked f page h in fails_after t.how.0 f t.how.3 fails

  pub device_fails : (c : Call) → CallStep g s session c (Refused fault.Device) new → IsTrue new.failed
  device_fails call.Begin h = absurd (no_begin_fails fault.Device tt (inl refl) h)
  device_fails call.InDoubt h = absurd (listing_no_page g s new session fault.Device tt h)
  device_fails (call.Resolve global asked) h = resolve_fails global asked fault.Device tt (inl refl) h
  device_fails c h = faults_fail c fault.Device tt (⊎_elim (λ e. cc) (⊎_elim (λ e. cc) (λ x. let clash = x.1 in cc))) (λ x. x) tt (inl refl) h

  pub damage_fails : (c : Call) (device : Device) (offset : ℕ) → CallStep g s session c (Refused (fault.Damaged device offset)) new → IsTrue new.failed
  damage_fails call.Begin device offset h = absurd (no_begin_fails (fault.Damaged device offset) tt (inr (device, offset, refl)) h)
  damage_fails call.InDoubt device offset h = absurd (listing_no_page g s new session (fault.Damaged device offset) tt h)
  damage_fails (call.Resolve global asked) device offset h = resolve_fails global asked (fault.Damaged device offset) tt (inr (device, offset, refl)) h
  damage_fails c device offset h =
      faults_fail c (fault.Damaged device offset) tt (⊎_elim (λ e. cc) (⊎_elim (λ e. cc) (λ x. let clash = x.1 in cc))) (λ x. x) tt (inr (device, offset, refl)) h

-- ---- in words of locks

-- a call that asks for a lock asks for no rollback
no_lock_rollback : (c : Call) (lock : Asked) → lock_asked_by c ≡ Some lock → (r : Rollback) → rollback_of c ≡ Some r → ⊥
no_lock_rollback (call.BackTo n) lock asks r is = absurd cc
no_lock_rollback call.Abort lock asks r is = absurd cc
no_lock_rollback _ lock asks r is = absurd cc

module _ (g : Geometry) (o : Opening) (found : List LogRecord) (es : List Entry) (s new : State) (k : IsSessionsState o found es s) (session : ℕ) where
  -- the place of an insert whose log is full stays locked
  pub log_full_locked : (store : ℕ) (bytes : List ℕ) (a : SessionTxn) → IsOfSession s session a → CallStep g s session (call.Insert store bytes) (Refused fault.LogFull) new
      → (id : Rid) × (CanLog s id (Some bytes) → ⊥) × HasLock new.sessions.held a.txn (granule.Record id) EX
  log_full_locked store bytes a of h =
      let t = insert_log_full g s new session store bytes h in
      let c : Call = call.Insert store bytes in
      let start = refused_in g s new session c fault.LogFull tt tt (λ r is. absurd (no_lock_rollback c (store_lock store) refl r is)) h in
      let ready = may_ask_in g o found es s new k session t.txn t.of start.running start.idle in
      let l = store_locked s t.txn store bytes in
      let left = place_leaves l t.txn (may_ask_behind s t.txn ready c (store_lock store) t.done) t.id in
      let has = locked_of (place_outcome l t.txn t.id).requests t.txn.txn (granule.Record t.id) EX (left.done t.place.1) in
      let same = same_locks new (behind_place l t.txn t.id) t.leaves in (
        t.id,
        t.full,
        subst (λ (n : ℕ). HasLock new.sessions.held n (granule.Record t.id) EX) (its_number g o found es s new k session a t.txn of t.of)
            (subst (λ (held : List Hold). HasLock held t.txn.txn (granule.Record t.id) EX) (sym same.1) has),
      )

  -- who learns that a record is not there, though its slot is one that a page may have, has its lock
  no_slot : (c : Call) (id : Rid) → record_named_by c ≡ Some id → id.slot < slot_limit g.version → RefusesEarly g c fault.NoRecord → ⊥
  no_slot c id named within h =
      let t = names_no_slot g o found es s k session c h in
      let same = same_id (record_named_by c) id t.id named t.named in
      let beyond = subst (λ (x : Rid). slot_limit g.version ≤ x.slot) (sym same) t.beyond in
      omega arith
    where
      same_id : (o : Option Rid) (x y : Rid) → o ≡ Some x → o ≡ Some y → x ≡ y
      same_id o x y d e = cc

  same_behind : (l : State) (a : SessionTxn) (c : Call) (id : Rid) (f : Fault) → record_named_by c ≡ Some id → RefusesBehind g l a c f new → SameLocks new l
  same_behind l a (call.Get id) named f e h = after_same f new l h.1
  same_behind l a (call.GetForUpdate id) named f e h = after_same f new l h.1
  same_behind l a (call.Insert store bytes) named f e h = absurd cc
  same_behind l a (call.Update id bytes) named f e h = after_same f new l h.1
  same_behind l a (call.Delete id) named f e h = after_same f new l h.1
  same_behind l a (call.Scan store) named f e h = after_same f new l h.1
  same_behind l a _ named f e h = absurd h

  no_table_absence : (a : SessionTxn) (c : Call) (lock : Asked) → (lock_outcome s a c lock).answer ≡ Err fault.NoRecord → ⊥
  no_table_absence a c lock is = by (acquire_fault s.locks a.txn lock.granule lock.mode (on_conflict_of c) fault.NoRecord is)
    where
      by : IsLockFault fault.NoRecord → ⊥
      by (inl e) = cc
      by (inr (inl e)) = cc
      by (inr (inr x)) = let clash = x.1 in cc

  pub absence_locked : (c : Call) (id : Rid) (lock : Asked) (a : SessionTxn) → record_named_by c ≡ Some id → id.slot < slot_limit g.version → lock_asked_by c ≡ Some lock → IsOfSession s session a
      → CallStep g s session c (Refused fault.NoRecord) new → HasLock new.sessions.held a.txn lock.granule lock.mode
  absence_locked c id lock a named within asks of h =
      let other = asks_needs c lock asks in
      let t = behind_lock_of g s new session c fault.NoRecord tt (λ b l is. no_table_absence b c l is) (no_slot c id named within) other (λ global e x. x) (λ r is. absurd (no_lock_rollback c lock asks r is)) h in
      let start = refused_in g s new session c fault.NoRecord tt other (λ r is. absurd (no_lock_rollback c lock asks r is)) h in
      let ready = may_ask_in g o found es s new k session t.txn t.of start.running start.idle in
      let out = lock_outcome s t.txn c t.lock in
      let has = locked_of out.requests t.txn.txn t.lock.granule t.lock.mode ((lock_leaves s t.txn ready c t.lock).done t.done) in
      let same = same_behind (behind_lock s t.txn c t.lock) t.txn c id fault.NoRecord named t.refuses in
      subst (λ (l : Asked). HasLock new.sessions.held a.txn l.granule l.mode) (same_lock (lock_asked_by c) t.lock lock t.asks asks)
      (subst (λ (n : ℕ). HasLock new.sessions.held n t.lock.granule t.lock.mode) (its_number g o found es s new k session a t.txn of t.of)
      (subst (λ (held : List Hold). HasLock held t.txn.txn t.lock.granule t.lock.mode) (sym same.1) has))
