-- Answers of sessions that must not come.
use Rattle.std.proofs.Common.{◌≡◌, ◌≢◌, ◌≤◌, ◌<◌, ℕ, List, Some, None, sym, ap, subst, ◌∙◌, length, arith, Ok}
use Rattle.std.specs.FinMap.{get}
use Rattle.std.specs.Prelude.{Option, IsSome, IsTrue}
use Rattle.shore_types.specs.Layout.{HasPage, HasSlot}
use Rattle.shore_types.specs.declared.ids.Rid.{Rid}
use Rattle.shore_types.specs.declared.layout.Geometry.{Geometry}
use Rattle.shore_types.specs.declared.layout.TheConstants.{MAX_TRANSACTIONS}
use Rattle.shore_types.specs.declared.locking.Granule.TheVariants as granule
use Rattle.shore_types.specs.declared.locking.Mode.TheVariants.{EX}
use Rattle.shore_types.specs.Versions.{record_limit}
use Rattle.shore_model.specs.Logs.{previous_of}
use Rattle.shore_model.specs.Records.{scan_of}
use Rattle.shore_model.specs.declared.calls.Answer.{Answer}
use Rattle.shore_model.specs.declared.calls.Answer.TheVariants.{Began, Got, Inserted, Scanned, Committed}
use Rattle.shore_model.specs.declared.calls.Call.{Call}
use Rattle.shore_model.specs.declared.calls.Call.TheVariants as call
use Rattle.shore_model.specs.declared.log_records.LogRecord.{LogRecord}
use Rattle.shore_model.specs.declared.log_records.Payload.TheVariants as payload
use Rattle.shore_path.specs.declared.answers.Acquired.TheVariants as acquire
use Rattle.laws_locks.specs.CallLocks.{Asked, CanLockNow, lock_asked_by}
use Rattle.laws_room.specs.Choosing.{IsBefore}
use Rattle.laws_room.specs.Claims.{SlotCounts}
use Rattle.laws_lives.proofs.Ids.{put_here}
use Rattle.laws_lives.proofs.Lists.{length-push}
use Rattle.laws_lives.specs.Sessions.{SessionTxn}
use Rattle.laws_lives.specs.Views.{IsAmong}
use Rattle.shore_model.specs.declared.step.Step.TheVariants.{Done}
use Rattle.laws_calls.proofs.Decided.{both_ways, no_record_both}
use Rattle.laws_calls.proofs.SessionInversions.{AnsweredFrom, AnsweredIn, answered_in, answered_of, answered_running, asks_in_txn, asks_no_lockless, begun_in, insert_asks, same_lock, committed_in}
use Rattle.laws_calls.specs.StateChanges.{CanLog, FitsAt, MayChange, answered}
use Rattle.laws_calls.specs.CallSteps.{AnswersBehind, HasPlace, ServesTxn, CallStep, behind_lock, behind_place, lock_outcome, place_outcome, txn_count, NeedsTxn}
use Rattle.laws_calls.specs.Shapes.{ForItsTxn, store_locked}
use Rattle.laws_calls.specs.States.{HasNoTxn, IsInTxn, MayBegin, State, Waiting, next_number}
use Rattle.laws_calls.proofs.Sessions.{in_one}

same_bytes : (x y : List ℕ) → Got x ≡ Got y → x ≡ y
same_bytes x y e = cc

same_image : (x y : List ℕ) (o : Option (List ℕ)) → o ≡ Some x → o ≡ Some y → x ≡ y
same_image x y o d e = cc

same_id : (a b : Rid) → Inserted a ≡ Inserted b → a ≡ b
same_id a b e = cc

module _ (g : Geometry) (s new : State) (a : SessionTxn) where
  -- an insert looks for its place behind the lock of its store
  pub inserted_from : (store : ℕ) (bytes : List ℕ) (answer : Answer) → AnsweredFrom g s a (call.Insert store bytes) answer new
      → AnswersBehind g (store_locked s a store bytes) a (call.Insert store bytes) answer new
  inserted_from store bytes answer h =
      subst (λ (l : Asked). AnswersBehind g (behind_lock s a (call.Insert store bytes) l) a (call.Insert store bytes) answer new)
      (insert_asks store bytes h.lock h.asks) h.behind

  -- the id is the place that it took
  pub record Took (store : ℕ) (bytes : List ℕ) (id : Rid) : Type 0 where
    pub place : HasPlace g (store_locked s a store bytes) a store bytes id
    pub counts : SlotCounts
    pub may : MayChange g.version (behind_place (store_locked s a store bytes) a id) id (Some bytes) counts
    pub leaves : new ≡ answered (behind_place (store_locked s a store bytes) a id) a (call.Insert store bytes) (Inserted id) counts

  pub took : (store : ℕ) (bytes : List ℕ) (id : Rid) → AnsweredFrom g s a (call.Insert store bytes) (Inserted id) new → Took store bytes id
  took store bytes id h = subst (Took store bytes) (sym (same_id id t.0 t.2)) (record { place = t.1; counts = t.3.0; may = t.3.1; leaves = leaves })
    where
      t : AnswersBehind g (store_locked s a store bytes) a (call.Insert store bytes) (Inserted id) new
      t = inserted_from store bytes (Inserted id) h

      leaves : new ≡ answered (behind_place (store_locked s a store bytes) a t.0) a (call.Insert store bytes) (Inserted t.0) t.3.0
      leaves = subst (λ (x : Answer). new ≡ answered (behind_place (store_locked s a store bytes) a t.0) a (call.Insert store bytes) x t.3.0) t.2 t.3.2

module _ (g : Geometry) (s new : State) (session : ℕ) where
  abbrev Answered : Call → Answer → Type 0
  Answered c answer = CallStep g s session c (Done answer) new

  got : (id : Rid) (answer : Answer) → Answered (call.Get id) answer → AnsweredIn g s session (call.Get id) answer new
  got id answer h = answered_in g s new session (call.Get id) answer tt (λ x. x) h

  got_for_update : (id : Rid) (answer : Answer) → Answered (call.GetForUpdate id) answer → AnsweredIn g s session (call.GetForUpdate id) answer new
  got_for_update id answer h = answered_in g s new session (call.GetForUpdate id) answer tt (λ x. x) h

  inserted : (store : ℕ) (bytes : List ℕ) (answer : Answer) → Answered (call.Insert store bytes) answer → AnsweredIn g s session (call.Insert store bytes) answer new
  inserted store bytes answer h = answered_in g s new session (call.Insert store bytes) answer tt (λ x. x) h

  updated : (id : Rid) (bytes : List ℕ) (answer : Answer) → Answered (call.Update id bytes) answer → AnsweredIn g s session (call.Update id bytes) answer new
  updated id bytes answer h = answered_in g s new session (call.Update id bytes) answer tt (λ x. x) h

  deleted : (id : Rid) (answer : Answer) → Answered (call.Delete id) answer → AnsweredIn g s session (call.Delete id) answer new
  deleted id answer h = answered_in g s new session (call.Delete id) answer tt (λ x. x) h

  scanned : (store : ℕ) (answer : Answer) → Answered (call.Scan store) answer → AnsweredIn g s session (call.Scan store) answer new
  scanned store answer h = answered_in g s new session (call.Scan store) answer tt (λ x. x) h

  -- ---- reads

  pub other_bytes : (id : Rid) (x y : List ℕ) → get s.sessions.records id ≡ Some x → x ≢ y → Answered (call.Get id) (Got y) → ⊥
  other_bytes id x y at other h =
      let t = (got id (Got y) h).from.behind.0 in other (same_image x t.0 (get s.sessions.records id) at t.1 ∙ sym (same_bytes y t.0 t.2))

  pub other_bytes_for_update : (id : Rid) (x y : List ℕ) → get s.sessions.records id ≡ Some x → x ≢ y → Answered (call.GetForUpdate id) (Got y) → ⊥
  other_bytes_for_update id x y at other h =
      let t = (got_for_update id (Got y) h).from.behind.0 in other (same_image x t.0 (get s.sessions.records id) at t.1 ∙ sym (same_bytes y t.0 t.2))

  pub get_outside : (id : Rid) (answer : Answer) → (HasSlot g id → ⊥) → Answered (call.Get id) answer → ⊥
  get_outside id answer none h = none (got id answer h).may

  pub get_that_changes : (id : Rid) (answer : Answer) → new.sessions.records ≢ s.sessions.records → Answered (call.Get id) answer → ⊥
  get_that_changes id answer changed h = changed (ap (λ (s : State). s.sessions.records) (got id answer h).from.behind.1)

  pub other_scan : (store : ℕ) (answer : Answer) → answer ≢ Scanned (scan_of store s.sessions.records) → Answered (call.Scan store) answer → ⊥
  other_scan store answer other h = other (scanned store answer h).from.behind.0

  -- ---- updates and deletes

  pub update_of_none : (id : Rid) (bytes : List ℕ) (answer : Answer) → get s.sessions.records id ≡ None → Answered (call.Update id bytes) answer → ⊥
  update_of_none id bytes answer none h = no_record_both (get s.sessions.records id) (updated id bytes answer h).from.behind.0 none

  pub update_without_place : (id : Rid) (bytes : List ℕ) (answer : Answer) → (FitsAt g.version s id (Some bytes) → ⊥) → Answered (call.Update id bytes) answer → ⊥
  update_without_place id bytes answer none h = none (updated id bytes answer h).from.behind.2.1.fits

  pub update_without_room : (id : Rid) (bytes : List ℕ) (answer : Answer) → (CanLog s id (Some bytes) → ⊥) → Answered (call.Update id bytes) answer → ⊥
  update_without_room id bytes answer none h = none (updated id bytes answer h).from.behind.2.1.logs

  pub update_too_long : (id : Rid) (bytes : List ℕ) (answer : Answer) → record_limit g.version < length bytes → Answered (call.Update id bytes) answer → ⊥
  update_too_long id bytes answer long h = let short = (updated id bytes answer h).may.0 in omega arith

  pub delete_of_none : (id : Rid) (answer : Answer) → get s.sessions.records id ≡ None → Answered (call.Delete id) answer → ⊥
  delete_of_none id answer none h = no_record_both (get s.sessions.records id) (deleted id answer h).from.behind.0 none

  pub delete_without_room : (id : Rid) (answer : Answer) → (CanLog s id None → ⊥) → Answered (call.Delete id) answer → ⊥
  delete_without_room id answer none h = none (deleted id answer h).from.behind.2.1.logs

  -- ---- inserts

  its_place : (store : ℕ) (bytes : List ℕ) (id : Rid) (h : Answered (call.Insert store bytes) (Inserted id))
      → Took g s new (inserted store bytes (Inserted id) h).txn store bytes id
  its_place store bytes id h = took g s new (inserted store bytes (Inserted id) h).txn store bytes id (inserted store bytes (Inserted id) h).from

  pub insert_above : (store : ℕ) (bytes : List ℕ) (id lower : Rid) → IsBefore lower id
      → ForItsTxn s session (λ a. ServesTxn g (store_locked s a store bytes) a.txn store bytes lower) → Answered (call.Insert store bytes) (Inserted id) → ⊥
  insert_above store bytes id lower before serves h =
      let t = inserted store bytes (Inserted id) h in (its_place store bytes id h).place.0.lowest lower before (serves t.txn t.of)

  pub insert_unlockable : (store : ℕ) (bytes : List ℕ) (id : Rid)
      → ForItsTxn s session (λ a. CanLockNow (store_locked s a store bytes).locks.requests a.txn (granule.Record id) EX → ⊥)
      → Answered (call.Insert store bytes) (Inserted id) → ⊥
  insert_unlockable store bytes id none h =
      let t = inserted store bytes (Inserted id) h in none t.txn t.of (its_place store bytes id h).place.0.serves.free

  pub insert_unlocked : (store : ℕ) (bytes : List ℕ) (id : Rid)
      → ForItsTxn s session (λ a. (place_outcome (store_locked s a store bytes) a id).answer ≢ Ok acquire.Done)
      → Answered (call.Insert store bytes) (Inserted id) → ⊥
  insert_unlocked store bytes id none h =
      let t = inserted store bytes (Inserted id) h in none t.txn t.of (its_place store bytes id h).place.1

  pub insert_beyond : (store : ℕ) (bytes : List ℕ) (id : Rid) → s.counts id.page < id.slot → Answered (call.Insert store bytes) (Inserted id) → ⊥
  insert_beyond store bytes id far h = let reached = (its_place store bytes id h).place.0.serves.reached in omega (arith, far, reached)

  pub insert_over : (store : ℕ) (bytes : List ℕ) (id : Rid) → IsSome (get s.sessions.records id) → Answered (call.Insert store bytes) (Inserted id) → ⊥
  insert_over store bytes id there h = no_record_both (get s.sessions.records id) there (its_place store bytes id h).place.0.serves.empty

  pub insert_without_room : (store : ℕ) (bytes : List ℕ) (id : Rid) → (CanLog s id (Some bytes) → ⊥) → Answered (call.Insert store bytes) (Inserted id) → ⊥
  insert_without_room store bytes id none h = none (its_place store bytes id h).may.logs

  pub insert_without_place : (store : ℕ) (bytes : List ℕ) (id : Rid) → (FitsAt g.version s id (Some bytes) → ⊥) → Answered (call.Insert store bytes) (Inserted id) → ⊥
  insert_without_place store bytes id none h = none (its_place store bytes id h).may.fits

  pub insert_too_long : (store : ℕ) (bytes : List ℕ) (answer : Answer) → record_limit g.version < length bytes → Answered (call.Insert store bytes) answer → ⊥
  insert_too_long store bytes answer long h = let short = (inserted store bytes answer h).may.0 in omega arith

  pub insert_elsewhere : (store : ℕ) (bytes : List ℕ) (id : Rid) → id.page.store ≢ store → Answered (call.Insert store bytes) (Inserted id) → ⊥
  insert_elsewhere store bytes id other h = other (its_place store bytes id h).place.0.serves.of_store

  pub insert_outside : (store : ℕ) (bytes : List ℕ) (id : Rid) → (HasPage g id.page → ⊥) → Answered (call.Insert store bytes) (Inserted id) → ⊥
  insert_outside store bytes id none h = none (its_place store bytes id h).place.0.serves.inside

  pub insert_left_out : (store : ℕ) (bytes : List ℕ) (id : Rid) → get new.sessions.records id ≢ Some bytes → Answered (call.Insert store bytes) (Inserted id) → ⊥
  insert_left_out store bytes id other h =
      other (ap (λ (s : State). get s.sessions.records id) (its_place store bytes id h).leaves ∙ put_here s.sessions.records id (Some bytes))

  pub insert_unlogged : (store : ℕ) (bytes : List ℕ) (id : Rid) → new.log ≡ s.log → Answered (call.Insert store bytes) (Inserted id) → ⊥
  insert_unlogged store bytes id same h =
      let e = ap (λ (s : State). length s.log) (its_place store bytes id h).leaves in
      let longer = length-push s.log (last_of_insert (inserted store bytes (Inserted id) h).txn) in
      let long = ap length same in
      omega arith
    where
      last_of_insert : SessionTxn → LogRecord
      last_of_insert a = record { txn = a.txn; previous = previous_of a.txn s.log; payload = payload.Change id (get s.sessions.records id) (Some bytes) }

  -- ---- begins

  pub other_number : (answer : Answer) → answer ≢ Began s.sessions.next_txn → Answered call.Begin answer → ⊥
  other_number answer other h = other (begun_in g s new session answer h).2.3

  pub begin_without_room : (answer : Answer) → (MayBegin s → ⊥) → Answered call.Begin answer → ⊥
  begin_without_room answer none h = none (begun_in g s new session answer h).2.2

  pub begin_when_full : (answer : Answer) → MAX_TRANSACTIONS ≤ txn_count s → Answered call.Begin answer → ⊥
  begin_when_full answer full h = let less = (begun_in g s new session answer h).2.1 in omega arith

  pub second_begin : (answer : Answer) → IsInTxn s session → Answered call.Begin answer → ⊥
  second_begin answer mine h = mine (begun_in g s new session answer h).2.0

  -- ---- any call

  pub answer_in_no_txn : (c : Call) (answer : Answer) → NeedsTxn c → HasNoTxn s session → Answered c answer → ⊥
  answer_in_no_txn c answer needs none h = let t = answered_of g s new session c answer needs h in in_one s session t.0 t.1 none

  pub answer_while_waiting : (c : Call) (answer : Answer) (w : Waiting) → IsAmong w s.waiting → w.session ≡ session → Answered c answer → ⊥
  answer_while_waiting c answer w m of h = (answered_running g s new session c answer h).1 w m of

  pub answer_after_failure : (c : Call) (answer : Answer) → IsTrue s.failed → Answered c answer → ⊥
  answer_after_failure c answer failed h = both_ways s.failed failed (answered_running g s new session c answer h).0

  pub commit_told_other : (answer : Answer) → answer ≢ Committed (next_number s) → Answered call.Commit answer → ⊥
  commit_told_other answer other h = other (committed_in g s new session answer h).3.0

  pub commit_unlogged : (answer : Answer) → new.log ≡ s.log → Answered call.Commit answer → ⊥
  commit_unlogged answer same h =
      let t = committed_in g s new session answer h in
      let e = ap (λ (x : State). length x.log) t.3.1 in
      let longer = length-push s.log (record { txn = t.0.txn; previous = previous_of t.0.txn s.log; payload = payload.Commit }) in
      let long = ap length same in
      omega (arith, e, longer, long)

  -- a call is not answered if its lock is not taken
  pub answer_unlocked : (c : Call) (answer : Answer) (lock : Asked) → lock_asked_by c ≡ Some lock
      → ForItsTxn s session (λ a. (lock_outcome s a c lock).answer ≢ Ok acquire.Done) → Answered c answer → ⊥
  answer_unlocked c answer lock asks none h =
      let t = answered_in g s new session c answer (asks_in_txn c lock asks) (asks_no_lockless c lock asks) h in
      none t.txn t.of (subst (λ (l : Asked). (lock_outcome s t.txn c l).answer ≡ Ok acquire.Done) (same_lock (lock_asked_by c) t.from.lock lock t.from.asks asks) t.from.done)
