-- Answers of sessions that leave out what they say, or stand on what is not in the volume; and how commits end.
use Rattle.std.proofs.Common.{◌≡◌, ◌≢◌, inl, ◌+◌, ◌≤◌, ℕ, List, [], ◌∷◌, ◌++◌, false, Some, None, refl, sym, ap, subst, ◌∙◌, length, max, arith, cond, inr}
use Rattle.std.specs.FinMap.{get}
use Rattle.shore_types.specs.Images.{Image}
use Rattle.shore_types.specs.Layout.{HasGranule, HasSlot, HasStore}
use Rattle.shore_types.specs.Locking.{level_of}
use Rattle.shore_types.specs.declared.ids.Rid.{Rid}
use Rattle.shore_types.specs.declared.layout.Geometry.{Geometry}
use Rattle.shore_types.specs.declared.locking.Granule.{Granule}
use Rattle.shore_types.specs.declared.locking.Mode.{Mode}
use Rattle.shore_model.specs.Logs.{previous_of}
use Rattle.shore_model.specs.Modes.{is_allowed}
use Rattle.shore_model.specs.declared.calls.Answer.{Answer}
use Rattle.shore_model.specs.declared.calls.Answer.TheVariants.{Deleted, Inserted, Locked, Updated}
use Rattle.shore_model.specs.declared.calls.Call.{Call}
use Rattle.shore_model.specs.declared.calls.Call.TheVariants as call
use Rattle.shore_model.specs.declared.histories.Entry.{Entry}
use Rattle.shore_model.specs.declared.histories.Opening.{Opening}
use Rattle.shore_model.specs.declared.log_records.LogRecord.{LogRecord}
use Rattle.shore_model.specs.declared.log_records.Payload.TheVariants as payload
use Rattle.laws_locks.specs.CallLocks.{Asked}
use Rattle.laws_room.specs.Claims.{SlotCounts}
use Rattle.laws_lives.proofs.Ids.{put_here}
use Rattle.laws_lives.proofs.Lists.{length-push}
use Rattle.laws_lives.proofs.Members.{txn_without}
use Rattle.laws_lives.specs.Sessions.{SessionTxn, in_txn, txns_of}
use Rattle.laws_lives.specs.UndoLists.{nothing_to_undo}
use Rattle.laws_lives.specs.Views.{IsAmong}
use Rattle.shore_model.specs.declared.step.Step.TheVariants.{Done, Refused}
use Rattle.laws_calls.proofs.Decided.{both_ways}
use Rattle.laws_calls.proofs.SessionInversions.{AnsweredIn, IsLockless, answered_in, begun_in, committed_in}
use Rattle.laws_calls.proofs.Sessions.{one_txn}
use Rattle.laws_calls.proofs.WrongAnswers.{Took, took}
use Rattle.laws_calls.specs.StateChanges.{answered}
use Rattle.laws_calls.specs.CallSteps.{CallStep, behind_lock, NeedsTxn, InnerStep}
use Rattle.laws_calls.specs.LockedStates.{IsSessionsState}
use Rattle.laws_calls.specs.States.{HasNoTxn, IsOfSession, State}
use Rattle.std.specs.Prelude.{◌==◌}
use Rattle.std.proofs.lemmas.Bool.{eq-eqb}
use Rattle.shore_model.specs.Histories.{free}
use Rattle.shore_types.specs.declared.faults.Fault.{Fault}
use Rattle.laws_calls.proofs.Outside.{not_outside}

module _ (g : Geometry) (s new : State) (session : ℕ) where
  abbrev Answered : Call → Answer → Type 0
  Answered c answer = CallStep g s session c (Done answer) new

  within : (c : Call) (answer : Answer) → NeedsTxn c → (IsLockless c → ⊥) → Answered c answer → AnsweredIn g s session c answer new
  within c answer needs locks h = answered_in g s new session c answer needs locks h

  -- ---- begins

  pub begin_left_out : (answer : Answer) → ((a : SessionTxn) → IsAmong a new.sessions.active → a.session ≡ session → new.sessions.seats session ≢ in_txn a.txn) → Answered call.Begin answer → ⊥
  begin_left_out answer none h =
      let its : SessionTxn = record { session = session; txn = s.sessions.next_txn; undo = nothing_to_undo } in
      let left = sym (begun_in g s new session answer h).2.4 in
      none its (subst (λ (n : State). IsAmong its n.sessions.active) left (inl refl)) refl (subst (λ (n : State). n.sessions.seats session ≡ in_txn its.txn) left here)
    where
      here : cond (session == session) (in_txn s.sessions.next_txn) (s.sessions.seats session) ≡ in_txn s.sessions.next_txn
      here = ap (λ b. cond b (in_txn s.sessions.next_txn) (s.sessions.seats session)) (eq-eqb session session refl)

  pub begin_unnumbered : (answer : Answer) → new.sessions.next_txn ≢ s.sessions.next_txn + 1 → Answered call.Begin answer → ⊥
  begin_unnumbered answer other h = other (ap (λ (s : State). s.sessions.next_txn) (begun_in g s new session answer h).2.4)

  -- ---- changes

  -- a record that is pushed makes the log longer
  longer : (r : LogRecord) → new.log ≡ s.log ++ r ∷ [] → new.log ≡ s.log → ⊥
  longer r is same =
      let long = length-push s.log r in
      let e = ap length is in
      let f = ap length same in
      omega arith

  -- an image that goes to an id is there, and its Change is logged
  record Changed (id : Rid) (image : Image) : Type 0 where
    txn : ℕ
    there : get new.sessions.records id ≡ image
    logged : new.log ≡ s.log ++ record { txn = txn; previous = previous_of txn s.log; payload = payload.Change id (get s.sessions.records id) image } ∷ []

  updated_to : (a : SessionTxn) (id : Rid) (bytes : List ℕ) (answer : Answer) (lock : Asked) (counts : SlotCounts)
      → new ≡ answered (behind_lock s a (call.Update id bytes) lock) a (call.Update id bytes) answer counts → Changed id (Some bytes)
  updated_to a id bytes answer lock counts is = record {
    txn = a.txn;
    there = ap (λ (s : State). get s.sessions.records id) is ∙ put_here s.sessions.records id (Some bytes);
    logged = ap (λ (s : State). s.log) is;
  }

  deleted_at : (a : SessionTxn) (id : Rid) (answer : Answer) (lock : Asked) (counts : SlotCounts)
      → new ≡ answered (behind_lock s a (call.Delete id) lock) a (call.Delete id) answer counts → Changed id None
  deleted_at a id answer lock counts is = record {
    txn = a.txn;
    there = ap (λ (s : State). get s.sessions.records id) is ∙ put_here s.sessions.records id None;
    logged = ap (λ (s : State). s.log) is;
  }

  updated : (id : Rid) (bytes : List ℕ) (answer : Answer) → Answered (call.Update id bytes) answer → Changed id (Some bytes)
  updated id bytes answer h =
      let t = within (call.Update id bytes) answer tt (λ x. x) h in updated_to t.txn id bytes answer t.from.lock t.from.behind.2.0 t.from.behind.2.2

  deleted : (id : Rid) (answer : Answer) → Answered (call.Delete id) answer → Changed id None
  deleted id answer h = let t = within (call.Delete id) answer tt (λ x. x) h in deleted_at t.txn id answer t.from.lock t.from.behind.2.0 t.from.behind.2.2

  unlogged : (id : Rid) (image : Image) → Changed id image → new.log ≡ s.log → ⊥
  unlogged id image h same =
      longer (record { txn = h.txn; previous = previous_of h.txn s.log; payload = payload.Change id (get s.sessions.records id) image }) h.logged same

  pub update_left_out : (id : Rid) (bytes : List ℕ) (answer : Answer) → get new.sessions.records id ≢ Some bytes → Answered (call.Update id bytes) answer → ⊥
  update_left_out id bytes answer other h = other (updated id bytes answer h).there

  pub update_unlogged : (id : Rid) (bytes : List ℕ) (answer : Answer) → new.log ≡ s.log → Answered (call.Update id bytes) answer → ⊥
  update_unlogged id bytes answer same h = unlogged id (Some bytes) (updated id bytes answer h) same

  pub update_answered_other : (id : Rid) (bytes : List ℕ) (answer : Answer) → answer ≢ Updated → Answered (call.Update id bytes) answer → ⊥
  update_answered_other id bytes answer other h = other (within (call.Update id bytes) answer tt (λ x. x) h).from.behind.1

  pub delete_left_out : (id : Rid) (answer : Answer) → get new.sessions.records id ≢ None → Answered (call.Delete id) answer → ⊥
  delete_left_out id answer other h = other (deleted id answer h).there

  pub delete_unlogged : (id : Rid) (answer : Answer) → new.log ≡ s.log → Answered (call.Delete id) answer → ⊥
  delete_unlogged id answer same h = unlogged id None (deleted id answer h) same

  pub delete_answered_other : (id : Rid) (answer : Answer) → answer ≢ Deleted → Answered (call.Delete id) answer → ⊥
  delete_answered_other id answer other h = other (within (call.Delete id) answer tt (λ x. x) h).from.behind.1

  -- the page of a taken place has its slot
  taken : (a : SessionTxn) (store : ℕ) (bytes : List ℕ) (id : Rid) → Took g s new a store bytes id → new.counts id.page ≡ max (s.counts id.page) (id.slot + 1)
  taken a store bytes id place = ap (λ (s : State). s.counts id.page) place.leaves ∙ place.may.grows.here

  pub insert_without_slot : (store : ℕ) (bytes : List ℕ) (id : Rid) → new.counts id.page ≤ id.slot → Answered (call.Insert store bytes) (Inserted id) → ⊥
  insert_without_slot store bytes id low h =
      let t = within (call.Insert store bytes) (Inserted id) tt (λ x. x) h in
      let here = taken t.txn store bytes id (took g s new t.txn store bytes id t.from) in
      omega arith

  -- ---- locks

  pub lock_answered_other : (at : Granule) (mode : Mode) (answer : Answer) → answer ≢ Locked → Answered (call.Lock at mode) answer → ⊥
  lock_answered_other at mode answer other h = other (within (call.Lock at mode) answer tt (λ x. x) h).from.behind.0

  pub try_answered_other : (at : Granule) (mode : Mode) (answer : Answer) → answer ≢ Locked → Answered (call.TryLock at mode) answer → ⊥
  try_answered_other at mode answer other h = other (within (call.TryLock at mode) answer tt (λ x. x) h).from.behind.0

  -- ---- outside the volume

  pub for_update_outside : (id : Rid) (answer : Answer) → (HasSlot g id → ⊥) → Answered (call.GetForUpdate id) answer → ⊥
  for_update_outside id answer none h = none (within (call.GetForUpdate id) answer tt (λ x. x) h).may

  pub update_outside : (id : Rid) (bytes : List ℕ) (answer : Answer) → (HasSlot g id → ⊥) → Answered (call.Update id bytes) answer → ⊥
  update_outside id bytes answer none h = none (within (call.Update id bytes) answer tt (λ x. x) h).may.1

  pub delete_outside : (id : Rid) (answer : Answer) → (HasSlot g id → ⊥) → Answered (call.Delete id) answer → ⊥
  delete_outside id answer none h = none (within (call.Delete id) answer tt (λ x. x) h).may

  pub scan_outside : (store : ℕ) (answer : Answer) → (HasStore g store → ⊥) → Answered (call.Scan store) answer → ⊥
  scan_outside store answer none h = none (within (call.Scan store) answer tt (λ x. x) h).may

  pub lock_outside : (at : Granule) (mode : Mode) (answer : Answer) → (HasGranule g at → ⊥) → Answered (call.Lock at mode) answer → ⊥
  lock_outside at mode answer none h = none (within (call.Lock at mode) answer tt (λ x. x) h).may.1

  pub try_outside : (at : Granule) (mode : Mode) (answer : Answer) → (HasGranule g at → ⊥) → Answered (call.TryLock at mode) answer → ⊥
  try_outside at mode answer none h = none (within (call.TryLock at mode) answer tt (λ x. x) h).may.1

  pub lock_in_bad_mode : (at : Granule) (mode : Mode) (answer : Answer) → is_allowed (level_of at) mode ≡ false → Answered (call.Lock at mode) answer → ⊥
  lock_in_bad_mode at mode answer bad h = both_ways (is_allowed (level_of at) mode) (within (call.Lock at mode) answer tt (λ x. x) h).may.0 bad

  pub try_in_bad_mode : (at : Granule) (mode : Mode) (answer : Answer) → is_allowed (level_of at) mode ≡ false → Answered (call.TryLock at mode) answer → ⊥
  try_in_bad_mode at mode answer bad h = both_ways (is_allowed (level_of at) mode) (within (call.TryLock at mode) answer tt (λ x. x) h).may.0 bad

-- ---- commits

module _ (g : Geometry) (o : Opening) (found : List LogRecord) (es : List Entry) (s new : State) (k : IsSessionsState o found es s) (session : ℕ) (answer : Answer)
    (h : CallStep g s session call.Commit (Done answer) new) where
  -- whose commit is answered is under way no more
  pub under_way_no_more : (a : SessionTxn) → IsOfSession s session a → IsAmong a.txn (txns_of new.sessions.active) → ⊥
  under_way_no_more a of among =
      let t = committed_in g s new session answer h in
      let same : t.0.txn ≡ a.txn = one_txn s.sessions t.0 a t.1.0.1 of.0.1 (t.1.1 ∙ sym of.1) in
      (txn_without t.0.txn a.txn s.sessions.active (subst (λ (x : State). IsAmong a.txn (txns_of x.sessions.active)) t.3.1 among)).1 (sym same)

  -- .. and its session is in no transaction
  pub answered_in_none : HasNoTxn new session
  answered_in_none =
      let t = committed_in g s new session answer h in
      ap (λ (n : State). n.sessions.seats session) t.3.1
      ∙ ap (λ b. cond b free (s.sessions.seats session)) (eq-eqb t.0.session session t.1.1)

-- a commit that is refused changes nothing
module _ (g : Geometry) (s new : State) (session : ℕ) (f : Fault) where
  inner_refused : (a : SessionTxn) → InnerStep g s a call.Commit (Refused f) new → new ≡ s
  inner_refused a (inl x) = x.3
  inner_refused a (inr (inl (whole, inl x))) = absurd x.1
  inner_refused a (inr (inl (whole, inr (inl x)))) = absurd x.0
  inner_refused a (inr (inl (whole, inr (inr (inl x))))) = absurd x.1
  inner_refused a (inr (inl (whole, inr (inr (inr (inl x)))))) = let clash = x.0 in absurd cc
  inner_refused a (inr (inl (whole, inr (inr (inr (inr x)))))) = let clash = x.1 in absurd cc
  inner_refused a (inr (inr (inl x))) = let clash = x.1 in absurd cc
  inner_refused a (inr (inr (inr x))) = let clash = x.0 in absurd cc

  commit_refused : CallStep g s session call.Commit (Refused f) new → new ≡ s
  commit_refused (inl h) = h.1
  commit_refused (inr (inl h)) = h.2
  commit_refused (inr (inr (inl h))) = h.3
  commit_refused (inr (inr (inr (inl h)))) = let clash = h.2 in absurd cc
  commit_refused (inr (inr (inr (inr (inl h))))) = h.5
  commit_refused (inr (inr (inr (inr (inr (inl h)))))) = inner_refused h.2.0 h.2.2
  commit_refused (inr (inr (inr (inr (inr (inr (inl h))))))) = h.5
  commit_refused (inr (inr (inr (inr (inr (inr (inr h))))))) = absurd (not_outside s session call.Commit (Refused f) new tt h.2)

  pub refused_commit_keeps : CallStep g s session call.Commit (Refused f) new → (new.locks ≡ s.locks) × (new.sessions.held ≡ s.sessions.held)
  refused_commit_keeps h = let same = commit_refused h in (ap (λ (x : State). x.locks) same, ap (λ (x : State). x.sessions.held) same)
