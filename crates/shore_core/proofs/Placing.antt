-- What a search of a store comes to: where a new record goes, what a scan finds, and which faults of the pages refuse the call.
use Rattle.laws_checkpoints.specs.CheckpointedStores.{CheckpointedStore}
use Rattle.std.proofs.Common.{◌≡◌, ◌⊎◌, ◌+◌, ◌<◌, ◌≤◌, inl, inr, ℕ, List, Option, Result, Ok, Err, IfSome, IsErrAnd, Some, length, refl, sym, ap, subst, ◌∙◌, arith}
use Rattle.std.specs.FinMap.{get}
use Rattle.shore_types.specs.declared.faults.Fault.{Fault}
use Rattle.shore_types.specs.declared.faults.Fault.TheVariants as fault
use Rattle.shore_types.specs.declared.ids.PageId.{PageId}
use Rattle.shore_types.specs.declared.ids.Rid.{Rid}
use Rattle.shore_types.specs.Layout.{HasPage}
use Rattle.shore_types.specs.declared.layout.Geometry.{Geometry}
use Rattle.shore_types.specs.declared.locking.Granule.TheVariants.{Record}
use Rattle.shore_types.specs.declared.locking.Mode.TheVariants.{EX}
use Rattle.shore_locks.specs.Tables.{Table}
use Rattle.shore_path.specs.declared.answers.Acquired.{Acquired}
use Rattle.shore_path.specs.declared.answers.Acquired.TheVariants as acquire
use Rattle.shore_path.specs.declared.answers.OnConflict.TheVariants.{Refuse}
use Rattle.shore_path.specs.Walks.{acquired}
use Rattle.laws_locks.proofs.Places.{acquired_ends}
use Rattle.shore_disk.specs.declared.device.Disk as disk
use Rattle.shore_log.specs.declared.tail.Tail as tail
use Rattle.shore_model.specs.declared.log_records.LogRecord.{LogRecord}
use Rattle.shore_model.specs.Records.{AreRecords, part_of, scan_of}
use Rattle.shore_page.specs.Slots.{image_at_slot}
use Rattle.shore_heap.specs.Places.{HasNoPlace, IsPlace, Takes}
use Rattle.shore_heap.specs.Scans.{IsPart, IsScan, Tells, part_end}
use Rattle.shore_heap.proofs.Scanned.{end_inside, model_part, parts_as_the_model, scans_as_the_model}
use Rattle.laws_room.proofs.Pages.{length-slots}
use Rattle.laws_room.specs.Claims.{Claimed}
use Rattle.shore_model.specs.declared.calls.Call.TheVariants as call
use Rattle.laws_lives.specs.Sessions.{SessionTxn}
use Rattle.laws_calls.specs.StateChanges.{CanLog, IsPageFault, after_refusal}
use Rattle.laws_calls.specs.CallSteps.{HasPlace, IsPlaceOf, ServesTxn, behind_place, place_outcome}
use Rattle.shore_model.specs.declared.step.Step.{Step}
use Rattle.laws_calls.specs.States.{State, page_slots}
use Rattle.shore_core.specs.declared.core_calls.Core.{Core}
use Rattle.shore_core.specs.Cores.{CoreComesTo, geometry_of}
use Rattle.shore_core.specs.Replies.{IsServedBehind, Served, can_lock}
use Rattle.shore_core.proofs.Tables.{no_such}
use Rattle.shore_core.proofs.Taking.{image_shown}

-- ---- what the pages of a state show

module _ (g : Geometry) (s : State) (claimed : Claimed g.version s.sessions.records s.sessions.active s.counts) (store : ℕ) where
  shown : (id : Rid) → image_at_slot (page_slots s id.page) id.slot ≡ get s.sessions.records id
  shown id = image_shown g.version s.sessions.records s.sessions.active s.counts claimed id

  slots : (id : Rid) → length (page_slots s id.page) ≡ s.counts id.page
  slots id = length-slots s.sessions.records s.sessions.active id.page (s.counts id.page)

  module _ (t : ℕ) (bytes : List ℕ) where
    takes_of : (id : Rid) → ServesTxn g s t store bytes id → Takes g (page_slots s) store (length bytes) (can_lock s.locks.requests t) id
    takes_of id serves = record {
      there = serves.inside;
      of_store = serves.of_store;
      candidate = record { there = subst (λ n. id.slot ≤ n) (sym (slots id)) serves.reached; empty = shown id ∙ serves.empty; fits = serves.fits };
      allowed = serves.free;
    }

    serves_of : (id : Rid) → Takes g (page_slots s) store (length bytes) (can_lock s.locks.requests t) id → ServesTxn g s t store bytes id
    serves_of id takes = record {
      of_store = takes.of_store;
      inside = takes.there;
      empty = sym (shown id) ∙ takes.candidate.empty;
      reached = subst (λ n. id.slot ≤ n) (slots id) takes.candidate.there;
      fits = takes.candidate.fits;
      free = takes.allowed;
    }

    -- the first slot that takes the bytes, and can be locked now, is where an insert goes
    pub is_place_of : (id : Rid) → IsPlace g (page_slots s) store (length bytes) (can_lock s.locks.requests t) id → IsPlaceOf g s t store bytes id
    is_place_of id is = record {
      serves = serves_of id is.takes;
      lowest = λ other before serves.
          let first = is.first other (takes_of other serves) in
          elim before [ inl page ↦ omega (arith, first.0, page) | inr slot ↦ omega (arith, first.1 slot.0, slot.1) ];
    }

    pub none_serves : HasNoPlace g (page_slots s) store (length bytes) (can_lock s.locks.requests t) → (id : Rid) → ServesTxn g s t store bytes id → ⊥
    none_serves none id serves = none id (takes_of id serves)

  tells : AreRecords g s.sessions.records → Tells g (page_slots s) s.sessions.records
  tells inside = record {
    inside = λ id there. sym (shown id);
    outside = λ id nowhere. no_such (get s.sessions.records id) (λ bytes found. nowhere (inside id bytes found).0.0);
  }

  -- what a scan of the pages finds is the scan of the records
  pub scan_is : AreRecords g s.sessions.records → (list : List (Rid × List ℕ)) → IsScan (page_slots s) g store list → list ≡ scan_of store s.sessions.records
  scan_is inside list is = scans_as_the_model g (page_slots s) store list s.sessions.records is (tells inside)

  -- .. and so for a part of it, up to the page that comes next
  module _ (inside : AreRecords g s.sessions.records) (from : ℕ) (next : Option PageId) (there : IfSome next (λ id. (id.store ≡ store) × HasPage g id)) where
    pub part_is : (list : List (Rid × List ℕ)) → IsPart (page_slots s) store from (part_end g store next) list → list ≡ part_of store from (part_end g store next) s.sessions.records
    part_is list is = parts_as_the_model g (page_slots s) store from (part_end g store next) list s.sessions.records (end_inside g store next there) is (tells inside)

    -- the model's part is one that the pages have
    pub part_shows : (to : ℕ) → to ≤ part_end g store next → IsPart (page_slots s) store from to (part_of store from to s.sessions.records)
    part_shows to before = model_part g (page_slots s) store from to s.sessions.records (omega (arith, before, end_inside g store next there)) (tells inside)

-- what refuses an insert that finds no place
pub place_fault : (g : Geometry) (s : State) → Claimed g.version s.sessions.records s.sessions.active s.counts → (a : SessionTxn) (store : ℕ) (bytes : List ℕ) (f : Fault) {len : ℕ} → len ≡ length bytes
    → ((f ≡ fault.StoreFull) × HasNoPlace g (page_slots s) store len (can_lock s.locks.requests a.txn)) ⊎ (f ≡ fault.Memory) ⊎ IsPageFault s f
    → IsServedBehind g s a (call.Insert store bytes) (Err f) (after_refusal f s)
place_fault g s claimed a store bytes f same (inl full) =
    subst (λ x. IsServedBehind g s a (call.Insert store bytes) (Err x) (after_refusal x s)) (sym full.0)
    (inr (inl (refl, none_serves g s claimed store a.txn bytes (subst (λ n. HasNoPlace g (page_slots s) store n (can_lock s.locks.requests a.txn)) same full.1), refl)))
place_fault g s claimed a store bytes f same (inr (inl memory)) = subst (λ x. IsServedBehind g s a (call.Insert store bytes) (Err x) (after_refusal x s)) (sym memory) (inl (refl, inl refl))
place_fault g s claimed a store bytes f same (inr (inr page)) = inr (inr (inr (inr (page, refl))))

-- ---- in a state of which a core has the locks

module _ (g : Geometry) (s : State) (claimed : Claimed g.version s.sessions.records s.sessions.active s.counts) (a : SessionTxn) (store : ℕ) (bytes : List ℕ) {len : ℕ} (same : len ≡ length bytes)
    (locks : Table) (t : ℕ) (locks_are : s.locks ≡ locks) (number : a.txn ≡ t) where
  here : (P : (Rid → Type 0) → Type 0) → P (can_lock locks.requests t) → P (can_lock s.locks.requests a.txn)
  here P holds = subst (λ (l : Table). P (can_lock l.requests a.txn)) (sym locks_are) (subst (λ (n : ℕ). P (can_lock locks.requests n)) (sym number) holds)

  pub found_place : (id : Rid) → IsPlace g (page_slots s) store len (can_lock locks.requests t) id → IsPlaceOf g s a.txn store bytes id
  found_place id is =
      is_place_of g s claimed store a.txn bytes id (subst (λ n. IsPlace g (page_slots s) store n (can_lock s.locks.requests a.txn) id) same (here (λ allowed. IsPlace g (page_slots s) store len allowed id) is))

  pub no_place_fault : (f : Fault) → ((f ≡ fault.StoreFull) × HasNoPlace g (page_slots s) store len (can_lock locks.requests t)) ⊎ (f ≡ fault.Memory) ⊎ IsPageFault s f
      → IsServedBehind g s a (call.Insert store bytes) (Err f) (after_refusal f s)
  no_place_fault f why =
      place_fault g s claimed a store bytes f same
      (here (λ allowed. ((f ≡ fault.StoreFull) × HasNoPlace g (page_slots s) store len allowed) ⊎ (f ≡ fault.Memory) ⊎ IsPageFault s f) why)

-- ---- its lock

module _ (table : Table) (t : ℕ) (id : Rid) (could : can_lock table.requests t id) where
  abbrev tried : Result Acquired Fault
  tried = (acquired Refuse table t (Record id) EX).answer

  ends : (tried ≡ Ok acquire.Done) ⊎ (tried ≡ Err fault.LockTableFull)
  ends = acquired_ends table.requests table.limit (length table.requests + 4) t (Record id) EX could

  -- a try of a place that could be locked is refused only if the table is full
  pub try_refused : (f : Fault) → Err f ≡ tried → f ≡ fault.LockTableFull
  try_refused f is = elim ends [
    | inl done ↦ let clash : Err f ≡ Ok acquire.Done = is ∙ done in absurd cc
    | inr full ↦ let same : ◌≡◌ {A = Result Acquired Fault} (Err f) (Err fault.LockTableFull) = is ∙ full in cc
  ]

  -- .. and is done else
  pub try_done : (answer : Acquired) → Ok answer ≡ tried → tried ≡ Ok acquire.Done
  try_done answer is = elim ends [
    | inl done ↦ done
    | inr full ↦ let clash : Ok answer ≡ Err fault.LockTableFull = is ∙ full in absurd cc
  ]

-- ---- behind its lock

-- the try of a core that has the locks of the state
pub tried_here : (s : State) (a : SessionTxn) (id : Rid) (locks : Table) (t : ℕ) → s.locks ≡ locks → a.txn ≡ t → (place_outcome s a id).answer ≡ (acquired Refuse locks t (Record id) EX).answer
tried_here s a id locks t locks_are number =
    ap (λ (l : Table). (acquired Refuse l a.txn (Record id) EX).answer) locks_are ∙ ap (λ (n : ℕ). (acquired Refuse locks n (Record id) EX).answer) number

-- the change was not logged
pub insert_unlogged : (g : Geometry) (s : State) (a : SessionTxn) (store : ℕ) (bytes : List ℕ) (id : Rid) → HasPlace g s a store bytes id → (f : Fault)
    → (f ≡ fault.Memory) ⊎ ((f ≡ fault.LogFull) × ¬ CanLog (behind_place s a id) id (Some bytes)) → IsServedBehind g s a (call.Insert store bytes) (Err f) (after_refusal f (behind_place s a id))
insert_unlogged g s a store bytes id place f (inl memory) =
    subst (λ (x : Fault). IsServedBehind g s a (call.Insert store bytes) (Err x) (after_refusal x (behind_place s a id))) (sym memory) (inl (refl, inr (store, bytes, id, refl, place, refl)))
insert_unlogged g s a store bytes id place f (inr full) =
    subst (λ (x : Fault). IsServedBehind g s a (call.Insert store bytes) (Err x) (after_refusal x (behind_place s a id))) (sym full.0) (inr (inr (inr (inl (refl, (id, place, full.1, refl))))))

-- it is refused behind it
pub served_behind_place : {T V : Type 0} {G : tail.Ghosts T} {H : disk.Ghosts V} (old new : Core T V G H) (front : List ℕ) (before : List LogRecord) (s : State) (plain : CheckpointedStore) (a : SessionTxn)
    (store : ℕ) (bytes : List ℕ) (id : Rid) (r : Result Step Fault) (f : Fault) → IsErrAnd r (λ e. e ≡ f)
    → IsServedBehind (geometry_of old) s a (call.Insert store bytes) (Err f) (after_refusal f (behind_place s a id)) → CoreComesTo new front before plain (behind_place s a id)
    → Served a (call.Insert store bytes) r old new front before s plain
served_behind_place old new front before s plain a store bytes id (Err e) f same serves comes = record {
  later = behind_place s a id;
  serves = subst (λ (x : Fault). IsServedBehind (geometry_of old) s a (call.Insert store bytes) (Err x) (after_refusal x (behind_place s a id))) (sym same) serves;
  comes = inr comes;
}
served_behind_place old new front before s plain a store bytes id (Ok step) f same serves comes = absurd same
