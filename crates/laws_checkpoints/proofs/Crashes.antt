-- A crash at any moment leaves a store in order, and what the next open asks.
use Rattle.std.proofs.Common.{◌≡◌, inl, inr, ⊎_elim, ◌<◌, ◌≤◌, ◌+◌, ◌-◌, ℕ, List, None, Option, Some, IfSome, refl, sym, ap, subst, ◌∙◌, length, take, drop, take_all, take-append-drop, arith}
use Rattle.std.specs.Prelude.{IsSome, IsSomeAnd, slice_get}
use Rattle.std.specs.List.{AllByRecursion}
use Rattle.std.proofs.lemmas.List.Elements.{recursion_from_All}
use Rattle.shore_types.specs.declared.ids.PageId.{PageId}
use Rattle.shore_model.specs.declared.log_records.LogRecord.{LogRecord}
use Rattle.shore_model.specs.declared.log_records.Payload.TheVariants.{CheckpointBegin}
use Rattle.shore_model.specs.Logs.{Lawful, before_begin}
use Rattle.laws_lives.specs.DirtyPages.{HasAllUpTo, TableCovers}
use Rattle.laws_lives.specs.Pages.{AreAsOfOwnNumbers, LoggedPages, PagesLackNone}
use Rattle.laws_lives.specs.Recovery.{CrashMayLeave, LosePower, after_crash}
use Rattle.laws_lives.proofs.DirtyPages.{redo_may_begin}
use Rattle.laws_lives.proofs.Invariant.{crash_stands, event_kept, from_the_first}
use Rattle.laws_lives.proofs.Lists.{length-take_within, recursion-weaker, slice_get-take, take-take}
use Rattle.laws_lives.proofs.UndoRecords.{lawful_front}
use Rattle.laws_checkpoints.specs.Checkpoints.{Checkpoint, IsAnchoredAt, IsAnchoredRight, TableIsRight, cut_of, end_among, or_next_end, redo_behind}
use Rattle.laws_checkpoints.specs.CheckpointedStores.{CheckpointedStore, NoCheckpoint}
use Rattle.laws_checkpoints.specs.StoresInOrder.{IsCheckpointKept, IsInOrder, IsLeftByCrash}
use Rattle.laws_checkpoints.proofs.Begins.{ends_front}
use Rattle.laws_checkpoints.proofs.CheckpointSteps.{cut_now}
use Rattle.laws_checkpoints.proofs.Cuts.{point_at_begin, point_below_redo}
use Rattle.laws_checkpoints.proofs.Ends.{IsEndIn, end_among-append, end_more, end_stands, none_of_zero, none_yet}
use Rattle.laws_checkpoints.proofs.Lists.{each_in_parts, each_take_less, get-drop, length_take_le}
use Rattle.laws_checkpoints.proofs.PageTables.{all_less, begins_before_sure, covers_right, right_either, right_front}
use Rattle.laws_checkpoints.proofs.StoreEvents.{anchored_durable}

-- the End is found among the kept records
end_kept : (log : List LogRecord) → Lawful log → (b cut : ℕ) → cut < b → end_among b (drop cut log) ≡ end_among b log
end_kept log lawful b cut lt =
    let short = length_take_le cut log in
    sym (ap (end_among b) (sym (take-append-drop cut log)) ∙ end_among-append b (take cut log) (drop cut log)
    ∙ ap (λ o. or_next_end o (end_among b (drop cut log))) (none_yet (take cut log) (lawful_front log cut lawful) b (omega arith)))

module _ (s : CheckpointedStore) (k : IsInOrder s) (n : ℕ) (left : LoggedPages) (more : s.store.durable ≤ n) (most : n ≤ length s.store.log) (may : CrashMayLeave s.store left) where
  abbrev pub log : List LogRecord
  log = take n s.store.log

  abbrev pub begin_at : ℕ
  begin_at = redo_behind (end_among s.anchored.checkpoint log)

  front_lawful : Lawful log
  front_lawful = lawful_front s.store.log n k.lawful

  stand : AreAsOfOwnNumbers log left
  stand = crash_stands s.store k.recoverable n left more most may

  -- what the anchor says is right of what is left
  module _ (c : Checkpoint) (h : IsAnchoredAt s.store.log s.store.durable s.store.volume s.store.in_place s.anchored c) where
    found_left : end_among s.anchored.checkpoint log ≡ Some c
    found_left = end_more s.anchored.checkpoint s.store.log s.store.durable n c more h.found

    begun_left : c.begin - 1 ≤ length log
    begun_left =
        let begun = anchored_durable s.store.log k.lawful s.store.durable s.store.volume s.store.in_place s.anchored c h in
        let short = length_take_le s.store.durable s.store.log in
        let long = length-take_within n s.store.log most in
        omega arith

    right_left : TableIsRight log c.begin c.dirty left
    right_left = right_front s.store.log c.begin c.dirty left
        (right_either s.store.log c.begin c.dirty s.store.volume s.store.in_place left h.on_volume h.now (λ p. ⊎_elim (λ e. inl e) (λ e. inr e.0) (may p))) n

    covers_left : TableCovers log c.begin c.dirty left
    covers_left = covers_right log c.begin c.dirty left right_left begun_left stand

    begin_is : begin_at ≡ redo_behind (Some c)
    begin_is = ap redo_behind found_left

    anchored_left : IsAnchoredAt log n left left s.anchored c
    anchored_left = record {
      some = h.some;
      is_its = h.is_its;
      found = ap (end_among s.anchored.checkpoint) (take_all n log (let e = length-take_within n s.store.log most in omega arith)) ∙ found_left;
      on_volume = right_left;
      now = right_left;
      first = h.first;
      tail = h.tail;
    }

    behind_left : cut_of s.anchored ≤ begin_at
    behind_left = let is = begin_is in let point = point_below_redo c in let tail = h.tail in omega arith

  anchor_left : IsAnchoredRight log n left left s.anchored
  anchor_left = ⊎_elim (λ none. inl none) (λ at. inr (at.0, anchored_left at.0 at.1)) k.anchor

  none_begins : s.anchored ≡ record { checkpoint = 0; tail = 1 } → begin_at ≡ 0
  none_begins none = ap (λ a. redo_behind (end_among a.checkpoint log)) none ∙ ap redo_behind (none_of_zero log front_lawful)

  behind : cut_of s.anchored ≤ begin_at
  behind = ⊎_elim
      (λ none. let cut : cut_of s.anchored ≡ 0 = ap cut_of none in omega arith)
      (λ at. behind_left at.0 at.1)
      k.anchor

  pub lacks_none : PagesLackNone log begin_at left
  lacks_none = ⊎_elim
      (λ none. subst (λ b. PagesLackNone log b left) (sym (none_begins none)) (from_the_first log left stand))
      (λ at. subst (λ b. PagesLackNone log b left) (sym (begin_is at.0 at.1)) (redo_may_begin log at.0.begin at.0.dirty left (covers_left at.0 at.1)))
      k.anchor

  has_before : (p : PageId) → HasAllUpTo log p (left p) begin_at
  has_before p = ⊎_elim
      (λ none. subst (HasAllUpTo log p (left p)) (sym (none_begins none)) (λ i r e lt. absurd (omega arith)))
      (λ at. subst (HasAllUpTo log p (left p)) (sym (begin_is at.0 at.1))
      (all_less log p (left p) _ (right_left at.0 at.1 p) (redo_behind (Some at.0)) (begins_before_sure at.0.begin at.0.dirty p)))
      k.anchor

  abbrev pub crashed : CheckpointedStore
  crashed = record { store = after_crash s.store n left begin_at; recovery = λ p. 0; stage = NoCheckpoint; anchored = s.anchored }

  pub order_crashed : IsInOrder crashed
  order_crashed = record {
    recoverable = event_kept s.store (LosePower n left begin_at) (after_crash s.store n left begin_at) k.recoverable ((more, most, may, lacks_none), refl);
    lawful = front_lawful;
    has_redone = has_before;
    recoveries = record { clean = λ p none. refl; dirty = λ p some. absurd (omega arith); changed = λ p some. absurd (omega arith); kept = λ p some. absurd (omega arith) };
    ends = ends_front s.store.log n k.ends;
    anchor = anchor_left;
    stage_right = tt;
    redone = behind;
  }

  -- ---- for the next open

  kept_left : (c : Checkpoint) → IsAnchoredAt s.store.log s.store.durable s.store.volume s.store.in_place s.anchored c → IsCheckpointKept s.anchored (drop (cut_of s.anchored) log)
  kept_left c h =
      let found = found_left c h in
      let stands : IsEndIn log s.anchored.checkpoint c = end_stands log front_lawful s.anchored.checkpoint c found in
      let its = h.is_its in
      let point = point_at_begin c in
      let tail = h.tail in
      let first = h.first in
      let some = h.some in
      let inside : s.anchored.tail ≤ s.anchored.checkpoint = omega arith in
      let at : cut_of s.anchored + (s.anchored.checkpoint - s.anchored.tail) ≡ c.begin - 1 = omega arith in
      record {
        inside = inside;
        begins = subst (λ o. IsSomeAnd o (λ r. r.payload ≡ CheckpointBegin))
            (sym (get-drop log (cut_of s.anchored) (s.anchored.checkpoint - s.anchored.tail) ∙ ap (slice_get log) at ∙ sym (slice_get-take (c.begin - 1) stands.at log stands.behind)))
            stands.tables.begins.1;
        ends = subst (λ o. IsSome o) (sym (end_kept log front_lawful s.anchored.checkpoint (cut_of s.anchored) (omega arith) ∙ found)) refl;
      }

  found_in_kept : end_among s.anchored.checkpoint (drop (cut_of s.anchored) log) ≡ end_among s.anchored.checkpoint log
  found_in_kept = ⊎_elim
      (λ none. ap (λ a. end_among a.checkpoint (drop (cut_of a) log)) none ∙ sym (ap (λ a. end_among a.checkpoint log) none))
      (λ at.
      let h = at.1 in
      let tail = h.tail in
      let point = point_at_begin at.0 in
      let its = h.is_its in
      let some = h.some in
      end_kept log front_lawful s.anchored.checkpoint (cut_of s.anchored) (omega arith))
      k.anchor

  right_of_found : (o : Option Checkpoint) → end_among s.anchored.checkpoint log ≡ o → IfSome o (λ c. TableIsRight log c.begin c.dirty left × TableCovers log c.begin c.dirty left)
  right_of_found None found = tt
  right_of_found (Some c) found = ⊎_elim
      (λ none. let no_one : None ≡ Some c = sym (none_of_zero log front_lawful) ∙ ap (λ a. end_among a.checkpoint log) (sym none) ∙ found in cc)
      (λ at.
      let same : at.0 ≡ c = unwrap (sym (found_left at.0 at.1) ∙ found) in
      subst (λ c. TableIsRight log c.begin c.dirty left × TableCovers log c.begin c.dirty left) same (right_left at.0 at.1, covers_left at.0 at.1))
      k.anchor
    where
      unwrap : {A : Type 0} {x y : A} → Some x ≡ Some y → x ≡ y
      unwrap e = cc

  next_above : (m : ℕ) → AllByRecursion (λ r. r.txn < m) (drop (cut_of s.anchored) log) → IfSome (end_among s.anchored.checkpoint log) (λ c. c.next ≤ m) → AllByRecursion (λ r. r.txn < m) log
  next_above m kept high = ⊎_elim
      (λ none. subst (λ a. AllByRecursion (λ r. r.txn < m) (drop (cut_of a) log)) none kept)
      (λ at.
      let c = at.0 in
      let h = at.1 in
      let found = found_left c h in
      let stands = end_stands log front_lawful s.anchored.checkpoint c found in
      let le : c.next ≤ m = subst (λ o. IfSome o (λ c. c.next ≤ m)) found high in
      let above = recursion_from_All (λ r. r.txn < c.next) (before_begin (take stands.at log) c.begin) stands.tables.above in
      let b = stands.behind in
      let tail = h.tail in
      let point = point_at_begin c in
      let front : before_begin (take stands.at log) c.begin ≡ take (c.begin - 1) log = take-take (c.begin - 1) stands.at log (omega arith) in
      let first = h.first in
      each_in_parts (λ r. r.txn < m) log (cut_of s.anchored)
      (each_take_less (λ r. r.txn < m) log (cut_of s.anchored) (c.begin - 1) (omega arith)
      (recursion-weaker (λ r. r.txn < c.next) (λ r. r.txn < m) (λ r lt. omega arith) (take (c.begin - 1) log) (subst (AllByRecursion (λ r. r.txn < c.next)) front above)))
      kept)
      k.anchor

  pub left_in_order : IsLeftByCrash s.anchored log left
  left_in_order = record {
    may = cut_now crashed order_crashed;
    kept = ⊎_elim (λ none. inl none) (λ at. inr (kept_left at.0 at.1)) k.anchor;
    found = found_in_kept;
    right = right_of_found (end_among s.anchored.checkpoint log) refl;
    behind = behind;
    redo = lacks_none;
    next = next_above;
    ends = order_crashed.ends;
  }
