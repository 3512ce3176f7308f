-- What a restart finds is in order where the list is lawful, each page is as of its own number, and the anchor is right.
use Rattle.std.proofs.Common.{◌≡◌, ⊎_elim, ◌≤◌, ℕ, List, Some, refl, sym, ap, subst, ◌∙◌, length, take, arith}
use Rattle.std.proofs.Math.Seq.{take-length}
use Rattle.shore_types.specs.declared.ids.PageId.{PageId}
use Rattle.shore_model.specs.declared.log_records.LogRecord.{LogRecord}
use Rattle.shore_model.specs.Logs.{Lawful}
use Rattle.laws_lives.proofs.DirtyPages.{redo_may_begin}
use Rattle.laws_lives.proofs.Invariant.{from_the_first}
use Rattle.laws_lives.specs.DirtyPages.{HasAllUpTo}
use Rattle.laws_lives.specs.Pages.{AreAsOfOwnNumbers, LoggedPages, PagesLackNone}
use Rattle.laws_checkpoints.proofs.Cuts.{point_below_redo}
use Rattle.laws_checkpoints.proofs.Ends.{none_of_zero}
use Rattle.laws_checkpoints.proofs.PageTables.{all_less, begins_before_sure, covers_right, sure_below}
use Rattle.laws_checkpoints.proofs.StoreEvents.{anchored_durable}
use Rattle.laws_checkpoints.specs.Checkpoints.{Anchored, Checkpoint, IsAnchoredAt, IsAnchoredRight, cut_of, end_among, not_anchored, redo_behind}
use Rattle.laws_checkpoints.specs.RecoveryNumbers.{EndsListChanges}
use Rattle.laws_checkpoints.specs.StoresInOrder.{IsInOrder}
use Rattle.laws_runs.specs.CheckpointedStates.{found_behind}

module _ (rs : List LogRecord) (lawful : Lawful rs) (pages : LoggedPages) (as_of : AreAsOfOwnNumbers rs pages) (a : Anchored) where
  abbrev begin_at : ℕ
  begin_at = redo_behind (end_among a.checkpoint rs)

  -- what is asked of where redo begins
  record BeginsRight : Type 0 where
    within : begin_at ≤ length rs
    lacks : PagesLackNone rs begin_at pages
    has : (p : PageId) → HasAllUpTo rs p (pages p) begin_at
    behind : cut_of a ≤ begin_at

  of_none : a ≡ not_anchored → BeginsRight
  of_none none =
      let first : begin_at ≡ 0 = ap (λ x. redo_behind (end_among x.checkpoint rs)) none ∙ ap redo_behind (none_of_zero rs lawful) in
      let cut : cut_of a ≡ 0 = ap cut_of none in
      record {
        within = omega arith;
        lacks = subst (λ b. PagesLackNone rs b pages) (sym first) (from_the_first rs pages as_of);
        has = λ p. subst (HasAllUpTo rs p (pages p)) (sym first) (λ i r e lt. absurd (omega arith));
        behind = omega arith;
      }

  of_checkpoint : (c : Checkpoint) → IsAnchoredAt rs (length rs) pages pages a c → BeginsRight
  of_checkpoint c h =
      let found : begin_at ≡ redo_behind (Some c) = ap redo_behind (ap (end_among a.checkpoint) (sym (take-length rs)) ∙ h.found) in
      let begun = anchored_durable rs lawful (length rs) pages pages a c h in
      let whole : length (take (length rs) rs) ≡ length rs = ap length (take-length rs) in
      let some : PageId = record { store = 0; page = 0 } in
      let before = begins_before_sure c.begin c.dirty some in
      let sure = sure_below c.begin c.dirty some in
      let point = point_below_redo c in
      let tail = h.tail in
      record {
        within = omega arith;
        lacks = subst (λ b. PagesLackNone rs b pages) (sym found)
            (redo_may_begin rs c.begin c.dirty pages (covers_right rs c.begin c.dirty pages h.on_volume (omega arith) as_of));
        has = λ p. subst (HasAllUpTo rs p (pages p)) (sym found)
            (all_less rs p (pages p) _ (h.on_volume p) (redo_behind (Some c)) (begins_before_sure c.begin c.dirty p));
        behind = omega arith;
      }

  module _ (ends : EndsListChanges rs) (anchor : IsAnchoredRight rs (length rs) pages pages a) where
    begins : BeginsRight
    begins = ⊎_elim of_none (λ at. of_checkpoint at.0 at.1) anchor

    pub found_in_order : IsInOrder (found_behind a rs pages)
    found_in_order = record {
      recoverable = record { durable = omega arith; redone = begins.within; volume = as_of; ahead = λ p. (as_of p).within; in_place = begins.lacks };
      lawful = lawful;
      has_redone = begins.has;
      recoveries = record { clean = λ p none. refl; dirty = λ p some. absurd (omega arith); changed = λ p some. absurd (omega arith); kept = λ p some. absurd (omega arith) };
      ends = ends;
      anchor = anchor;
      stage_right = tt;
      redone = begins.behind;
    }
