-- Where a log may be cut by a checkpoint's tables: behind the cut no page lacks a record, and nobody of before it is still to end.
use Rattle.std.proofs.Common.{◌≡◌, ⊎_elim, ◌<◌, ◌≤◌, ◌+◌, ◌-◌, ℕ, zero, suc, List, [], ◌∷◌, true, false, Some, sym, ap, subst, ◌∙◌, length, take, drop, arith}
use Rattle.std.specs.Prelude.{filter, reverse, slice_get, slice_index_or}
use Rattle.std.specs.List.{enumerate_from}
use Rattle.std.proofs.lemmas.Bool.{cases_Bool}
use Rattle.std.proofs.lemmas.Option.{get_or_from_slice_get, slice_get_within}
use Rattle.shore_model.specs.declared.log_records.DirtyPage.{DirtyPage}
use Rattle.shore_model.specs.declared.log_records.LogRecord.{LogRecord}
use Rattle.shore_model.specs.declared.log_records.LogTxn.{LogTxn}
use Rattle.shore_model.specs.Logs.{IsEntry, IsTable, Lawful, Lists, before_begin, first_number, first_of, is_over, last_of}
use Rattle.laws_lives.specs.DirtyPages.{TableCovers, redo_begins_behind}
use Rattle.laws_lives.specs.Pages.{LoggedPages}
use Rattle.laws_lives.proofs.DirtyPages.{redo_may_begin}
use Rattle.laws_lives.proofs.Lists.{slice_get-take}
use Rattle.laws_lives.proofs.Redo.{lacks_less}
use Rattle.laws_checkpoints.specs.Checkpoints.{Checkpoint, cut_point, end_among, least_first, least_recovery}
use Rattle.laws_checkpoints.specs.KeptLogs.{MayBeCut, has_record}
use Rattle.laws_checkpoints.proofs.Ends.{end_stands}
use Rattle.laws_checkpoints.proofs.Kept.{its, one_of, over_in_front, records_kept}
use Rattle.laws_checkpoints.proofs.Lists.{length_take_le}
use Rattle.laws_checkpoints.proofs.Numbers.{first_at_most, first_low}

-- ---- the cut point

pub recovery_below : (n : ℕ) (ds : List DirtyPage) → least_recovery n ds - 1 ≤ redo_begins_behind n ds
recovery_below n [] = omega arith
recovery_below n (d ∷ ds) = let rest = recovery_below n ds in omega arith

pub least_recovery_most : (n : ℕ) (ds : List DirtyPage) → least_recovery n ds ≤ n
least_recovery_most n [] = omega arith
least_recovery_most n (d ∷ ds) = let rest = least_recovery_most n ds in omega arith

pub least_first_most : (n : ℕ) (es : List LogTxn) → least_first n es ≤ n
least_first_most n [] = omega arith
least_first_most n (e ∷ es) = let rest = least_first_most n es in omega arith

pub point_at_begin : (c : Checkpoint) → cut_point c ≤ c.begin
point_at_begin c =
    let a = least_recovery_most c.begin c.dirty in
    let b = least_first_most (least_recovery c.begin c.dirty) c.txns in
    omega arith

pub point_below_redo : (c : Checkpoint) → cut_point c - 1 ≤ redo_begins_behind c.begin c.dirty
point_below_redo c =
    let a = recovery_below c.begin c.dirty in
    let b = least_first_most (least_recovery c.begin c.dirty) c.txns in
    omega arith

least_at : (n : ℕ) (es : List LogTxn) (k : ℕ) (e : LogTxn) → k < length es → slice_index_or es k e ≡ e → least_first n es ≤ e.first
least_at n [] k e lt is = absurd (omega arith)
least_at n (x ∷ es) zero e lt is = let same : x.first ≡ e.first = ap (λ y. y.first) is in omega arith
least_at n (x ∷ es) (suc k) e lt is = let rest = least_at n es k e (omega arith) is in omega arith

-- ---- first records

-- a transaction with records, and none before the cut, has its first one behind it
pub first_behind : (t : ℕ) (log : List LogRecord) (cut : ℕ) → cut ≤ length log → has_record t (take cut log) ≡ false → 0 < last_of t log → cut < first_of t log
first_behind t log cut within none known =
    let same = records_kept t log cut within none in
    let some : filter (its t) (enumerate_from (cut + 1) (drop cut log)) ≡ [] → ⊥ =
    λ empty. let z : 0 < 0 = subst (λ es. 0 < first_number (reverse es)) (same ∙ empty) known in omega arith in
    let low = first_low (its t) (cut + 1) (drop cut log) some in
    let e = ap first_number same in
    omega arith

-- ---- by a table, who has a record before its cut point has ended

module _ (B : List LogRecord) (txns : List LogTxn) (table : IsTable B txns) (n cut : ℕ) (below : cut < least_first n txns) (t : ℕ) (one : 0 < t) where
  listed_first : Lists txns t → cut < first_of t B
  unfolding Lists
  listed_first h =
      let least = least_at n txns h.0 h.1 h.2 h.3 in
      let entry : IsEntry B h.1 = subst (IsEntry B) h.3 (table.each h.0 h.1 h.2) in
      let first : h.1.first ≡ first_of t B = entry.1.first ∙ ap (λ u. first_of u B) h.4 in
      omega arith

  pub over_before : (k : ℕ) (r : LogRecord) → slice_get B k ≡ Some r → r.txn ≡ t → k < cut → is_over t B ≡ true
  over_before k r here own lt = ⊎_elim
      (λ yes. yes)
      (λ no.
      let at : slice_index_or B k r ≡ r = get_or_from_slice_get B k r r here in
      let mine : (slice_index_or B k r).txn ≡ t = ap (λ r. r.txn) at ∙ own in
      let listed = subst (Lists txns) mine
      (table.every k r (slice_get_within B k r here) (subst (λ n. 0 < n) (sym mine) one) (ap (λ n. is_over n B) mine ∙ no)) in
      let behind = listed_first listed in
      let first : first_of t B ≤ 1 + k = first_at_most t 1 B k r here own in
      absurd (omega arith))
      (cases_Bool (is_over t B))

-- ---- behind an anchor

-- a checkpoint whose End is in the log, and a table of pages that is right of these
pub cut_by_table : (log : List LogRecord) → Lawful log → (b : ℕ) (c : Checkpoint) → end_among b log ≡ Some c → (pages : LoggedPages) → TableCovers log c.begin c.dirty pages
    → (cut : ℕ) → cut < cut_point c → MayBeCut log pages cut
cut_by_table log lawful b c found pages covers cut below =
    let at = end_stands log lawful b c found in
    let most = point_at_begin c in
    let redo = point_below_redo c in
    let behind = at.behind in
    let inside = at.within in
    let some = at.tables.begins.0 in
    record {
      within = omega arith;
      on_pages = λ p. lacks_less log p (redo_begins_behind c.begin c.dirty) (pages p) (redo_may_begin log c.begin c.dirty pages covers p) cut (omega arith);
      ended = λ t one has.
          let found = one_of t (take cut log) has in
          let lt = slice_get_within (take cut log) found.at found.found found.here in
          let short = length_take_le cut log in
          let here : slice_get (before_begin (take at.at log) c.begin) found.at ≡ Some found.found =
          slice_get-take found.at (c.begin - 1) (take at.at log) (omega arith) ∙ slice_get-take found.at at.at log (omega arith)
          ∙ sym (slice_get-take found.at cut log (omega arith)) ∙ found.here in
          let over = over_before (before_begin (take at.at log) c.begin) c.txns at.tables.table (least_recovery c.begin c.dirty) cut below t one found.at found.found here found.own (omega arith) in
          over_in_front t log at.at (over_in_front t (take at.at log) (c.begin - 1) over);
    }
