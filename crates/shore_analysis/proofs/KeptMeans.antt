-- A record that stands so to those before it means what it has to, if it says so.
use Rattle.std.proofs.Common.{◌≡◌, ⊎_elim, ◌+◌, ◌<◌, ℕ, zero, suc, List, [], ◌∷◌, ◌++◌, false, Some, sym, ap, subst, ◌∙◌, length, arith}
use Rattle.std.specs.Prelude.{◌&&◌, ◌||◌, not, reverse}
use Rattle.std.specs.List.{AllByRecursion}
use Rattle.std.proofs.lemmas.List.Elements.{All-from_recursion, recursion_from_All}
use Rattle.shore_types.specs.declared.layout.Geometry.{Geometry}
use Rattle.shore_types.specs.declared.layout.TheConstants.{LAST_TXN}
use Rattle.shore_types.specs.declared.locking.Granule.{Granule}
use Rattle.shore_model.specs.declared.log_records.LogRecord.{LogRecord}
use Rattle.shore_model.specs.declared.log_records.Payload.{Payload}
use Rattle.shore_model.specs.declared.log_records.Payload.TheVariants.{Change, Compensation, Commit, End, Prepare, RollbackDecided, CheckpointBegin, CheckpointEnd, Anchor}
use Rattle.shore_model.specs.Logs.{Answers, KeepsUnder, LieUnder, is_commit, is_in_doubt, is_over, is_prepare, is_rollback, is_undoable, is_unprepared, unanswered, unanswered_in}
use Rattle.laws_checkpoints.specs.KeptLogs.{kept_unanswered}
use Rattle.laws_checkpoints.specs.MeantBehind.{IsCutOff, MeansBehind}
use Rattle.shore_analysis.specs.declared.progress.Progress.{Progress}
use Rattle.shore_analysis.specs.KeptMeant.{IsMeantNow, IsWholeIn, SaysCutOff, SaysInBounds, SaysOfCheckpoint}
use Rattle.shore_analysis.specs.KeptPasses.{HasToName}
use Rattle.shore_analysis.specs.Meant.{IsMeant, Means}
use Rattle.shore_analysis.specs.Padded.{padded}
use Rattle.shore_analysis.specs.Passes.{progress_at}
use Rattle.shore_analysis.proofs.Answered.{last_named}
use Rattle.shore_analysis.proofs.Padding.{has_padded, last_padded, over_padded, records_padded}
use Rattle.shore_analysis.proofs.Progresses.{told}
use Rattle.shore_analysis.specs.Sizes.{HasSizes}

-- ---- what a record of a whole transaction says

module _ (t : ℕ) (one : 0 < t) (cut : ℕ) (before : List LogRecord) where
  abbrev log : List LogRecord
  log = padded cut before

  unprepared_padded : is_unprepared t log ≡ is_unprepared t before
  unprepared_padded = ap not (has_padded t one is_prepare cut before)

  undoable_padded : is_undoable t log ≡ is_undoable t before
  undoable_padded = λ i. not (has_padded t one is_prepare cut before i) || has_padded t one is_rollback cut before i

  pub in_doubt_padded : is_in_doubt t log ≡ is_in_doubt t before
  in_doubt_padded = λ i. has_padded t one is_prepare cut before i && not (has_padded t one is_commit cut before i) && not (has_padded t one is_rollback cut before i)

  commit_padded : (is_unprepared t log || is_in_doubt t log) ≡ (is_unprepared t before || is_in_doubt t before)
  commit_padded = λ i. unprepared_padded i || in_doubt_padded i

  pub unanswered_padded : unanswered t log ≡ kept_unanswered cut t before
  unanswered_padded = ap (λ es. unanswered_in (reverse es)) (records_padded t one cut before)

  module _ (granules : List Granule) where
    each_padded : (c : ℕ) → AllByRecursion (KeepsUnder t granules) before → AllByRecursion (KeepsUnder t granules) (padded c before)
    each_padded zero h = h
    each_padded (suc c) h = (λ own. absurd (omega (arith, own, one)), each_padded c h)

    each_kept : (c : ℕ) → AllByRecursion (KeepsUnder t granules) (padded c before) → AllByRecursion (KeepsUnder t granules) before
    each_kept zero h = h
    each_kept (suc c) h = each_kept c h.1

    under_padded : LieUnder before t granules → LieUnder log t granules
    under_padded h = All-from_recursion (KeepsUnder t granules) log (each_padded cut (recursion_from_All (KeepsUnder t granules) before h))

    under_kept : LieUnder log t granules → LieUnder before t granules
    under_kept h = All-from_recursion (KeepsUnder t granules) before (each_kept cut (recursion_from_All (KeepsUnder t granules) log h))

  pub says_padded : (g : Geometry) (n : ℕ) (p : Payload) → SaysInBounds g n p → MeansBehind cut before t p → Means g log t p
  says_padded g n (Change id was image) bounds says = (bounds, unprepared_padded ∙ says)
  says_padded g n (Compensation id image undo_next) bounds says = (bounds, (undoable_padded ∙ says.0, subst (λ cs. Answers cs id image undo_next) (sym unanswered_padded) says.1))
  says_padded g n Commit bounds says = commit_padded ∙ says
  says_padded g n End bounds says = (undoable_padded ∙ says.0, unanswered_padded ∙ says.1)
  says_padded g n (Prepare global granules) bounds says = (bounds, (unprepared_padded ∙ says.0, under_padded granules says.1))
  says_padded g n RollbackDecided bounds says = in_doubt_padded ∙ says
  says_padded g n CheckpointBegin bounds says = absurd says
  says_padded g n (CheckpointEnd begin next txns dirty) bounds says = absurd says
  says_padded g n (Anchor checkpoint tail) bounds says = absurd says

  pub says_kept : (g : Geometry) (p : Payload) → Means g log t p → MeansBehind cut before t p
  says_kept g (Change id was image) says = sym unprepared_padded ∙ says.1
  says_kept g (Compensation id image undo_next) says = (sym undoable_padded ∙ says.1.0, subst (λ cs. Answers cs id image undo_next) unanswered_padded says.1.1)
  says_kept g Commit says = sym commit_padded ∙ says
  says_kept g End says = (sym undoable_padded ∙ says.0, sym unanswered_padded ∙ says.1)
  says_kept g (Prepare global granules) says = (sym unprepared_padded ∙ says.1.0, under_kept granules says.1.1)
  says_kept g RollbackDecided says = sym in_doubt_padded ∙ says
  says_kept g CheckpointBegin says = absurd says
  says_kept g (CheckpointEnd begin next txns dirty) says = absurd says
  says_kept g (Anchor checkpoint tail) says = absurd says

-- ---- one record

module _ (g : Geometry) (cut : ℕ) (before : List LogRecord) (r : LogRecord) (one : 0 < r.txn) where
  not_nobody : r.txn ≡ 0 → ⊥
  not_nobody none = omega (arith, none, one)

  -- of a transaction that is whole
  pub meant_whole : (whole : IsWholeIn cut (before ++ r ∷ []) r.txn) (m : IsMeantNow g cut before r) → IsMeant g (padded cut before) r
  meant_whole whole m =
      let w = m.of_whole one whole in
      record {
        some = one;
        number = m.number;
        previous = w.previous ∙ sym (last_padded r.txn one cut before) ∙ sym (last_named (padded cut before) r.txn one);
        not_over = over_padded r.txn one cut before ∙ m.not_over one;
        sizes = m.sizes;
        says = says_padded r.txn one cut before g (cut + 1 + length before) r.payload m.bounds w.says;
      }

  module _ (number : r.txn < LAST_TXN) (bounds : SaysInBounds g (cut + 1 + length before) r.payload) (sizes : HasSizes g.version r.payload) where
    module _ (whole : IsWholeIn cut (before ++ r ∷ []) r.txn) (p : Progress) (is : Some p ≡ progress_at r.txn (padded cut before)) where
      pub whole_is : r.previous ≡ p.last → Means g (padded cut before) r.txn r.payload → IsMeantNow g cut before r
      whole_is previous says =
          let tells = told r.txn (padded cut before) p is in
          record {
            number = number;
            bounds = bounds;
            sizes = sizes;
            not_over = λ some. sym (over_padded r.txn one cut before) ∙ tells.runs;
            of_nobody = λ none. absurd (not_nobody none);
            of_whole = λ some all. record {
              is_one = one;
              previous = previous ∙ tells.last ∙ last_padded r.txn one cut before;
              says = says_kept r.txn one cut before g r.payload says;
            };
            of_cut_off = λ some off. absurd (off whole);
          }

      pub whole_names : IsMeantNow g cut before r → r.previous ≡ p.last
      whole_names m =
          let tells = told r.txn (padded cut before) p is in
          (m.of_whole one whole).previous ∙ sym (last_padded r.txn one cut before) ∙ sym tells.last

      pub whole_says : IsMeantNow g cut before r → Means g (padded cut before) r.txn r.payload
      whole_says m = (meant_whole whole m).says

    module _ (runs : is_over r.txn before ≡ false) (off : IsCutOff cut (before ++ r ∷ []) r.txn) (last : ℕ) (names : HasToName cut before r last) where
      not_whole : IsWholeIn cut (before ++ r ∷ []) r.txn → ⊥
      not_whole whole = let some = off.some in omega (arith, some, whole)

      pub cut_off_is : r.previous ≡ last → SaysCutOff cut before r.txn r.payload → IsMeantNow g cut before r
      cut_off_is previous says = record {
        number = number;
        bounds = bounds;
        sizes = sizes;
        not_over = λ some. runs;
        of_nobody = λ none. absurd (not_nobody none);
        of_whole = λ some whole. absurd (not_whole whole);
        of_cut_off = λ some not. record {
          cut_off = off;
          previous = λ known. ⊎_elim (λ its. previous ∙ its.1) (λ first. let none = first.0 in absurd (omega (arith, none, known))) names;
          says = says;
        };
      }

      pub cut_off_names : IsMeantNow g cut before r → r.previous ≡ last
      cut_off_names m = ⊎_elim (λ its. (m.of_cut_off one not_whole).previous its.0 ∙ sym its.1) (λ first. sym first.1) names

      pub cut_off_says : IsMeantNow g cut before r → SaysCutOff cut before r.txn r.payload
      cut_off_says m = (m.of_cut_off one not_whole).says

-- of nobody
pub of_nobody : (g : Geometry) (cut : ℕ) (before : List LogRecord) (r : LogRecord) → r.txn ≡ 0 → r.txn < LAST_TXN → SaysInBounds g (cut + 1 + length before) r.payload → HasSizes g.version r.payload
    → (r.previous ≡ 0) × SaysOfCheckpoint cut before r.payload → IsMeantNow g cut before r
of_nobody g cut before r none number bounds sizes says = record {
  number = number;
  bounds = bounds;
  sizes = sizes;
  not_over = λ some. absurd (omega (arith, none, some));
  of_nobody = λ is. says;
  of_whole = λ some. absurd (omega (arith, none, some));
  of_cut_off = λ some. absurd (omega (arith, none, some));
}
