-- Kept records go on by the records of undo: each means what it has to still, and no transaction comes to them.
use Rattle.std.proofs.Common.{◌≡◌, ⊎_elim, ◌+◌, ◌<◌, ℕ, zero, suc, List, [], ◌∷◌, ◌++◌, Bool, true, false, cond, refl, sym, ap, subst, ◌∙◌, length, take, arith}
use Rattle.std.specs.Prelude.{◌&&◌, nat_lt, reverse}
use Rattle.std.specs.List.{AllByRecursion}
use Rattle.std.proofs.lemmas.List.{take-append-le}
use Rattle.std.proofs.lemmas.List.Elements.{All-from_recursion, All-weaker, recursion_from_All}
use Rattle.std.proofs.lemmas.Option.{slice_get_within}
use Rattle.shore_types.specs.declared.layout.Geometry.{Geometry}
use Rattle.shore_model.specs.declared.unanswered_changes.UnansweredChange.{UnansweredChange}
use Rattle.shore_model.specs.declared.log_records.LogRecord.{LogRecord}
use Rattle.shore_model.specs.declared.log_records.LogTxn.{LogTxn}
use Rattle.shore_model.specs.Logs.{IsEntry, IsListed, IsTable, first_number, unanswered, undo_next_of}
use Rattle.laws_lives.specs.Undo.{IsLoser, undo_payload, undo_record}
use Rattle.laws_lives.proofs.EndedTxns.{over_other}
use Rattle.laws_lives.proofs.OneMore.{by_push}
use Rattle.laws_lives.proofs.Redo.{slice_get_last}
use Rattle.laws_lives.proofs.Writers.{same_or_not}
use Rattle.laws_checkpoints.specs.KeptLogs.{IsKeptUnended, kept_records_of}
use Rattle.laws_checkpoints.specs.KeptTables.{IsKeptEntry, IsKeptTable}
use Rattle.shore_analysis.specs.KeptMeant.{AreMeantKept, HaveEnded, IsKeptCrowded, IsMeantNow, IsWholeIn, MayBeKept, listed_cut_off, to_have_ended}
use Rattle.shore_analysis.specs.Meant.{AreMeantOf, IsMeant}
use Rattle.shore_analysis.specs.Padded.{padded}
use Rattle.shore_analysis.proofs.KeptEnded.{unended_whole}
use Rattle.shore_analysis.proofs.KeptMeans.{in_doubt_padded, says_kept, unanswered_padded}
use Rattle.shore_analysis.proofs.KeptRecords.{first-later, records-other, some_kept}
use Rattle.shore_analysis.proofs.KeptUndone.{meant_of_whole}
use Rattle.shore_analysis.proofs.KeptWholes.{bounds_of}
use Rattle.shore_analysis.proofs.MeantLogs.{before_last, own_or_last}
use Rattle.shore_analysis.proofs.Padding.{last_padded, over_padded, padded-push, prepare_padded, records_padded}
use Rattle.shore_analysis.proofs.Undone.{undo_meant, was_crowded}

-- ---- tables

padded_entry : (cut : ℕ) (kept : List LogRecord) (e : LogTxn) → IsKeptEntry cut kept e → IsEntry (padded cut kept) e
padded_entry cut kept e h =
    let one = h.unended.is_one in (
      record {
        is_one = one;
        known = subst (λ n. 0 < n) (sym (last_padded e.txn one cut kept)) h.unended.known;
        not_over = over_padded e.txn one cut kept ∙ h.unended.not_over;
        in_doubt = h.in_doubt ∙ sym (in_doubt_padded e.txn one cut kept);
      },
      record {
        first = h.first ∙ sym (ap first_number (records_padded e.txn one cut kept));
        last = h.last ∙ sym (last_padded e.txn one cut kept);
        undo_next = h.undo_next ∙ sym (ap undo_next_of (unanswered_padded e.txn one cut kept));
        prepare = h.prepare ∙ sym (prepare_padded e.txn one cut kept);
      },
    )

kept_entry : (cut : ℕ) (kept : List LogRecord) (e : LogTxn) → IsEntry (padded cut kept) e → IsKeptEntry cut kept e
kept_entry cut kept e h =
    let one = h.0.is_one in
    record {
      unended = record {
        is_one = one;
        known = subst (λ n. 0 < n) (last_padded e.txn one cut kept) h.0.known;
        not_over = sym (over_padded e.txn one cut kept) ∙ h.0.not_over;
      };
      in_doubt = h.0.in_doubt ∙ in_doubt_padded e.txn one cut kept;
      first = h.1.first ∙ ap first_number (records_padded e.txn one cut kept);
      last = h.1.last ∙ last_padded e.txn one cut kept;
      undo_next = h.1.undo_next ∙ ap undo_next_of (unanswered_padded e.txn one cut kept);
      prepare = h.1.prepare ∙ prepare_padded e.txn one cut kept;
    }

-- the table of kept records is that of a log with a record of nobody in the place of each that is cut off
pub padded_table : (cut : ℕ) (kept : List LogRecord) (txns : List LogTxn) → IsKeptTable cut kept txns → IsTable (padded cut kept) txns
padded_table cut kept txns h = record {
  rising = h.rising;
  each = All-weaker (IsKeptEntry cut kept) (IsEntry (padded cut kept)) (padded_entry cut kept) txns h.each;
  every = All-from_recursion (IsListed (padded cut kept) txns) (padded cut kept) (blanks cut (listed kept (recursion_from_All (IsListed kept txns) kept h.every)));
}
  where
    listed : (rs : List LogRecord) → AllByRecursion (IsListed kept txns) rs → AllByRecursion (IsListed (padded cut kept) txns) rs
    listed [] all = tt
    listed (r ∷ rs) all = (λ one runs. all.0 one (sym (over_padded r.txn one cut kept) ∙ runs), listed rs all.1)

    blanks : (n : ℕ) → AllByRecursion (IsListed (padded cut kept) txns) kept → AllByRecursion (IsListed (padded cut kept) txns) (padded n kept)
    blanks zero all = all
    blanks (suc n) all = (λ one runs. absurd (omega (arith, one)), blanks n all)

pub kept_of_padded : (cut : ℕ) (kept : List LogRecord) (txns : List LogTxn) → IsTable (padded cut kept) txns → IsKeptTable cut kept txns
kept_of_padded cut kept txns h = record {
  rising = h.rising;
  each = All-weaker (IsEntry (padded cut kept)) (IsKeptEntry cut kept) (kept_entry cut kept) txns h.each;
  every = All-from_recursion (IsListed kept txns) kept (listed kept (behind cut (recursion_from_All (IsListed (padded cut kept) txns) (padded cut kept) h.every)));
}
  where
    behind : (n : ℕ) → AllByRecursion (IsListed (padded cut kept) txns) (padded n kept) → AllByRecursion (IsListed (padded cut kept) txns) kept
    behind zero all = all
    behind (suc n) all = behind n all.1

    listed : (rs : List LogRecord) → AllByRecursion (IsListed (padded cut kept) txns) rs → AllByRecursion (IsListed kept txns) rs
    listed [] all = tt
    listed (r ∷ rs) all = (λ one runs. all.0 one (over_padded r.txn one cut kept ∙ runs), listed rs all.1)

-- ---- one record of undo more

module _ (g : Geometry) (cut : ℕ) (kept : List LogRecord) (all : AreMeantKept g cut kept) (t : ℕ) (loser : IsLoser (padded cut kept) t) where
  abbrev rs : List LogRecord
  rs = padded cut kept

  abbrev r : LogRecord
  r = undo_record rs t

  abbrev after : List LogRecord
  after = kept ++ r ∷ []

  pub loser_unended : IsKeptUnended cut kept t
  loser_unended = record {
    is_one = loser.is_one;
    known = subst (λ n. 0 < n) (last_padded t loser.is_one cut kept) loser.known;
    not_over = sym (over_padded t loser.is_one cut kept) ∙ loser.not_over;
  }

  pub loser_whole : IsWholeIn cut kept t
  loser_whole = unended_whole g cut kept all t loser_unended

  -- the loser's records mean what they have to
  pub loser_of : AreMeantOf g t rs
  loser_of = meant_of_whole g cut kept all t loser.is_one loser_whole

  its : IsMeant g rs r
  its = undo_meant g rs t loser_of loser

  whole_after : IsWholeIn cut after t
  whole_after = first-later cut kept r (some_kept cut kept t loser_unended.known) ∙ loser_whole

  now : IsMeantNow g cut kept r
  now = record {
    number = its.number;
    bounds = bounds_of g rs t (cut + 1 + length kept) r.payload its.says;
    sizes = its.sizes;
    not_over = λ one. loser_unended.not_over;
    of_nobody = λ none. let one = loser.is_one in absurd (omega (arith, none, one));
    of_whole = λ one is. record { is_one = one; previous = last_padded t one cut kept; says = says_kept t one cut kept g r.payload its.says };
    of_cut_off = λ one off. absurd (off whole_after);
  }

  -- who had ended has
  still_ended : (u : ℕ) → (IsKeptUnended cut kept u → ⊥) → IsKeptUnended cut after u → ⊥
  still_ended u ended later = ⊎_elim
      (λ own. ended (subst (IsKeptUnended cut kept) own loser_unended))
      (λ ne. ended (record {
        is_one = later.is_one;
        known = subst (λ es. 0 < first_number (reverse es)) (records-other cut kept r u ne) later.known;
        not_over = sym (over_other kept r u ne) ∙ later.not_over;
      }))
      (same_or_not t u)

  have_ended : (us : List ℕ) → HaveEnded cut kept us → HaveEnded cut after us
  have_ended [] h = tt
  have_ended (u ∷ us) h = (still_ended u h.0, have_ended us h.1)

  none_to_end : to_have_ended cut kept r ≡ []
  none_to_end =
      ap (λ k. cond (nat_lt 0 t && nat_lt 0 k) (t ∷ []) [] ++ listed_cut_off cut r.payload) whole_after ∙ never (nat_lt 0 t) ∙ none_listed (unanswered t rs)
    where
      never : (b : Bool) → (cond (b && false) (t ∷ []) [] ++ listed_cut_off cut r.payload) ≡ listed_cut_off cut r.payload
      never true = refl
      never false = refl

      none_listed : (cs : List UnansweredChange) → listed_cut_off cut (undo_payload cs) ≡ []
      none_listed [] = refl
      none_listed (c ∷ cs) = refl

  -- it was no crowd before
  none_crowded : IsKeptCrowded cut after → ⊥
  none_crowded crowded =
      let table : IsTable (rs ++ r ∷ []) crowded.0 = subst (λ xs. IsTable xs crowded.0) (padded-push cut kept r) (padded_table cut after crowded.0 crowded.1) in
      let was = was_crowded rs t loser r refl (crowded.0, table, crowded.2) in
      uncrowded (was.0, kept_of_padded cut kept was.0 was.1, was.2)
    where
      -- the last record that is kept says so
      last_few : (xs : List LogRecord) → AreMeantKept g cut xs → 0 < length xs → IsKeptCrowded cut xs → ⊥
      last_few = by_push (λ xs. AreMeantKept g cut xs → 0 < length xs → IsKeptCrowded cut xs → ⊥) (λ each some crowd. absurd (omega (arith, some)))
          (λ xs x known each some crowd. (each (length xs) x (slice_get_last xs x)).few (subst (λ ys. IsKeptCrowded cut (ys ++ x ∷ [])) (sym (before_last xs x)) crowd))

      some_there : 0 < length kept
      some_there = by kept (some_kept cut kept t loser_unended.known)
        where
          by : (xs : List LogRecord) → (kept_records_of cut t xs ≡ [] → ⊥) → 0 < length xs
          by [] none = absurd (none refl)
          by (x ∷ xs) none = omega arith

      uncrowded : IsKeptCrowded cut kept → ⊥
      uncrowded = last_few kept all some_there

  pub undo_kept : AreMeantKept g cut after
  undo_kept n q at = ⊎_elim
      (λ old.
      let lt = slice_get_within kept n q old in
      let front : take n after ≡ take n kept = take-append-le n kept (r ∷ []) (omega (arith, lt)) in
      let was = all n q old in
      record {
        now = subst (λ xs. IsMeantNow g cut xs q) (sym front) was.now;
        few = subst (λ xs. IsKeptCrowded cut (xs ++ q ∷ []) → ⊥) (sym front) was.few;
        ended = subst (λ xs. HaveEnded cut after (to_have_ended cut xs q)) (sym front) (have_ended (to_have_ended cut (take n kept) q) was.ended);
      })
      (λ new. subst (λ k. MayBeKept g cut after k q) (sym new.0) (subst (MayBeKept g cut after (length kept)) new.1 here))
      (own_or_last kept r q n at)
    where
      front : take (length kept) after ≡ kept
      front = before_last kept r

      here : MayBeKept g cut after (length kept) r
      here = record {
        now = subst (λ xs. IsMeantNow g cut xs r) (sym front) now;
        few = subst (λ xs. IsKeptCrowded cut (xs ++ r ∷ []) → ⊥) (sym front) none_crowded;
        ended = subst (λ xs. HaveEnded cut after (to_have_ended cut xs r)) (sym front) (subst (HaveEnded cut after) (sym none_to_end) tt);
      }
