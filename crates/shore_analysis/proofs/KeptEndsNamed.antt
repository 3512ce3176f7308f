-- What the End of a checkpoint names of a lawful log's records: those that are kept, and of those that are cut off the transactions that have ended.
use Rattle.std.proofs.Common.{◌≡◌, ⊎_elim, ◌+◌, ◌-◌, ◌<◌, ◌≤◌, ℕ, List, [], ◌∷◌, Bool, true, false, cond, Option, None, Some, All, refl, sym, ap, subst, ◌∙◌, length, map, take, drop, arith}
use Rattle.std.specs.Prelude.{◌==◌, ◌&&◌, ◌||◌, IsSomeAnd, filter, nat_le, nat_lt, reverse, slice_get}
use Rattle.std.specs.List.{AllByRecursion, enumerate_from}
use Rattle.std.proofs.lemmas.Bool.{cases_Bool, eqb-true, leb-true, ltb-true, true≢false}
use Rattle.std.proofs.lemmas.List.Elements.{All-weaker, recursion_from_All}
use Rattle.shore_types.specs.declared.layout.Geometry.{Geometry}
use Rattle.shore_types.specs.declared.layout.TheConstants.{LAST_TXN}
use Rattle.shore_model.specs.declared.log_records.DirtyPage.{DirtyPage}
use Rattle.shore_model.specs.declared.log_records.LogRecord.{LogRecord}
use Rattle.shore_model.specs.declared.log_records.LogTxn.{LogTxn}
use Rattle.shore_model.specs.declared.log_records.Payload.TheVariants.{CheckpointBegin}
use Rattle.shore_model.specs.Logs.{IsAsAtBegin, IsEntry, before_begin, first_number, first_of, is_in_doubt, is_over, is_prepare, is_prepared, last_of, prepare_number, unanswered, undo_next_of}
use Rattle.laws_lives.proofs.Booleans.{and_true}
use Rattle.laws_lives.proofs.Lists.{take-take}
use Rattle.laws_checkpoints.specs.KeptLogs.{has_record}
use Rattle.laws_checkpoints.specs.KeptTables.{NamesKept}
use Rattle.laws_checkpoints.proofs.Kept.{has_at, its, over_back, over_in_front}
use Rattle.laws_checkpoints.proofs.Lists.{get-drop}
use Rattle.laws_checkpoints.proofs.Numbers.{IsNumberOf, first_is, first_low, last_is, undo_next_is}
use Rattle.shore_analysis.specs.AnchoredMeant.{HasEndedSince}
use Rattle.shore_analysis.specs.KeptMeant.{AreInLimits, IsChangeOf, IsEndInBounds, IsEndNamed, IsEntryInBounds, IsEntryNamed, IsOf, IsPageInBounds, IsPrepareOf, NamesIfKept, is_cut_off, names_cut_off, txns_cut_off}
use Rattle.shore_analysis.specs.Meant.{IsChange}
use Rattle.shore_analysis.proofs.Answered.{one_or_none}
use Rattle.shore_analysis.proofs.MeantLogs.{get_in_take, in_doubt_prepared, taken_within}
use Rattle.shore_analysis.proofs.OneMore.{prepare_known}

-- a record of a front that is kept is named by its number
pub named_kept : (L : List LogRecord) (cut m : ℕ) (r : LogRecord) (P : LogRecord → Type 0) → cut < m → slice_get L (m - 1) ≡ Some r → P r → NamesKept cut (drop cut L) m P
named_kept L cut m r P lt at p =
    let place : cut + (m - (cut + 1)) ≡ m - 1 = omega (arith, lt) in
    (lt, subst (λ o. IsSomeAnd o P) (sym (get-drop L cut (m - (cut + 1)) ∙ ap (slice_get L) place ∙ at)) p)

in_front : (n k : ℕ) (xs : List LogRecord) (r : LogRecord) → slice_get (take n xs) k ≡ Some r → slice_get xs k ≡ Some r
in_front n k xs r at = sym (get_in_take xs n k (taken_within xs n k r at)) ∙ at

module _ (log : List LogRecord) (cut n : ℕ) (begin next : ℕ) (txns : List LogTxn) (as_at : IsAsAtBegin (take (cut + n) log) begin next txns) where
  abbrev L : List LogRecord
  L = take (cut + n) log

  abbrev B : List LogRecord
  B = before_begin L begin

  begin_within : begin - 1 < cut + n
  begin_within = by (slice_get L (begin - 1)) refl as_at.begins.1
    where
      by : (o : Option LogRecord) → slice_get L (begin - 1) ≡ o → IsSomeAnd o (λ r. r.payload ≡ CheckpointBegin) → begin - 1 < cut + n
      by None e is = absurd is
      by (Some r) e is = taken_within log (cut + n) (begin - 1) r e

  module _ (e : LogTxn) (entry : IsEntry B e) where
    some_records : filter (its e.txn) (enumerate_from 1 B) ≡ [] → ⊥
    some_records none = let z : 0 < 0 = subst (λ es. 0 < first_number (reverse es)) none entry.0.known in omega (arith, z)

    first : IsNumberOf (its e.txn) 1 B (first_of e.txn B)
    first = let low = first_low (its e.txn) 1 B some_records in first_is (its e.txn) 1 B (omega (arith, low))

    last : IsNumberOf (its e.txn) 1 B (last_of e.txn B)
    last = last_is (its e.txn) 1 B entry.0.known

    own : (m : ℕ) → IsNumberOf (its e.txn) 1 B m → NamesIfKept cut (drop cut L) m (IsOf e.txn)
    own m h = λ lt. named_kept L cut m h.found (IsOf e.txn) lt (in_front (begin - 1) (m - 1) L h.found h.here) (eqb-true h.found.txn e.txn h.passes)

    change : NamesIfKept cut (drop cut L) (undo_next_of (unanswered e.txn B)) (IsChangeOf e.txn)
    change = λ lt.
        let m = undo_next_of (unanswered e.txn B) in
        let some : 0 < undo_next_of (unanswered e.txn B) = omega (arith, lt) in
        let h = undo_next_is (its e.txn) 1 B some in
        named_kept L cut m h.found (IsChangeOf e.txn) lt (in_front (begin - 1) (m - 1) L h.found h.here) (eqb-true h.found.txn e.txn h.passes, subst IsChange (sym h.says) tt)

    some_prepare : is_prepared e.state ≡ true → 0 < prepare_number e.txn B
    some_prepare prepared =
        let doubts : is_in_doubt e.txn B ≡ true = sym entry.0.in_doubt ∙ prepared in
        ltb-true 0 (prepare_number e.txn B) (prepare_known e.txn B ∙ in_doubt_prepared e.txn B doubts)

    -- the number of a Prepare
    prepare_is : 0 < prepare_number e.txn B → IsNumberOf (λ r. (r.1.txn == e.txn) && is_prepare r.1.payload) 1 B (prepare_number e.txn B)
    prepare_is some = first_is (λ r. (r.1.txn == e.txn) && is_prepare r.1.payload) 1 B some

    prepare : is_prepared e.state ≡ true → NamesIfKept cut (drop cut L) (prepare_number e.txn B) (IsPrepareOf e.txn)
    prepare prepared = λ lt.
        let m = prepare_number e.txn B in
        let h = prepare_is (some_prepare prepared) in
        let both = and_true (h.found.txn == e.txn) (is_prepare h.found.payload) h.passes in
        named_kept L cut m h.found (IsPrepareOf e.txn) lt (in_front (begin - 1) (m - 1) L h.found h.here) (eqb-true h.found.txn e.txn both.0, both.1)

    pub entry_named : IsEntryNamed cut (drop cut L) e
    entry_named = record {
      some_first = let low = first.low in let is = entry.1.first in omega (arith, low, is);
      first = subst (λ m. NamesIfKept cut (drop cut L) m (IsOf e.txn)) (sym entry.1.first) (own (first_of e.txn B) first);
      some_last = let low = last.low in let is = entry.1.last in omega (arith, low, is);
      last = subst (λ m. NamesIfKept cut (drop cut L) m (IsOf e.txn)) (sym entry.1.last) (own (last_of e.txn B) last);
      undo_next = subst (λ m. NamesIfKept cut (drop cut L) m (IsChangeOf e.txn)) (sym entry.1.undo_next) change;
      prepare = λ prepared. (
        subst (λ m. 0 < m) (sym entry.1.prepare) (some_prepare prepared),
        subst (λ m. NamesIfKept cut (drop cut L) m (IsPrepareOf e.txn)) (sym entry.1.prepare) (prepare prepared),
      );
    }

    pub entry_in_bounds : (g : Geometry) → AreInLimits g log → IsEntryInBounds (cut + n + 1) e
    entry_in_bounds g limits = record {
      is_one = entry.0.is_one;
      number =
          let at = in_front (cut + n) (last_of e.txn B - 1) log last.found (in_front (begin - 1) (last_of e.txn B - 1) L last.found last.here) in
          subst (λ t. t < LAST_TXN) (eqb-true last.found.txn e.txn last.passes) (limits (last_of e.txn B - 1) last.found at).number;
      prepare = let is = entry.1.prepare in ⊎_elim
          (λ none. omega (arith, is, none))
          (λ some.
          let h = prepare_is some in
          let lt = taken_within L (begin - 1) (prepare_number e.txn B - 1) h.found h.here in
          let inside = begin_within in
          omega (arith, is, lt, inside, some))
          (one_or_none (prepare_number e.txn B));
    }

    -- one of its numbers is cut off, so it has a record that is
    number_cut_off : (f : ℕ × LogRecord → Bool) (m k : ℕ) → k ≡ m → is_cut_off cut k ≡ true → (0 < m → IsNumberOf f 1 B m) → ((r : LogRecord) → f (m, r) ≡ true → r.txn ≡ e.txn) → has_record e.txn (take cut log) ≡ true
    number_cut_off f m k is off numbered its_own =
        let both = and_true (nat_lt 0 k) (nat_le k cut) off in
        let some = ltb-true 0 k both.0 in
        let le = leb-true k cut both.1 in
        let h = numbered (omega (arith, is, some)) in
        let here = in_front (cut + n) (m - 1) log h.found (in_front (begin - 1) (m - 1) L h.found h.here) in
        let there : slice_get (take cut log) (m - 1) ≡ Some h.found = get_in_take log cut (m - 1) (omega (arith, is, some, le)) ∙ here in
        ap (λ t. has_record t (take cut log)) (sym (its_own h.found h.passes)) ∙ has_at (take cut log) (m - 1) h.found there

    pub has_cut_off : names_cut_off cut e ≡ true → has_record e.txn (take cut log) ≡ true
    has_cut_off names = ⊎_elim
        (λ yes. number_cut_off (its e.txn) (first_of e.txn B) e.first entry.1.first yes (λ some. first) (λ r p. eqb-true r.txn e.txn p))
        (λ no_first. ⊎_elim
        (λ yes. number_cut_off (its e.txn) (last_of e.txn B) e.last entry.1.last yes (λ some. last) (λ r p. eqb-true r.txn e.txn p))
        (λ no_last. ⊎_elim
        (λ yes.
        number_cut_off (its e.txn) (undo_next_of (unanswered e.txn B)) e.undo_next entry.1.undo_next yes
        (λ some. let h = undo_next_is (its e.txn) 1 B some in record { found = h.found; low = h.low; here = h.here; passes = h.passes }) (λ r p. eqb-true r.txn e.txn p))
        (λ no_undo. ⊎_elim
        (λ yes.
        number_cut_off (λ r. (r.1.txn == e.txn) && is_prepare r.1.payload) (prepare_number e.txn B) e.prepare entry.1.prepare (and_true (is_prepared e.state) (is_cut_off cut e.prepare) yes).1
        prepare_is (λ r p. eqb-true r.txn e.txn (and_true (r.txn == e.txn) (is_prepare r.payload) p).0))
        (λ no_prepare. absurd (none (is_cut_off cut e.first) (is_cut_off cut e.last) (is_cut_off cut e.undo_next) (is_prepared e.state && is_cut_off cut e.prepare) no_first no_last no_undo no_prepare names))
        (cases_Bool (is_prepared e.state && is_cut_off cut e.prepare)))
        (cases_Bool (is_cut_off cut e.undo_next)))
        (cases_Bool (is_cut_off cut e.last)))
        (cases_Bool (is_cut_off cut e.first))
      where
        none : (a b c d : Bool) → a ≡ false → b ≡ false → c ≡ false → d ≡ false → (a || b || c || d) ≡ true → ⊥
        none a b c d p q r s h = cc

  -- ---- all entries

  pub end_named : IsEndNamed cut (drop cut L) begin txns
  end_named = record {
    begins = λ lt.
        let place : cut + (begin - (cut + 1)) ≡ begin - 1 = omega (arith, lt) in
        (lt, subst (λ o. IsSomeAnd o (λ r. r.payload ≡ CheckpointBegin)) (sym (get-drop L cut (begin - (cut + 1)) ∙ ap (slice_get L) place)) as_at.begins.1);
    rising = as_at.table.rising;
    each = All-weaker (IsEntry B) (IsEntryNamed cut (drop cut L)) entry_named txns as_at.table.each;
  }

  pub end_in_bounds : (g : Geometry) → AreInLimits g log → (dirty : List DirtyPage) → (next ≤ LAST_TXN) × All (IsPageInBounds g (cut + n + 1)) dirty
      → IsEndInBounds g (cut + n + 1) begin next txns dirty
  end_in_bounds g limits dirty says = record {
    some = as_at.begins.0;
    number = says.0;
    entries = All-weaker (IsEntry B) (IsEntryInBounds (cut + n + 1)) (λ e entry. entry_in_bounds e entry g limits) txns as_at.table.each;
    pages = says.1;
  }

  -- if the begin is kept, one that has a record that is cut off and has ended did so behind it
  pub ended_since : cut < begin → cut ≤ length log → ((t : ℕ) → 0 < t → has_record t (take cut log) ≡ true → is_over t log ≡ true) → All (HasEndedSince cut (drop cut log)) txns
  ended_since behind within ends =
      let inside = begin_within in
      let front : take cut B ≡ take cut log = take-take cut (begin - 1) L (omega (arith, behind)) ∙ take-take cut (cut + n) log (omega arith) in
      let earlier : (t : ℕ) → is_over t B ≡ false → is_over t (take cut log) ≡ false = λ t going. ⊎_elim
      (λ over. absurd (true≢false (sym (over_in_front t B cut (ap (is_over t) front ∙ over)) ∙ going)))
      (λ none. none)
      (cases_Bool (is_over t (take cut log))) in
      All-weaker (IsEntry B) (HasEndedSince cut (drop cut log))
      (λ e entry names. sym (over_back e.txn log cut within (earlier e.txn entry.0.not_over)) ∙ ends e.txn entry.0.is_one (has_cut_off e entry names)) txns as_at.table.each

  -- whoever has a record that is cut off has P
  module _ (P : ℕ → Type 0) (holds : (t : ℕ) → has_record t (take cut log) ≡ true → P t) where
    listed : (es : List LogTxn) → AllByRecursion (IsEntry B) es → AllByRecursion P (txns_cut_off cut es)
    listed [] h = tt
    listed (e ∷ es) h = ⊎_elim
        (λ yes. subst (λ b. AllByRecursion P (map (λ x. x.txn) (cond b (e ∷ filter (names_cut_off cut) es) (filter (names_cut_off cut) es)))) (sym yes) (holds e.txn (has_cut_off e h.0 yes), listed es h.1))
        (λ no. subst (λ b. AllByRecursion P (map (λ x. x.txn) (cond b (e ∷ filter (names_cut_off cut) es) (filter (names_cut_off cut) es)))) (sym no) (listed es h.1))
        (cases_Bool (names_cut_off cut e))

    pub all_listed : AllByRecursion P (txns_cut_off cut txns)
    all_listed = listed txns (recursion_from_All (IsEntry B) txns as_at.table.each)
