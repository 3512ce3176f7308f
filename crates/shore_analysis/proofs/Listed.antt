-- The tables are those that a pass over the whole log has kept.
use Rattle.std.proofs.Common.{◌≡◌, ◌≢◌, inl, inr, ⊎_elim, ◌+◌, ◌<◌, ℕ, suc, List, [], ◌∷◌, ◌++◌, Bool, true, false, cond, Option, Some, None, refl, sym, ap, subst, ◌∙◌, length, map, arith}
use Rattle.std.specs.Prelude.{◌&&◌, not, All, Any, IsTrue, nat_lt, slice_index_or}
use Rattle.std.specs.List.{AllByRecursion}
use Rattle.std.specs.List.Sorted.{IsStrictlySortedBy}
use Rattle.std.specs.Ordering.{MatchOrdering, nat_cmp}
use Rattle.std.specs.Cmp.{IsTotalOrder, nat_cmp_total, ranks}
use Rattle.std.specs.declared.cmp.Ordering.{Ordering}
use Rattle.std.specs.declared.cmp.Ordering.TheVariants.{Less}
use Rattle.std.specs.BTreeMap.{BTreeMap, IsOrdered, get, is_at, values}
use Rattle.std.specs.Map.{keys_of, lookup, values_of}
use Rattle.std.proofs.lemmas.Bool.{lt-ltb, ltb-true, cases_Bool}
use Rattle.std.proofs.lemmas.Map.Entries.{btree_map_get_place}
use Rattle.std.proofs.lemmas.Option.{slice_get-get_or}
use Rattle.std.proofs.lemmas.List.Elements.{All-push, recursion_from_All, All-from_recursion}
use Rattle.shore_types.specs.Ids.{page_cmp, exact_pages, pages_total}
use Rattle.shore_types.specs.declared.ids.PageId.{PageId}
use Rattle.shore_model.specs.declared.log_records.LogRecord.{LogRecord}
use Rattle.shore_model.specs.declared.log_records.LogTxn.{LogTxn}
use Rattle.shore_model.specs.Logs.{IsEntry, IsTable, Lists, first_number, is_over, last_of, rise_above}
use Rattle.laws_lives.proofs.Booleans.{and_true, is_equal}
use Rattle.laws_lives.proofs.Numbers.{last_own, newest_other}
use Rattle.laws_lives.proofs.OneMore.{by_push}
use Rattle.laws_lives.proofs.Writers.{same_or_not}
use Rattle.shore_analysis.specs.Passes.{as_dirty, entry_at, entry_of, is_running, recovery_at}
use Rattle.shore_analysis.specs.Tables.{IsDirtyTable, first_change, state_of}
use Rattle.shore_analysis.proofs.OneMore.{entry_some}
use Rattle.shore_analysis.proofs.Phases.{prepared_is}
use Rattle.shore_analysis.proofs.Answered.{one_or_none}

-- ---- lists

pub Any-here : {X : Type 0} (P : X → Type 0) (x : X) (xs : List X) → P x → Any P (x ∷ xs)
Any-here P x xs h = (0, x, omega arith, refl, h)

pub Any-later : {X : Type 0} (P : X → Type 0) (y : X) (xs : List X) → Any P xs → Any P (y ∷ xs)
Any-later P y xs a = (suc a.0, a.1, (let lt = a.2 in omega arith), a.3, a.4)

-- what a lookup finds is among the values
module _ {K X Y : Type 0} (cmp : K → K → Ordering) (of : K × X → Y) (P : Y → Type 0) (k : K) where
  pub found_among : (es : List (K × X)) (v : X) → lookup (is_at (cmp k)) es ≡ Some v → ((e : K × X) → is_at (cmp k) e.0 ≡ true → e.1 ≡ v → P (of e)) → Any P (map of es)
  found_among [] v h f = cc
  found_among (e ∷ es) v h f = ⊎_elim
      (λ here. Any-here P (of e) (map of es) (f e here (value_is (sym (ap (λ b. cond b (Some e.1) (lookup (is_at (cmp k)) es)) here) ∙ h))))
      (λ off. Any-later P (of e) (map of es) (found_among es v (sym (ap (λ b. cond b (Some e.1) (lookup (is_at (cmp k)) es)) off) ∙ h) f))
      (cases_Bool (is_at (cmp k) e.0))
    where
      value : X → Option X → X
      value d None = d
      value d (Some x) = x

      value_is : Some e.1 ≡ Some v → e.1 ≡ v
      value_is h = ap (value e.1) h

-- what stands in a map is found there
pub all_found : {K X : Type 0} {cmp : K → K → Ordering} → IsTotalOrder cmp → (m : BTreeMap K X) → IsOrdered cmp m → All (λ e. get cmp m e.0 ≡ Some e.1) m.entries
all_found {X = X} total m ordered k d lt =
    let e = slice_index_or m.entries k d in btree_map_get_place total m k e.0 e.1 ordered (slice_get-get_or m.entries k d lt)

-- ---- entries of transactions

-- of a transaction with an entry
pub record Runs (t : ℕ) (rs : List LogRecord) (e : LogTxn) : Type 0 where
  pub one : 0 < t
  pub known : 0 < last_of t rs
  pub runs : is_over t rs ≡ false
  pub is : e ≡ entry_of t rs

pub entry_runs : (t : ℕ) (rs : List LogRecord) (e : LogTxn) → entry_at t rs ≡ Some e → Runs t rs e
entry_runs t rs e h = by_cases (is_running t rs) refl
  where
    value : LogTxn → Option LogTxn → LogTxn
    value d None = d
    value d (Some x) = x

    not_not : (b : Bool) → not b ≡ true → b ≡ false
    not_not true h = cc
    not_not false h = refl

    by_cases : (b : Bool) → is_running t rs ≡ b → Runs t rs e
    by_cases true runs =
        let outer = and_true (nat_lt 0 t && nat_lt 0 (last_of t rs)) (not (is_over t rs)) runs in
        let inner = and_true (nat_lt 0 t) (nat_lt 0 (last_of t rs)) outer.0 in
        record {
          one = ltb-true 0 t inner.0;
          known = ltb-true 0 (last_of t rs) inner.1;
          runs = not_not (is_over t rs) outer.1;
          is = ap (value e) (sym h ∙ ap (λ b. cond b (Some (entry_of t rs)) None) runs);
        }
    by_cases false runs = absurd (let gone : None ≡ Some e = sym (ap (λ b. cond b (Some (entry_of t rs)) None) runs) ∙ h in cc)

pub below : (x y : ℕ) → nat_cmp x y ≡ Less → x < y
below x y e = subst (λ r. MatchOrdering r (x < y) (x ≡ y) (y < x)) e (ranks x y)

-- a transaction with a record has a last one
pub known_if_there : (rs : List LogRecord) (t : ℕ) → last_of t rs ≡ 0 → All (λ r. r.txn ≢ t) rs
known_if_there = by_push (λ rs. (t : ℕ) → last_of t rs ≡ 0 → All (λ r. r.txn ≢ t) rs) (λ t h k d lt. absurd (omega (arith, lt))) one_more
  where
    one_more : (rs : List LogRecord) (r : LogRecord) → ((t : ℕ) → last_of t rs ≡ 0 → All (λ r. r.txn ≢ t) rs) → (t : ℕ) → last_of t (rs ++ r ∷ []) ≡ 0 → All (λ r. r.txn ≢ t) (rs ++ r ∷ [])
    one_more rs r known t none = ⊎_elim
        (λ own. let here : last_of t (rs ++ r ∷ []) ≡ 1 + length rs = ap (λ u. last_of u (rs ++ r ∷ [])) (sym own) ∙ last_own rs r in absurd (omega arith))
        (λ ne. All-push (λ x. x.txn ≢ t) rs r (known t (sym (ap first_number (newest_other rs r t ne)) ∙ none)) ne)
        (same_or_not r.txn t)

module _ (rs : List LogRecord) where
  pub is_entry : (t : ℕ) (e : LogTxn) → Runs t rs e → IsEntry rs e
  is_entry t e h = subst (IsEntry rs) (sym h.is) (
    record { is_one = h.one; known = h.known; not_over = h.runs; in_doubt = prepared_is t rs },
    record { first = refl; last = refl; undo_next = refl; prepare = refl },
  )

  abbrev AreEntries : List (ℕ × LogTxn) → Type 0
  AreEntries es = AllByRecursion (λ e. Runs e.0 rs e.1) es

  entries_rise : (t : ℕ) (es : List (ℕ × LogTxn)) → AllByRecursion (λ u. t < u) (keys_of es) → IsStrictlySortedBy nat_cmp (keys_of es) → AreEntries es → IsTrue (rise_above t (values_of es))
  unfolding IsStrictlySortedBy
  entries_rise t [] above sorted runs = refl
  entries_rise t (e ∷ es) above sorted runs =
      let own : e.1.txn ≡ e.0 = ap (λ x. x.txn) runs.0.is in
      let next : IsTrue (rise_above e.0 (values_of es)) = entries_rise e.0 es (all_below (keys_of es) sorted.0) sorted.1 runs.1 in
      ap (λ u. nat_lt t u && rise_above u (values_of es)) own ∙ ap (λ b. b && rise_above e.0 (values_of es)) (lt-ltb t e.0 above.0) ∙ next
    where
      all_below : (ks : List ℕ) → AllByRecursion (λ u. nat_cmp e.0 u ≡ Less) ks → AllByRecursion (λ u. e.0 < u) ks
      all_below [] h = tt
      all_below (k ∷ ks) h = (below e.0 k h.0, all_below ks h.1)

  above_none : (es : List (ℕ × LogTxn)) → AreEntries es → AllByRecursion (λ u. 0 < u) (keys_of es)
  above_none [] h = tt
  above_none (e ∷ es) h = (h.0.one, above_none es h.1)

  all_entries : (es : List (ℕ × LogTxn)) → AreEntries es → AllByRecursion (IsEntry rs) (values_of es)
  all_entries [] h = tt
  all_entries (e ∷ es) h = (is_entry e.0 e.1 h.0, all_entries es h.1)

  all_states : (es : List (ℕ × LogTxn)) → AreEntries es → AllByRecursion (λ e. e.state ≡ state_of e.txn rs) (values_of es)
  all_states [] h = tt
  all_states (e ∷ es) h = (subst (λ x. x.state ≡ state_of x.txn rs) (sym h.0.is) refl, all_states es h.1)

  module _ (running : BTreeMap ℕ LogTxn) (known : (t : ℕ) → get nat_cmp running t ≡ entry_at t rs) (ordered : IsOrdered nat_cmp running) where
    are_entries : (es : List (ℕ × LogTxn)) → AllByRecursion (λ e. get nat_cmp running e.0 ≡ Some e.1) es → AreEntries es
    are_entries [] h = tt
    are_entries (e ∷ es) h = (entry_runs e.0 rs e.1 (sym (known e.0) ∙ h.0), are_entries es h.1)

    all_known : AreEntries running.entries
    all_known = are_entries running.entries (recursion_from_All (λ e. get nat_cmp running e.0 ≡ Some e.1) running.entries (all_found nat_cmp_total running ordered))

    listed : (t : ℕ) → 0 < t → 0 < last_of t rs → is_over t rs ≡ false → Lists (values running) t
    unfolding Lists
    listed t one last runs =
        found_among nat_cmp (λ e. e.1) (λ e. e.txn ≡ t) t running.entries (entry_of t rs) (known t ∙ entry_some t rs one last runs) (λ e here is. ap (λ x. x.txn) is)

    pub is_table : IsTable rs (values running)
    is_table = record {
      rising = entries_rise 0 running.entries (above_none running.entries all_known) ordered all_known;
      each = All-from_recursion (IsEntry rs) (values running) (all_entries running.entries all_known);
      every = λ k d lt one runs.
          let r = slice_index_or rs k d in
          elim (one_or_none (last_of r.txn rs)) [
            | inl none ↦ absurd (known_if_there rs r.txn none k d lt refl)
            | inr last ↦ listed r.txn one last runs
          ];
    }

    pub have_states : All (λ e. e.state ≡ state_of e.txn rs) (values running)
    have_states = All-from_recursion (λ e. e.state ≡ state_of e.txn rs) (values running) (all_states running.entries all_known)

-- ---- pages

module _ (rs : List LogRecord) (dirty : BTreeMap PageId ℕ) (known : (p : PageId) → get page_cmp dirty p ≡ recovery_at p rs) where
  page_is : (p : PageId) (n : ℕ) → recovery_at p rs ≡ Some n → (0 < n) × (n ≡ first_change p rs)
  page_is p n h = ⊎_elim
      (λ some.
      let is : n ≡ first_change p rs = ap (value n) (sym h ∙ ap (λ b. cond b (Some (first_change p rs)) None) some) in
      (let one = ltb-true 0 (first_change p rs) some in omega (arith, is, one), is))
      (λ none. absurd (let gone : None ≡ Some n = sym (ap (λ b. cond b (Some (first_change p rs)) None) none) ∙ h in cc))
      (cases_Bool (nat_lt 0 (first_change p rs)))
    where
      value : ℕ → Option ℕ → ℕ
      value d None = d
      value d (Some x) = x

  all_pages : (es : List (PageId × ℕ)) → AllByRecursion (λ e. get page_cmp dirty e.0 ≡ Some e.1) es
      → AllByRecursion (λ d. (0 < d.recovery) × (d.recovery ≡ first_change d.page rs)) (map as_dirty es)
  all_pages [] h = tt
  all_pages (e ∷ es) h = (page_is e.0 e.1 (sym (known e.0) ∙ h.0), all_pages es h.1)

  pages_are : (es : List (PageId × ℕ)) → map (λ d. d.page) (map as_dirty es) ≡ keys_of es
  pages_are [] = refl
  pages_are (e ∷ es) = ap (λ ps. e.0 ∷ ps) (pages_are es)

  pub is_dirty_table : IsOrdered page_cmp dirty → IsDirtyTable rs (map as_dirty dirty.entries)
  is_dirty_table ordered = record {
    rising = subst (IsStrictlySortedBy page_cmp) (sym (pages_are dirty.entries)) ordered;
    each = All-from_recursion (λ d. (0 < d.recovery) × (d.recovery ≡ first_change d.page rs)) (map as_dirty dirty.entries)
        (all_pages dirty.entries (recursion_from_All (λ e. get page_cmp dirty e.0 ≡ Some e.1) dirty.entries (all_found pages_total dirty ordered)));
    every = λ p changed. found_among page_cmp as_dirty (λ d. d.page ≡ p) p dirty.entries (first_change p rs)
        (known p ∙ ap (λ b. cond b (Some (first_change p rs)) None) (lt-ltb 0 (first_change p rs) changed))
        (λ e here is. sym (exact_pages p e.0 (is_equal (page_cmp p e.0) here)));
  }

-- ---- loops that list what a map has

-- those behind, and those to come
abbrev pub IsListing : {A B : Type 0} → (A → B) → List A → List A → List B → Type 0
IsListing of all left done = done ++ map of left ≡ map of all
