-- Whether granules that rise have one, and whether an id lies at or under one of them.
use Rattle.std.proofs.Common.{◌≡◌, ◌⊎◌, inl, inr, ⊎_elim, ◌+◌, ◌-◌, ◌<◌, ◌≤◌, ℕ, zero, suc, List, Result, Ok, Err, refl, sym, ap, subst, ◌∙◌, length, get_or, arith}
use Rattle.std.specs.Prelude.{◌↔◌, Contains, IsTrue, is_ok, slice_index_or}
use Rattle.std.specs.Ordering.{is_eq, is_lt}
use Rattle.std.specs.declared.cmp.Ordering.TheVariants.{Equal, Less}
use Rattle.std.specs.List.Sorted.{IsBinarySearchResult, IsSearchInRange, IsSorted, IsStrictlySortedBy}
use Rattle.std.proofs.lemmas.Bool.{cases_lt, true≢false}
use Rattle.std.proofs.lemmas.Cmp.{tied_itself}
use Rattle.std.proofs.lemmas.List.Sorted.{searchable_from_sorted}
use Rattle.std.proofs.lemmas.List.{get_or_default}
use Rattle.std.proofs.lemmas.Map.Keys.{Less-from_sorted, sorted_from_all_adjacent}
use Rattle.shore_types.specs.declared.ids.Rid.{Rid}
use Rattle.shore_types.specs.declared.locking.Granule.{Granule}
use Rattle.shore_types.specs.declared.locking.Granule.TheVariants.{Page, Record, Store, Volume}
use Rattle.shore_types.specs.Locking.{exact_granules, granule_cmp, granules_total}
use Rattle.shore_model.specs.Locks.{path}
use Rattle.shore_model.specs.Logs.{LiesUnder}

-- ---- the order of granules

-- granules that rise do not fall
sorted : (gs : List Granule) → IsStrictlySortedBy granule_cmp gs → IsSorted granule_cmp gs
sorted gs rise k d from within =
    let less : granule_cmp (get_or gs k d) (get_or gs (k + 1) d) ≡ Less = Less-from_sorted granule_cmp gs k (k + 1) d rise (omega arith) within in
    ap is_lt (granules_total.antisymm (get_or gs (k + 1) d) (get_or gs k d)) ∙ rw less refl

-- each comes before the next
abbrev pub RiseTo : List Granule → ℕ → Type 0
RiseTo gs i = (k : ℕ) (d : Granule) → k + 1 < i → granule_cmp (get_or gs k d) (get_or gs (k + 1) d) ≡ Less

pub rise_more : (gs : List Granule) (i : ℕ) (a b : Granule) → 1 ≤ i → i < length gs → a ≡ get_or gs (i - 1) a → b ≡ get_or gs i b → granule_cmp a b ≡ Less → RiseTo gs i → RiseTo gs (i + 1)
rise_more gs i a b some within first second less known k d lt = ⊎_elim
    (λ before. known k d before)
    (λ last.
    let at : k ≡ i - 1 = omega arith in
    let next : k + 1 ≡ i = omega arith in
    let x : get_or gs k d ≡ a = ap (λ n. get_or gs n d) at ∙ get_or_default gs (i - 1) d a (omega arith) ∙ sym first in
    let y : get_or gs (k + 1) d ≡ b = ap (λ n. get_or gs n d) next ∙ get_or_default gs i d b within ∙ sym second in
    ap (λ g. granule_cmp g (get_or gs (k + 1) d)) x ∙ ap (granule_cmp a) y ∙ less)
    (cases_lt (k + 1) i)

pub risen : (gs : List Granule) (i : ℕ) → length gs ≤ i → RiseTo gs i → IsStrictlySortedBy granule_cmp gs
risen gs i all known = sorted_from_all_adjacent granules_total gs Volume (λ k lt. known k Volume (omega arith))

pub fallen : (gs : List Granule) (i : ℕ) (a b : Granule) → 1 ≤ i → i < length gs → a ≡ get_or gs (i - 1) a → b ≡ get_or gs i b → (granule_cmp a b ≡ Less → ⊥)
    → IsStrictlySortedBy granule_cmp gs → ⊥
fallen gs i a b some within first second not_less rise =
    let d = Volume in
    let x : get_or gs (i - 1) d ≡ a = get_or_default gs (i - 1) d a (omega arith) ∙ sym first in
    let y : get_or gs i d ≡ b = get_or_default gs i d b within ∙ sym second in
    not_less (sym (ap (λ g. granule_cmp g (get_or gs i d)) x ∙ ap (granule_cmp a) y) ∙ Less-from_sorted granule_cmp gs (i - 1) i d rise (omega arith) within)

-- ---- what a binary search finds

pub in_range : (r : Result ℕ ℕ) (n i : ℕ) → IsSearchInRange r n → r ≡ Ok i → i < n
in_range (Ok k) n i within is = let same : k ≡ i = cc in omega (arith, within, same)
in_range (Err k) n i within is = cc

module _ (gs : List Granule) (g : Granule) (rise : IsStrictlySortedBy granule_cmp gs) where
  pub found_if : (r : Result ℕ ℕ) → IsBinarySearchResult (λ y. granule_cmp y g) gs r → ((i : ℕ) → r ≡ Ok i → i < length gs) → IsTrue (is_ok r) ↔ Contains gs g
  found_if (Ok i) at within = (λ h. (i, within i refl, exact_granules (slice_index_or gs i g) g (at g)), λ h. refl)
  found_if (Err i) at within = (λ h. cc, λ has. absurd (none has))
    where
      none : Contains gs g → ⊥
      none has =
          let parts = at (searchable_from_sorted granules_total (λ (x : Granule). x) gs g (sorted gs rise)) in
          let itself : granule_cmp (slice_index_or gs has.0 g) g ≡ Equal = ap (λ x. granule_cmp x g) has.2 ∙ tied_itself granules_total g in
          ⊎_elim
          (λ before. true≢false (sym (ap is_eq itself) ∙ ap is_eq (parts.0 has.0 g (omega arith) before)))
          (λ behind. true≢false (sym (ap is_eq itself) ∙ ap is_eq (parts.1 has.0 g behind has.1)))
          (cases_lt has.0 i)

-- ---- an id at or under a granule

module _ (gs : List Granule) (id : Rid) where
  at_place : (g : Granule) → Contains gs g → Contains (path (Record id)) g → LiesUnder gs id
  unfolding LiesUnder
  at_place g has on = (has.0, g, has.1, has.2, on)

  pub under_record : Contains gs (Record id) → LiesUnder gs id
  under_record has = at_place (Record id) has (0, omega arith, refl)

  pub under_page : Contains gs (Page id.page) → LiesUnder gs id
  under_page has = at_place (Page id.page) has (1, omega arith, refl)

  pub under_store : Contains gs (Store id.page.store) → LiesUnder gs id
  under_store has = at_place (Store id.page.store) has (2, omega arith, refl)

  pub under_volume : Contains gs Volume → LiesUnder gs id
  under_volume has = at_place Volume has (3, omega arith, refl)

  -- which of the four it is
  pub one_of_four : LiesUnder gs id → Contains gs (Record id) ⊎ (Contains gs (Page id.page) ⊎ (Contains gs (Store id.page.store) ⊎ Contains gs Volume))
  unfolding LiesUnder
  one_of_four under = by under.4.0 under.4.1 under.4.2
    where
      has : Contains gs under.1
      has = (under.0, under.2, under.3)

      by : (k : ℕ) → k < 4 → slice_index_or (path (Record id)) k under.1 ≡ under.1
          → Contains gs (Record id) ⊎ (Contains gs (Page id.page) ⊎ (Contains gs (Store id.page.store) ⊎ Contains gs Volume))
      by zero lt is = inl (subst (Contains gs) (sym is) has)
      by (suc zero) lt is = inr (inl (subst (Contains gs) (sym is) has))
      by (suc (suc zero)) lt is = inr (inr (inl (subst (Contains gs) (sym is) has)))
      by (suc (suc (suc zero))) lt is = inr (inr (inr (subst (Contains gs) (sym is) has)))
      by (suc (suc (suc (suc k)))) lt is = absurd (omega arith)
