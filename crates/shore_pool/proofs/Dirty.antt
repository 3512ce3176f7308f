-- The table of dirty pages, which rises as their numbers on the volume do.
use Rattle.std.proofs.Common.{◌≡◌, ◌⊎◌, ◌<◌, ◌++◌, ℕ, zero, suc, List, [], ◌∷◌, All, Contains, Option, None, Some, IsSomeAnd, Result, Ok, Err, IfOk, map, option_map, slice_get, sum, take, inl, inr, refl, sym, ap, subst, ◌∙◌, arith}
use Rattle.std.specs.Prelude.{option_to_list}
use Rattle.std.specs.List.{AllByRecursion}
use Rattle.std.specs.List.Sorted.{IsStrictlySortedBy}
use Rattle.std.specs.Cmp.{nat_cmp_is}
use Rattle.std.specs.Ordering.{nat_cmp, ordering_then}
use Rattle.std.specs.declared.cmp.Ordering.TheVariants.{Equal, Less}
use Rattle.std.proofs.lemmas.Bool.{cases_lt, cases_order}
use Rattle.std.proofs.lemmas.List.Elements.{All-from_recursion, Contains-append_left, Contains-push}
use Rattle.std.proofs.lemmas.List.{append-nil}
use Rattle.shore_model.specs.declared.log_records.DirtyPage.{DirtyPage}
use Rattle.shore_types.specs.Ids.{page_cmp}
use Rattle.shore_types.specs.Layout.{HasPage}
use Rattle.shore_types.specs.declared.ids.PageId.{PageId}
use Rattle.shore_types.specs.declared.layout.Geometry.{Geometry}
use Rattle.shore_dwrite.specs.Volumes.{page_number}
use Rattle.shore_dwrite.proofs.Numbers.{page_within}
use Rattle.shore_dwrite.proofs.Overwrites.{take_again}
use Rattle.shore_pool.specs.declared.frame.Frame.{Frame}
use Rattle.shore_pool.specs.FrameMaps.{dirty_below, dirty_entry, dirty_page}
use Rattle.shore_pool.specs.Pages.{AreInOrder}

-- ---- pages by their numbers

get_first : {A : Type 0} (xs : List A) (i n : ℕ) → i < n → slice_get (take n xs) i ≡ slice_get xs i
get_first [] i zero less = refl
get_first [] i (suc n) less = refl
get_first (x ∷ xs) i zero less = absurd (omega (arith, less))
get_first (x ∷ xs) zero (suc n) less = refl
get_first (x ∷ xs) (suc i) (suc n) less = get_first xs i n (omega (arith, less))

-- pages of a lower store have lower numbers
store_lower : (g : Geometry) (p q : PageId) → HasPage g p → HasPage g q → p.store < q.store → page_number g p < page_number g q
store_lower g p q has_p has_q less =
    let within = page_within (take q.store g.stores) p.store p.page (subst (λ o. IsSomeAnd o (λ pages. p.page < pages)) (sym (get_first g.stores p.store q.store less)) has_p) in
    let below = within.1 in
    omega (arith, below, ap sum (take_again p.store q.store g.stores (omega (arith, less))))

before : (p q : PageId) → (p.store < q.store) ⊎ ((p.store ≡ q.store) × (p.page < q.page)) → page_cmp p q ≡ Less
before p q (inl store) = ap (λ o. ordering_then o (nat_cmp p.page q.page)) (sym (nat_cmp_is p.store q.store Less store))
before p q (inr page) =
    ap (λ o. ordering_then o (nat_cmp p.page q.page)) (sym (nat_cmp_is p.store q.store Equal page.0)) ∙ sym (nat_cmp_is p.page q.page Less page.1)

-- ids rise as the numbers of the pages do
pub ids_rise : (g : Geometry) (p q : PageId) → HasPage g p → HasPage g q → page_number g p < page_number g q → page_cmp p q ≡ Less
ids_rise g p q has_p has_q less = elim (cases_order p.store q.store) [
  | inl same ↦
      let sums : sum (take p.store g.stores) ≡ sum (take q.store g.stores) = ap (λ (n : ℕ). sum (take n g.stores)) same in
      before p q (inr (same, omega (arith, less, sums)))
  | inr (inl lower) ↦ before p q (inl lower)
  | inr (inr higher) ↦ let below = store_lower g q p has_q has_p higher in absurd (omega (arith, less, below))
]

-- ---- the list

module _ (at : ℕ → Option Frame) where
  -- each entry is that of a dirty page with a number below this one
  abbrev IsFound : ℕ → DirtyPage → Type 0
  IsFound n entry = (k : ℕ) × (k < n) × IsSomeAnd (at k) (λ f. (f.page.id ≡ entry.page) × (f.recovery ≡ Some entry.recovery))

module _ {A : Type 0} (P : A → Type 0) where
  both_parts : (xs ys : List A) → AllByRecursion P xs → AllByRecursion P ys → AllByRecursion P (xs ++ ys)
  both_parts [] ys h k = k
  both_parts (x ∷ xs) ys h k = (h.0, both_parts xs ys h.1 k)

found_later : (at : ℕ → Option Frame) (n : ℕ) (es : List DirtyPage) → AllByRecursion (IsFound at n) es → AllByRecursion (IsFound at (suc n)) es
found_later at n [] h = tt
found_later at n (e ∷ es) h = ((h.0.0, (let less = h.0.1 in omega (arith, less)), h.0.2), found_later at n es h.1)

found_here : (at : ℕ → Option Frame) (n : ℕ) (slot : Option Frame) → at n ≡ slot → AllByRecursion (IsFound at (suc n)) (option_to_list (dirty_entry slot))
found_here at n None is = tt
found_here at n (Some f) is = each f.recovery refl
  where
    each : (r : Option ℕ) → f.recovery ≡ r → AllByRecursion (IsFound at (suc n)) (option_to_list (option_map (dirty_page f) r))
    each None dirty = tt
    each (Some recovery) dirty = ((n, omega arith, subst (λ (o : Option Frame). IsSomeAnd o (λ (e : Frame). (e.page.id ≡ f.page.id) × (e.recovery ≡ Some recovery))) (sym is) (refl, dirty)), tt)

all_found : (at : ℕ → Option Frame) (n : ℕ) → AllByRecursion (IsFound at n) (dirty_below at n)
all_found at zero = tt
all_found at (suc n) =
    both_parts (IsFound at (suc n)) (dirty_below at n) (option_to_list (dirty_entry (at n))) (found_later at n (dirty_below at n) (all_found at n)) (found_here at n (at n) refl)

abbrev IsListed : (ℕ → Option Frame) → DirtyPage → Type 0
IsListed at entry = (k : ℕ) × IsSomeAnd (at k) (λ f. (f.page.id ≡ entry.page) × (f.recovery ≡ Some entry.recovery))

pub all_listed : (at : ℕ → Option Frame) (n : ℕ) → All (IsListed at) (dirty_below at n)
all_listed at n = All-from_recursion (IsListed at) (dirty_below at n) (forget (dirty_below at n) (all_found at n))
  where
    forget : (es : List DirtyPage) → AllByRecursion (IsFound at n) es → AllByRecursion (IsListed at) es
    forget [] h = tt
    forget (e ∷ es) h = ((h.0.0, h.0.2), forget es h.1)

-- each dirty page has its entry
pub each_listed : (at : ℕ → Option Frame) (n k : ℕ) (f : Frame) (recovery : ℕ) → k < n → at k ≡ Some f → f.recovery ≡ Some recovery → Contains (dirty_below at n) (dirty_page f recovery)
each_listed at zero k f recovery less is dirty = absurd (omega (arith, less))
each_listed at (suc n) k f recovery less is dirty = elim (cases_lt k n) [
  | inl early ↦ Contains-append_left (dirty_below at n) (option_to_list (dirty_entry (at n))) (dirty_page f recovery) (each_listed at n k f recovery early is dirty)
  | inr late ↦
      let same : k ≡ n = omega (arith, less, late) in
      let entry : option_to_list (dirty_entry (at n)) ≡ dirty_page f recovery ∷ [] =
      ap (λ (o : Option Frame). option_to_list (dirty_entry o)) (sym (ap at same) ∙ is) ∙ ap (λ (r : Option ℕ). option_to_list (option_map (dirty_page f) r)) dirty in
      subst (λ (es : List DirtyPage). Contains (dirty_below at n ++ es) (dirty_page f recovery)) (sym entry) (Contains-push (dirty_below at n) (dirty_page f recovery))
]

-- and they rise
module _ (at : ℕ → Option Frame) (g : Geometry) (order : AreInOrder at g) where
  has_page : (slot : Option Frame) (k : ℕ) (entry : DirtyPage) → at k ≡ slot → IsSomeAnd slot (λ f. (f.page.id ≡ entry.page) × (f.recovery ≡ Some entry.recovery)) → HasPage g entry.page × (page_number g entry.page ≡ k)
  has_page None k entry is has = absurd has
  has_page (Some f) k entry is has = subst (λ (p : PageId). HasPage g p × (page_number g p ≡ k)) has.0 (let o = order k f is in (o.0, o.1))

  lower : (n : ℕ) (entry : DirtyPage) (es : List DirtyPage) → HasPage g entry.page → page_number g entry.page ≡ n → AllByRecursion (IsFound at n) es → AllByRecursion (λ (d : DirtyPage). page_cmp d.page entry.page ≡ Less) es
  lower n entry [] has number h = tt
  lower n entry (e ∷ es) has number h =
      let its = has_page (at h.0.0) h.0.0 e refl h.0.2 in
      let less = h.0.1 in
      (ids_rise g e.page entry.page its.0 has (omega (arith, less, number, its.1)), lower n entry es has number h.1)

  sorted_push : (es : List DirtyPage) (e : DirtyPage) → IsStrictlySortedBy page_cmp (map (λ (d : DirtyPage). d.page) es) → AllByRecursion (λ (d : DirtyPage). page_cmp d.page e.page ≡ Less) es
      → IsStrictlySortedBy page_cmp (map (λ (d : DirtyPage). d.page) (es ++ e ∷ []))
  unfolding IsStrictlySortedBy
  sorted_push [] e sorted h = (tt, tt)
  sorted_push (x ∷ xs) e sorted h = (above xs sorted.0 h.0, sorted_push xs e sorted.1 h.1)
    where
      above : (ys : List DirtyPage) → AllByRecursion (λ (q : PageId). page_cmp x.page q ≡ Less) (map (λ (d : DirtyPage). d.page) ys) → page_cmp x.page e.page ≡ Less
          → AllByRecursion (λ (q : PageId). page_cmp x.page q ≡ Less) (map (λ (d : DirtyPage). d.page) (ys ++ e ∷ []))
      above [] h last = (last, tt)
      above (y ∷ ys) h last = (h.0, above ys h.1 last)

  abbrev AreSorted : List DirtyPage → Type 0
  AreSorted es = IsStrictlySortedBy page_cmp (map (λ (d : DirtyPage). d.page) es)

  pub rising : (n : ℕ) → AreSorted (dirty_below at n)
  unfolding IsStrictlySortedBy
  rising zero = tt
  rising (suc n) = by_slot (at n) refl (rising n)
    where
      by_recovery : (f : Frame) → at n ≡ Some f → (r : Option ℕ) → AreSorted (dirty_below at n) → AreSorted (dirty_below at n ++ option_to_list (option_map (dirty_page f) r))
      by_recovery f is None sorted = subst AreSorted (sym (append-nil (dirty_below at n))) sorted
      by_recovery f is (Some recovery) sorted =
          sorted_push (dirty_below at n) (dirty_page f recovery) sorted (lower n (dirty_page f recovery) (dirty_below at n) (order n f is).0 (order n f is).1 (all_found at n))

      by_slot : (slot : Option Frame) → at n ≡ slot → AreSorted (dirty_below at n) → AreSorted (dirty_below at n ++ option_to_list (dirty_entry slot))
      by_slot None is sorted = subst AreSorted (sym (append-nil (dirty_below at n))) sorted
      by_slot (Some f) is sorted = by_recovery f is f.recovery sorted

-- what a call answers says another thing of it
pub answer_says : {T E : Type 0} {P Q : T → Type 0} (r : Result T E) → ((x : T) → P x → Q x) → IfOk r P → IfOk r Q
answer_says (Ok x) to says = to x says
answer_says (Err e) to says = tt
