-- The slots and the bounds of all pages, as one page changes.
use Rattle.std.proofs.Common.{◌≡◌, ◌≢◌, ◌⊎◌, ◌==◌, ◌&&◌, ◌<◌, ℕ, zero, suc, min, Bool, true, false, List, [], ◌∷◌, length, map, replicate, get_or, set, Some, None, IsSomeAnd, is_some, slice_get, slice_index_or, if◌then◌else◌, refl, sym, ap, subst, ◌∙◌, inl, inr, arith}
use Rattle.std.proofs.lemmas.Bool.{cases_eq, cases_lt, eq-eqb, ne_eqb}
use Rattle.std.proofs.lemmas.List.{get_or_default, get_or-set_same, get_or-set_other, length-replicate, length-set}
use Rattle.shore_types.specs.declared.ids.PageId.{PageId}
use Rattle.shore_types.specs.declared.layout.Geometry.{Geometry}
use Rattle.shore_types.specs.Images.{Image, image_len}
use Rattle.shore_page.specs.Room.{Fits}
use Rattle.shore_page.specs.Slots.{Slot, with_image}
use Rattle.shore_heap.specs.Contents.{AreBounds, TakesNone, bound_of, same_page, with_slots}
use Rattle.shore_types.specs.Versions.{record_limit-most}
use Rattle.shore_heap.proofs.Rooms.{put_refuses, refuses_longest, refuses_more}

abbrev the_page : ℕ → ℕ → PageId
the_page store page = record { store = store; page = page }

-- two pages are one, or not
pub cases_page : (p q : PageId) → (p ≡ q) ⊎ (p ≢ q)
cases_page p q = elim (cases_eq p.store q.store) [
  | inl store ↦ elim (cases_eq p.page q.page) [
    | inl page ↦ inl (ap (λ (n : ℕ). the_page n p.page) store ∙ ap (λ (n : ℕ). the_page q.store n) page)
    | inr other ↦ inr (λ same. other (ap (λ (r : PageId). r.page) same))
  ]
  | inr other ↦ inr (λ same. other (ap (λ (r : PageId). r.store) same))
]

same_here : (p : PageId) → same_page p p ≡ true
same_here p = ap (λ (b : Bool). b && (p.page == p.page)) (eq-eqb p.store p.store refl) ∙ ap (λ (b : Bool). true && b) (eq-eqb p.page p.page refl)

same_other : (p q : PageId) → p ≢ q → same_page p q ≡ false
same_other p q apart = elim (cases_eq p.store q.store) [
  | inl store ↦
      let other : p.page ≢ q.page = λ page. apart (ap (λ (n : ℕ). the_page n p.page) store ∙ ap (λ (n : ℕ). the_page q.store n) page) in
      ap (λ (b : Bool). b && (p.page == q.page)) (eq-eqb p.store q.store store) ∙ ap (λ (b : Bool). true && b) (ne_eqb p.page q.page other)
  | inr other ↦ ap (λ (b : Bool). b && (p.page == q.page)) (ne_eqb p.store q.store other)
]

module _ (S : PageId → List Slot) (id : PageId) (change : List Slot → List Slot) where
  pub slots_here : with_slots S id change id ≡ change (S id)
  slots_here = ap (λ (b : Bool). if b then change (S id) else S id) (same_here id)

  pub slots_other : (p : PageId) → p ≢ id → with_slots S id change p ≡ S p
  slots_other p apart = ap (λ (b : Bool). if b then change (S p) else S p) (same_other p id apart)

-- ---- one bound changed

module _ (free : List (List ℕ)) (id : PageId) (n : ℕ) where
  abbrev there : List ℕ
  there = slice_index_or free id.store []

  abbrev now : List (List ℕ)
  now = set free id.store (set there id.page n)

  pub bound_here : id.store < length free → id.page < length there → bound_of now id ≡ n
  bound_here store page = ap (λ (l : List ℕ). get_or l id.page 0) (get_or-set_same free id.store (set there id.page n) [] store) ∙ get_or-set_same there id.page n 0 page

  pub bound_other : id.store < length free → (p : PageId) → p ≢ id → bound_of now p ≡ bound_of free p
  bound_other store p apart = elim (cases_eq p.store id.store) [
    | inl same ↦
        let page : p.page ≢ id.page = λ page. apart (ap (λ (n : ℕ). the_page n p.page) same ∙ ap (λ (n : ℕ). the_page id.store n) page) in
        ap (λ (s : ℕ). get_or (slice_index_or now s []) p.page 0) same ∙ ap (λ (l : List ℕ). get_or l p.page 0) (get_or-set_same free id.store (set there id.page n) [] store)
        ∙ get_or-set_other there id.page p.page n 0 page ∙ ap (λ (s : ℕ). get_or (slice_index_or free s []) p.page 0) (sym same)
    | inr other ↦ ap (λ (l : List ℕ). get_or l p.page 0) (get_or-set_other free id.store p.store (set there id.page n) [] other)
  ]

-- the maps are as long as they were
pub same_lengths : (free : List (List ℕ)) (store : ℕ) (bounds : List ℕ) → length bounds ≡ length (slice_index_or free store []) → map length (set free store bounds) ≡ map length free
same_lengths [] store bounds same = refl
same_lengths (x ∷ free) zero bounds same = ap (λ (n : ℕ). n ∷ map length free) same
same_lengths (x ∷ free) (suc store) bounds same = ap (λ (l : List ℕ). length x ∷ l) (same_lengths free store bounds same)

-- a page of the volume has a bound
pub page_has_bound : (stores : List ℕ) (free : List (List ℕ)) (store page : ℕ) → map length free ≡ stores → IsSomeAnd (slice_get stores store) (λ pages. page < pages)
    → (store < length free) × (page < length (slice_index_or free store []))
page_has_bound stores free store page are has = each free store (subst (λ (l : List ℕ). IsSomeAnd (slice_get l store) (λ pages. page < pages)) (sym are) has)
  where
    each : (free : List (List ℕ)) (store : ℕ) → IsSomeAnd (slice_get (map length free) store) (λ pages. page < pages) → (store < length free) × (page < length (slice_index_or free store []))
    each [] store has = absurd has
    each (x ∷ free) zero has = (omega arith, has)
    each (x ∷ free) (suc store) has = let rest = each free store has in (omega (arith, rest.0), rest.1)

-- .. and behind the last page is none
pub page_is_there : (stores : List ℕ) (free : List (List ℕ)) (store page : ℕ) → map length free ≡ stores → page < length (slice_index_or free store []) → IsSomeAnd (slice_get stores store) (λ pages. page < pages)
page_is_there stores free store page are inside = subst (λ (l : List ℕ). IsSomeAnd (slice_get l store) (λ pages. page < pages)) are (each free store inside)
  where
    each : (free : List (List ℕ)) (store : ℕ) → page < length (slice_index_or free store []) → IsSomeAnd (slice_get (map length free) store) (λ pages. page < pages)
    each [] store inside = absurd (omega (arith, inside))
    each (x ∷ free) zero inside = inside
    each (x ∷ free) (suc store) inside = each free store inside

-- what a change of one bound does
pub record SetsBound (free new : List (List ℕ)) (id : PageId) (n : ℕ) : Type 0 where
  pub lengths : map length new ≡ map length free
  pub here : bound_of new id ≡ n
  pub others : (p : PageId) → p ≢ id → bound_of new p ≡ bound_of free p

pub sets_bound : (stores : List ℕ) (free : List (List ℕ)) (x y : ℕ) (id : PageId) (n : ℕ) (was bounds : List ℕ) → map length free ≡ stores → the_page x y ≡ id
    → IsSomeAnd (slice_get stores id.store) (λ pages. id.page < pages) → was ≡ get_or free x was → bounds ≡ set was y n → SetsBound free (set free x bounds) id n
sets_bound stores free x y id n was bounds are same has there is =
    let p = the_page x y in
    let inside = page_has_bound stores free x y are (subst (λ (q : PageId). IsSomeAnd (slice_get stores q.store) (λ pages. q.page < pages)) (sym same) has) in
    let was_is : was ≡ slice_index_or free x [] = there ∙ get_or_default free x was [] inside.0 in
    let bounds_is : bounds ≡ set (slice_index_or free x []) y n = is ∙ ap (λ (l : List ℕ). set l y n) was_is in
    let new_is : set free x (set (slice_index_or free x []) y n) ≡ set free x bounds = ap (set free x) (sym bounds_is) in
    subst (λ (q : PageId). SetsBound free (set free x bounds) q n) same (subst (λ (l : List (List ℕ)). SetsBound free l p n) new_is (record {
      lengths = same_lengths free x (set (slice_index_or free x []) y n) (length-set (slice_index_or free x []) y n);
      here = bound_here free p n inside.0 inside.1;
      others = bound_other free p n inside.0;
    }))

-- .. if it is lowered
pub sets_least : (stores : List ℕ) (free : List (List ℕ)) (x y : ℕ) (id : PageId) (n : ℕ) (was bounds : List ℕ) → map length free ≡ stores → the_page x y ≡ id
    → IsSomeAnd (slice_get stores id.store) (λ pages. id.page < pages) → was ≡ get_or free x was → bounds ≡ set was y (min (get_or was y 0) n) → SetsBound free (set free x bounds) id (min (bound_of free id) n)
sets_least stores free x y id n was bounds are same has there is =
    let p = the_page x y in
    let inside = page_has_bound stores free x y are (subst (λ (q : PageId). IsSomeAnd (slice_get stores q.store) (λ pages. q.page < pages)) (sym same) has) in
    let was_is : was ≡ slice_index_or free x [] = there ∙ get_or_default free x was [] inside.0 in
    let bound_is : get_or was y 0 ≡ bound_of free id = ap (λ (l : List ℕ). get_or l y 0) was_is ∙ ap (bound_of free) same in
    sets_bound stores free x y id (min (bound_of free id) n) was bounds are same has there (is ∙ ap (λ (k : ℕ). set was y (min k n)) bound_is)

-- ---- what the bounds say

module _ (g : Geometry) (free : List (List ℕ)) (S : PageId → List Slot) (are : AreBounds g free S) (id : PageId) where
  -- a record more
  pub bounds_put : (i : ℕ) (image : List ℕ) → Fits g.version (S id) i (length image) → AreBounds g free (with_slots S id (λ slots. with_image slots i (Some image)))
  bounds_put i image fits p bytes has up_to =
      let put : List Slot → List Slot = λ slots. with_image slots i (Some image) in
      elim (cases_page p id) [
        | inl same ↦ subst (λ (l : List Slot). TakesNone g.version l bytes) (sym (ap (with_slots S id put) same ∙ slots_here S id put)) (put_refuses g.version (S id) i bytes image fits (subst (λ (q : PageId). TakesNone g.version (S q) bytes) same (are p bytes has up_to)))
        | inr other ↦ subst (λ (l : List Slot). TakesNone g.version l bytes) (sym (slots_other S id put p other)) (are p bytes has up_to)
      ]

  pub bounds_put_image : (i : ℕ) (image : Image) → is_some image ≡ true → Fits g.version (S id) i (image_len image) → AreBounds g free (with_slots S id (λ slots. with_image slots i image))
  bounds_put_image i None is fits = let clash : false ≡ true = is in absurd cc
  bounds_put_image i (Some image) is fits = bounds_put i image fits

  -- nothing is known of the page any more
  pub bounds_forgot : (now : List (List ℕ)) (change : List Slot → List Slot) → bound_of now id ≡ 12001 → ((p : PageId) → p ≢ id → bound_of now p ≡ bound_of free p) → AreBounds g now (with_slots S id change)
  bounds_forgot now change here others p bytes has up_to = elim (cases_page p id) [
    | inl same ↦ refuses_longest g.version (with_slots S id change p) bytes (omega (arith, up_to, here, record_limit-most g.version, ap (bound_of now) same))
    | inr other ↦ subst (λ (l : List Slot). TakesNone g.version l bytes) (sym (slots_other S id change p other)) (are p bytes has (omega (arith, up_to, others p other)))
  ]

  -- the page refused a length
  pub bounds_refused : (now : List (List ℕ)) (least : ℕ) → bound_of now id ≡ min (bound_of free id) least → ((p : PageId) → p ≢ id → bound_of now p ≡ bound_of free p) → TakesNone g.version (S id) least → AreBounds g now S
  bounds_refused now least here others none p bytes has up_to = elim (cases_page p id) [
    | inl same ↦ elim (cases_lt bytes (bound_of free p)) [
      | inl below ↦ refuses_more g.version (S p) least bytes (omega (arith, up_to, here, below, ap (bound_of now) same, ap (bound_of free) same)) (subst (λ (q : PageId). TakesNone g.version (S q) least) (sym same) none)
      | inr from ↦ are p bytes has from
    ]
    | inr other ↦ are p bytes has (omega (arith, up_to, others p other))
  ]

-- at first nothing is known of any page
abbrev pub unknown : ℕ → List ℕ
unknown pages = replicate pages 12001

pub bounds_unknown : (g : Geometry) (S : PageId → List Slot) → AreBounds g (map unknown g.stores) S
bounds_unknown g S id bytes has up_to = refuses_longest g.version (S id) bytes (omega (arith, up_to, record_limit-most g.version, is g.stores id.store has))
  where
    in_page : (pages page : ℕ) → page < pages → get_or (unknown pages) page 0 ≡ 12001
    in_page zero page inside = absurd (omega arith)
    in_page (suc pages) zero inside = refl
    in_page (suc pages) (suc page) inside = in_page pages page (omega arith)

    is : (stores : List ℕ) (store : ℕ) → IsSomeAnd (slice_get stores store) (λ pages. id.page < pages) → get_or (slice_index_or (map unknown stores) store []) id.page 0 ≡ 12001
    is [] store has = absurd has
    is (x ∷ stores) zero has = in_page x id.page has
    is (x ∷ stores) (suc store) has = is stores store has

pub lengths_unknown : (stores : List ℕ) → map length (map unknown stores) ≡ stores
lengths_unknown [] = refl
lengths_unknown (x ∷ stores) = ap (λ (n : ℕ). n ∷ map length (map unknown stores)) (length-replicate x 12001) ∙ ap (λ (l : List ℕ). x ∷ l) (lengths_unknown stores)
