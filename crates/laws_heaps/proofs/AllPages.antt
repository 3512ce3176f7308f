-- A list of all pages of a geometry.
use Rattle.std.proofs.Common.{◌≡◌, ◌⊎◌, inl, inr, ◌+◌, ◌<◌, ℕ, zero, suc, List, [], ◌∷◌, ◌++◌, Option, None, Some, IsSomeAnd, slice_get, ap, subst, arith}
use Rattle.std.proofs.lemmas.Bool.{cases_eq, cases_lt}
use Rattle.shore_types.specs.Layout.{HasPage}
use Rattle.shore_types.specs.declared.ids.PageId.{PageId}
use Rattle.shore_types.specs.declared.layout.Geometry.{Geometry}
use Rattle.laws_lives.specs.Views.{IsAmong}

abbrev pub the_page : ℕ → ℕ → PageId
the_page store page = record { store = store; page = page }

-- the first n pages of a store
pages_in : ℕ → ℕ → List PageId
pages_in store zero = []
pages_in store (suc n) = the_page store n ∷ pages_in store n

-- those of stores with so many pages, from the store of a number on
pages_from : ℕ → List ℕ → List PageId
pages_from first [] = []
pages_from first (n ∷ ns) = pages_in first n ++ pages_from (suc first) ns

pub all_pages : Geometry → List PageId
all_pages g = pages_from 0 g.stores

-- ---- each is there

module _ {A : Type 0} (x : A) where
  in_front : (xs ys : List A) → IsAmong x xs → IsAmong x (xs ++ ys)
  in_front [] ys is = absurd is
  in_front (y ∷ xs) ys (inl here) = inl here
  in_front (y ∷ xs) ys (inr there) = inr (in_front xs ys there)

  behind : (xs ys : List A) → IsAmong x ys → IsAmong x (xs ++ ys)
  behind [] ys is = is
  behind (y ∷ xs) ys is = inr (behind xs ys is)

in_store : (store n page : ℕ) → page < n → IsAmong (the_page store page) (pages_in store n)
unfolding pages_in
in_store store zero page low = absurd (omega arith)
in_store store (suc n) page low = elim (cases_eq n page) [
  | inl same ↦ inl (ap (the_page store) same)
  | inr other ↦ inr (in_store store n page (omega arith))
]

from_store : (first i : ℕ) (stores : List ℕ) (page : ℕ) → IsSomeAnd (slice_get stores i) (λ pages. page < pages) → IsAmong (the_page (first + i) page) (pages_from first stores)
unfolding pages_from
from_store first i [] page has = absurd has
from_store first zero (n ∷ ns) page has =
    let at : first ≡ first + zero = omega arith in
    in_front (the_page (first + zero) page) (pages_in first n) (pages_from (suc first) ns) (subst (λ (k : ℕ). IsAmong (the_page k page) (pages_in first n)) at (in_store first n page has))
from_store first (suc i) (n ∷ ns) page has =
    let at : suc first + i ≡ first + suc i = omega arith in
    behind (the_page (first + suc i) page) (pages_in first n) (pages_from (suc first) ns) (subst (λ (k : ℕ). IsAmong (the_page k page) (pages_from (suc first) ns)) at (from_store (suc first) i ns page has))

pub page_among : (g : Geometry) (p : PageId) → HasPage g p → IsAmong p (all_pages g)
unfolding all_pages
page_among g p has =
    let at : 0 + p.store ≡ p.store = omega arith in
    subst (λ (k : ℕ). IsAmong (the_page k p.page) (pages_from 0 g.stores)) at (from_store 0 p.store g.stores p.page has)

-- ---- whether a page is there

pub has_or_not : (g : Geometry) (p : PageId) → HasPage g p ⊎ (HasPage g p → ⊥)
has_or_not g p = each (slice_get g.stores p.store)
  where
    each : (o : Option ℕ) → IsSomeAnd o (λ pages. p.page < pages) ⊎ (IsSomeAnd o (λ pages. p.page < pages) → ⊥)
    each None = inr (λ has. has)
    each (Some n) = elim (cases_lt p.page n) [ inl low ↦ inl low | inr high ↦ inr (λ has. absurd (omega arith)) ]
