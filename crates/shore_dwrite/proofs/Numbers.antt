-- The number of a page is below the number of pages.
use Rattle.std.proofs.Common.{◌≡◌, ℕ, zero, suc, ◌+◌, ◌<◌, ◌≤◌, List, [], ◌∷◌, Option, IsSomeAnd, length, take, slice_get, get_or, Some, None, sum, refl, sym, inl, inr, ap, subst, ◌∙◌, arith}
use Rattle.std.proofs.lemmas.Bool.{cases_order}
use Rattle.std.proofs.lemmas.List.Sums.{sum_by-take-le, sum_by_more, sum_by_more_le}
use Rattle.std.proofs.lemmas.Option.{slice_get_within, get_or_from_slice_get}
use Rattle.shore_types.specs.Images.{Image}
use Rattle.shore_types.specs.Layout.{HasPage}
use Rattle.shore_types.specs.declared.ids.PageId.{PageId}
use Rattle.shore_types.specs.declared.layout.Geometry.{Geometry}
use Rattle.shore_page.specs.Text.{IsPageText}
use Rattle.shore_dwrite.specs.Volumes.{IsImageOf, page_number}
use Rattle.shore_dwrite.proofs.Overwrites.{take_again}

pub sum_more : (xs : List ℕ) (i : ℕ) → i < length xs → sum (take (i + 1) xs) ≡ sum (take i xs) + get_or xs i 0
sum_more xs i inside = sum_by_more (λ (n : ℕ). n) xs i 0 inside

pub sum_more_le : (xs : List ℕ) (i : ℕ) → i < length xs → sum (take i xs) + get_or xs i 0 ≤ sum xs
sum_more_le xs i inside = sum_by_more_le (λ (n : ℕ). n) xs i 0 inside

pub page_within : (stores : List ℕ) (store page : ℕ) → IsSomeAnd (slice_get stores store) (λ pages. page < pages) → (store < length stores) × (sum (take store stores) + page < sum stores)
page_within stores store page has = by_case (slice_get stores store) refl has
  where
    by_case : (found : Option ℕ) → slice_get stores store ≡ found → IsSomeAnd found (λ pages. page < pages) → (store < length stores) × (sum (take store stores) + page < sum stores)
    by_case (Some pages) is low =
        let inside = slice_get_within stores store pages is in
        (inside, omega (arith, sum_more_le stores store inside, get_or_from_slice_get stores store pages 0 is))
    by_case None is low = elim low [ ]

-- .. and its place is below the pages of its store
page_in_store : (stores : List ℕ) (store page : ℕ) → IsSomeAnd (slice_get stores store) (λ pages. page < pages) → page < get_or stores store 0
page_in_store stores store page has = by_case (slice_get stores store) refl has
  where
    by_case : (found : Option ℕ) → slice_get stores store ≡ found → IsSomeAnd found (λ pages. page < pages) → page < get_or stores store 0
    by_case (Some pages) is low = omega (arith, get_or_from_slice_get stores store pages 0 is)
    by_case None is low = elim low [ ]

pub take_all : (xs : List ℕ) (n : ℕ) → length xs ≤ n → take n xs ≡ xs
take_all [] zero long = refl
take_all [] (suc n) long = refl
take_all (x ∷ xs) zero long = absurd (omega arith)
take_all (x ∷ xs) (suc n) long = ap (λ (l : List ℕ). x ∷ l) (take_all xs n (omega arith))

sum_take_le : (xs : List ℕ) (i j : ℕ) → i ≤ j → sum (take i xs) ≤ sum (take j xs)
sum_take_le xs i j le = omega (arith, sum_by-take-le (λ (n : ℕ). n) (take j xs) i, ap sum (take_again i j xs le))

-- pages of a lower store have lower numbers
lower_store : (g : Geometry) (a b : PageId) → HasPage g a → a.store < b.store → page_number g a < page_number g b
lower_store g a b has lower =
    let inside = page_within g.stores a.store a.page has in
    let to_next = sum_take_le g.stores (a.store + 1) b.store (omega arith) in
    omega (arith, to_next, sum_more g.stores a.store inside.0, page_in_store g.stores a.store a.page has)

abbrev the_page : ℕ → ℕ → PageId
the_page store page = record { store = store; page = page }

-- no two pages have one number
pub one_page : (g : Geometry) (a b : PageId) → HasPage g a → HasPage g b → page_number g a ≡ page_number g b → a ≡ b
one_page g a b has_a has_b same = elim (cases_order a.store b.store) [
  | inl store ↦
      let sums : sum (take a.store g.stores) ≡ sum (take b.store g.stores) = ap (λ (n : ℕ). sum (take n g.stores)) store in
      let page : a.page ≡ b.page = omega (arith, same, sums) in
      ap (λ (n : ℕ). the_page n a.page) store ∙ ap (λ (n : ℕ). the_page b.store n) page
  | inr (inl less) ↦ absurd (omega (arith, lower_store g a b has_a less, same))
  | inr (inr more) ↦ absurd (omega (arith, lower_store g b a has_b more, same))
]

pub image_is : (g : Geometry) (k : ℕ) (id : PageId) (bytes : List ℕ) (number : ℕ) (images : List Image) → HasPage g id → page_number g id ≡ k → IsPageText g.version bytes id number images → IsImageOf g k bytes
image_is g k id bytes number images has number_is text = record { id = id; there = has; number = number_is; lsn = number; images = images; text = text }

-- the text of a page's number is that of the page
pub text_is_of : (g : Geometry) (k : ℕ) (id : PageId) (bytes : List ℕ) → HasPage g id → page_number g id ≡ k → (is : IsImageOf g k bytes) → IsPageText g.version bytes id is.lsn is.images
text_is_of g k id bytes has number_is is = subst (λ (p : PageId). IsPageText g.version bytes p is.lsn is.images) (one_page g is.id id is.there has (is.number ∙ sym number_is)) is.text
