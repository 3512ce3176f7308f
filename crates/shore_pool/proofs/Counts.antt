-- No more pages are dirty than there are frames.
use Rattle.std.proofs.Common.{◌≡◌, ◌<◌, ◌≤◌, ◌+◌, ◌||◌, Bool, ℕ, zero, suc, List, [], ◌∷◌, Contains, Option, None, Some, cond, count_by, is_some, length, option_map, slice_index_or, true, false, refl, sym, ap, subst, ◌∙◌, arith}
use Rattle.std.specs.Prelude.{option_to_list}
use Rattle.std.specs.Bool.{nat_eq}
use Rattle.std.specs.List.{AllByRecursion, IsDistinct}
use Rattle.std.specs.Option.{option_and_then}
use Rattle.std.specs.Set.{is_member}
use Rattle.std.proofs.lemmas.Cmp.{nat_eq_equiv}
use Rattle.std.proofs.lemmas.List.{length-append}
use Rattle.std.proofs.lemmas.List.Elements.{Contains-append_right}
use Rattle.std.proofs.lemmas.List.Sums.{sum_by-cons}
use Rattle.std.proofs.lemmas.Map.Made.{length-le_from_is_member}
use Rattle.std.proofs.lemmas.Map.Views.{list_any-from_Contains}
use Rattle.slab.specs.Slab.{Slab, get, slab_len}
use Rattle.shore_model.specs.declared.log_records.DirtyPage.{DirtyPage}
use Rattle.shore_pool.specs.declared.frame.Frame.{Frame}
use Rattle.shore_pool.specs.FrameMaps.{dirty_below, dirty_entry, dirty_page}
use Rattle.shore_pool.specs.Frames.{IsIndexed, frame_in, key_at}

-- ---- the numbers of the pages in frames

abbrev numbers_in : List (Option Frame) → List ℕ
numbers_in [] = []
numbers_in (None ∷ rest) = numbers_in rest
numbers_in (Some f ∷ rest) = f.number ∷ numbers_in rest

one_each : (slots : List (Option Frame)) → length (numbers_in slots) ≡ count_by is_some slots
one_each [] = refl
one_each (None ∷ rest) = omega (arith, one_each rest, sum_by-cons (λ (o : Option Frame). cond (is_some o) 1 0) None rest)
one_each (Some f ∷ rest) = omega (arith, one_each rest, sum_by-cons (λ (o : Option Frame). cond (is_some o) 1 0) (Some f) rest)

has_number : (slots : List (Option Frame)) (key : ℕ) (f : Frame) → slice_index_or slots key None ≡ Some f → Contains (numbers_in slots) f.number
has_number [] key f is = absurd (cc)
has_number (None ∷ rest) zero f is = absurd (cc)
has_number (Some g ∷ rest) zero f is = let same : g ≡ f = cc in (0, omega arith, ap (λ (h : Frame). h.number) same)
has_number (None ∷ rest) (suc key) f is = has_number rest key f is
has_number (Some g ∷ rest) (suc key) f is = Contains-append_right (g.number ∷ []) (numbers_in rest) f.number (has_number rest key f is)

-- ---- those of the dirty pages, the greatest first

abbrev with_number : ℕ → Option DirtyPage → List ℕ → List ℕ
with_number n None numbers = numbers
with_number n (Some e) numbers = n ∷ numbers

abbrev dirty_numbers : (ℕ → Option Frame) → ℕ → List ℕ
dirty_numbers at zero = []
dirty_numbers at (suc n) = with_number n (dirty_entry (at n)) (dirty_numbers at n)

one_more : (n : ℕ) (entry : Option DirtyPage) (numbers : List ℕ) → length (with_number n entry numbers) ≡ length numbers + length (option_to_list entry)
one_more n None numbers = omega arith
one_more n (Some e) numbers = omega arith

as_many : (at : ℕ → Option Frame) (n : ℕ) → length (dirty_numbers at n) ≡ length (dirty_below at n)
as_many at zero = refl
as_many at (suc n) =
    omega (arith, one_more n (dirty_entry (at n)) (dirty_numbers at n), as_many at n, length-append (dirty_below at n) (option_to_list (dirty_entry (at n))))

-- a number of the list is that of a dirty page
abbrev IsNumber : (ℕ → Option Frame) → ℕ → ℕ → Type 0
IsNumber at n k = (k < n) × (f : Frame) × (at k ≡ Some f)

found_later : (at : ℕ → Option Frame) (n : ℕ) (numbers : List ℕ) → AllByRecursion (IsNumber at n) numbers → AllByRecursion (IsNumber at (suc n)) numbers
found_later at n [] each = tt
found_later at n (k ∷ rest) each = ((let less = each.0.0 in omega (arith, less), each.0.1, each.0.2), found_later at n rest each.1)

all_found : (at : ℕ → Option Frame) (n : ℕ) → AllByRecursion (IsNumber at n) (dirty_numbers at n)
all_found at zero = tt
all_found at (suc n) = here (at n) refl (found_later at n (dirty_numbers at n) (all_found at n))
  where
    mine : (f : Frame) → at n ≡ Some f → (r : Option ℕ) → AllByRecursion (IsNumber at (suc n)) (dirty_numbers at n)
        → AllByRecursion (IsNumber at (suc n)) (with_number n (option_map (dirty_page f) r) (dirty_numbers at n))
    mine f is None each = each
    mine f is (Some recovery) each = ((omega arith, f, is), each)

    here : (slot : Option Frame) → at n ≡ slot → AllByRecursion (IsNumber at (suc n)) (dirty_numbers at n)
        → AllByRecursion (IsNumber at (suc n)) (with_number n (dirty_entry slot) (dirty_numbers at n))
    here None is each = each
    here (Some f) is each = mine f is f.recovery each

other_number : (n k : ℕ) → k < n → nat_eq n k ≡ false
other_number n k less = grind (arith, less)

apart : (at : ℕ → Option Frame) (n : ℕ) (numbers : List ℕ) → AllByRecursion (IsNumber at n) numbers → AllByRecursion (λ (k : ℕ). nat_eq n k ≡ false) numbers
apart at n [] each = tt
apart at n (k ∷ rest) each = (other_number n k each.0.0, apart at n rest each.1)

all_apart : (at : ℕ → Option Frame) (n : ℕ) → IsDistinct nat_eq (dirty_numbers at n)
unfolding IsDistinct
all_apart at zero = tt
all_apart at (suc n) = here (dirty_entry (at n)) (all_apart at n)
  where
    here : (entry : Option DirtyPage) → IsDistinct nat_eq (dirty_numbers at n) → IsDistinct nat_eq (with_number n entry (dirty_numbers at n))
    here None below = below
    here (Some e) below = (apart at n (dirty_numbers at n) (all_found at n), below)

-- ---- each of them is one of these

module _ (slots : Slab Frame) (table : List (Option ℕ)) (indexed : IsIndexed slots table) where
  is_one : (k : ℕ) (f : Frame) → frame_in slots table k ≡ Some f → is_member nat_eq (numbers_in slots.slots) k ≡ true
  is_one k f is = by_key (key_at table k) refl is
    where
      by_key : (key : Option ℕ) → key_at table k ≡ key → option_and_then (get slots) key ≡ Some f → is_member nat_eq (numbers_in slots.slots) k ≡ true
      by_key None at there = absurd (cc)
      by_key (Some key) at there =
          let named : Some f.number ≡ Some k = sym (ap (option_map (λ (g : Frame). g.number)) there) ∙ indexed.there key k at in
          let same : f.number ≡ k = cc in
          list_any-from_Contains nat_eq_equiv k (numbers_in slots.slots) (subst (Contains (numbers_in slots.slots)) same (has_number slots.slots key f there))

  members : (n : ℕ) (numbers : List ℕ) → AllByRecursion (IsNumber (frame_in slots table) n) numbers → (q : ℕ) → is_member nat_eq numbers q ≡ true
      → is_member nat_eq (numbers_in slots.slots) q ≡ true
  members n [] each q is = absurd (cc)
  members n (k ∷ rest) each q is = by_first (nat_eq q k) refl (members n rest each.1 q) is
    where
      by_first : (b : Bool) → nat_eq q k ≡ b → (is_member nat_eq rest q ≡ true → is_member nat_eq (numbers_in slots.slots) q ≡ true) → (b || is_member nat_eq rest q) ≡ true
          → is_member nat_eq (numbers_in slots.slots) q ≡ true
      by_first true same later or = let equal : q ≡ k = grind (arith, same) in subst (λ (j : ℕ). is_member nat_eq (numbers_in slots.slots) j ≡ true) (sym equal) (is_one k each.0.1 each.0.2)
      by_first false other later or = later or

  pub no_more_dirty : (n : ℕ) → length (dirty_below (frame_in slots table) n) ≤ slab_len slots
  no_more_dirty n =
      let few = length-le_from_is_member nat_eq_equiv (dirty_numbers (frame_in slots table) n) (numbers_in slots.slots) (all_apart (frame_in slots table) n)
      (members n (dirty_numbers (frame_in slots table) n) (all_found (frame_in slots table) n)) in
      omega (arith, few, as_many (frame_in slots table) n, one_each slots.slots)
