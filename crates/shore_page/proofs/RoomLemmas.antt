-- What a change of one slot does to the claims and to the room of a page.
use Rattle.std.proofs.Common.{◌≡◌, ◌≢◌, ℕ, zero, suc, ◌+◌, ◌-◌, ◌*◌, ◌<◌, ◌≤◌, max, min, List, [], ◌∷◌, ◌++◌, length, get_or, replicate, Option, Some, None, inl, inr, refl, sym, ap, subst, ◌∙◌, arith}
use Rattle.std.proofs.Math.ListN.{set}
use Rattle.std.proofs.lemmas.List.{get_or_default, get_or-set_same, length-set, length-append, length-replicate, append-nil}
use Rattle.std.proofs.lemmas.List.Folds.{sum_by-replicate}
use Rattle.std.proofs.lemmas.List.Elements.{All-set, All-nil, All-cons, All-append, All-get_or}
use Rattle.std.proofs.lemmas.List.Sums.{sum_by-set, sum_by-append}
use Rattle.std.proofs.lemmas.Option.{slice_get_cases, slice_get_past, slice_get_read, slice_get-get_or}
use Rattle.std.specs.Option.{option_and_then, option_map_or}
use Rattle.std.specs.List.{slice_get, All}
use Rattle.shore_types.specs.declared.versions.Version.{Version}
use Rattle.shore_page.specs.Slots.{Slot, image_at_slot, with_change, with_slot, with_image, holding, settled}
use Rattle.shore_types.specs.Images.{image_len, Image}
use Rattle.shore_types.specs.Versions.{page_room, record_limit}
use Rattle.shore_page.specs.Room.{claims, claim_at, free_bytes, need, Fits, HasRoom, HoldsItsImage, KeepsClaims, ChangesOne, raised, lowered}

-- a change of one element sets it
pub with_change_set : {A : Type 0} (f : A → A) (xs : List A) (i : ℕ) (x y : A) → i < length xs → x ≡ get_or xs i x → y ≡ f x → set xs i y ≡ with_change f xs i
with_change_set f [] i x y inside here is = absurd (omega arith)
with_change_set f (z ∷ xs) zero x y inside here is = ap (λ w. w ∷ xs) (is ∙ ap f here)
with_change_set f (z ∷ xs) (suc i) x y inside here is = ap (λ ws. z ∷ ws) (with_change_set f xs i x y (omega arith) here is)

-- what is free is what the claims and the table leave
free_is : (v : Version) (slots : List Slot) → HasRoom v slots → free_bytes v slots + 4 * length slots + claims slots ≡ page_room v
free_is v slots kept = omega (arith, kept.room)

claim_is : (slots : List Slot) (i : ℕ) (x : Slot) → i < length slots → x ≡ get_or slots i x → claim_at slots i ≡ x.claim
claim_is slots i x inside here = rw (slice_get_read slots (length slots) i x refl inside here) refl

claims-set : (slots : List Slot) (i : ℕ) (x y : Slot) → i < length slots → x ≡ get_or slots i x → claims (set slots i y) + x.claim ≡ claims slots + y.claim
claims-set slots i x y inside here =
    let total = sum_by-set (λ (s : Slot). s.claim) slots i y x inside in
    ap (λ (s : Slot). claims (set slots i y) + s.claim) here ∙ total

-- a slot changed whose claim grows by what is free, at most
pub set_kept : (v : Version) (slots : List Slot) (claimed i : ℕ) (x y : Slot) → KeepsClaims v slots claimed → i < length slots → x ≡ get_or slots i x → HoldsItsImage v y
    → x.claim ≤ y.claim → y.claim - x.claim ≤ free_bytes v slots → KeepsClaims v (set slots i y) (claimed + (y.claim - x.claim))
set_kept v slots claimed i x y kept inside here holds grows fits =
    let total = claims-set slots i x y inside here in
    let len : length (set slots i y) ≡ length slots = length-set slots i y in
    let free = free_is v slots kept.room in
    record {
      sum = omega (arith, kept.sum);
      room = record { room = omega arith; each = All-set (HoldsItsImage v) slots i y holds kept.room.each };
    }

-- a slot changed whose claim does not grow
pub set_kept_less : (v : Version) (slots : List Slot) (claimed i : ℕ) (x y : Slot) → KeepsClaims v slots claimed → i < length slots → x ≡ get_or slots i x → HoldsItsImage v y
    → y.claim ≤ x.claim → KeepsClaims v (set slots i y) (claimed - (x.claim - y.claim))
set_kept_less v slots claimed i x y kept inside here holds falls =
    let total = claims-set slots i x y inside here in
    let len : length (set slots i y) ≡ length slots = length-set slots i y in
    let free = free_is v slots kept.room in
    record {
      sum = omega (arith, kept.sum);
      room = record { room = omega arith; each = All-set (HoldsItsImage v) slots i y holds kept.room.each };
    }

pub need_inside : (slots : List Slot) (i bytes : ℕ) (x : Slot) → i < length slots → x ≡ get_or slots i x → need slots i bytes ≡ bytes - x.claim
need_inside slots i bytes x inside here = omega (arith, claim_is slots i x inside here)

-- in a slot that is new
pub need_behind : (slots : List Slot) (i bytes : ℕ) → length slots ≤ i → need slots i bytes ≡ bytes + 4 * (i + 1 - length slots)
need_behind slots i bytes behind = rw (slice_get_past slots i behind) (omega arith)

-- an image in a slot that is there
pub hold_kept : (v : Version) (slots : List Slot) (claimed i : ℕ) (image : Image) (x y : Slot) → KeepsClaims v slots claimed → i < length slots → x ≡ get_or slots i x → y ≡ holding image x
    → Fits v slots i (image_len image) → KeepsClaims v (set slots i y) (claimed + (y.claim - x.claim))
hold_kept v slots claimed i image x y kept inside here is fits =
    let claim : y.claim ≡ max x.claim (image_len image) = ap (λ (s : Slot). s.claim) is in
    let held : image_len y.image ≡ image_len image = ap (λ (s : Slot). image_len s.image) is in
    let room : image_len image - x.claim ≤ free_bytes v slots = omega (arith, need_inside slots i (image_len image) x inside here, fits.room) in
    let old : HoldsItsImage v x = subst (HoldsItsImage v) (sym here) (All-get_or (HoldsItsImage v) slots i x inside kept.room.each) in
    set_kept v slots claimed i x y kept inside here (omega arith, omega (arith, fits.most, old.1)) (omega arith) (omega arith)

pub hold_one : (v : Version) (slots : List Slot) (claimed i : ℕ) (image : Image) (x y : Slot) → KeepsClaims v slots claimed → i < length slots → x ≡ get_or slots i x → y ≡ holding image x
    → Fits v slots i (image_len image) → ChangesOne v slots (set slots i y) i image
hold_one v slots claimed i image x y kept inside here is fits =
    let claim : y.claim ≡ max x.claim (image_len image) = ap (λ (s : Slot). s.claim) is in
    let total = claims-set slots i x y inside here in
    let free = free_is v slots kept.room in
    let new_free = free_is v (set slots i y) (hold_kept v slots claimed i image x y kept inside here is fits).room in
    let need_is = need_inside slots i (image_len image) x inside here in
    let len : length (set slots i y) ≡ length slots = length-set slots i y in
    let there : slice_get (set slots i y) i ≡ Some y = slice_get-get_or (set slots i y) i y (omega arith) ∙ ap (λ (s : Slot). Some s) (get_or-set_same slots i y y inside) in
    let old_claim = claim_is slots i x inside here in
    record {
      here = ap (λ (o : Option Slot). option_and_then (λ (s : Slot). s.image) o) there ∙ ap (λ (s : Slot). s.image) is;
      claim = ap (λ (o : Option Slot). option_map_or (λ (s : Slot). s.claim) o 0) there ∙ claim ∙ ap (λ (n : ℕ). max n (image_len image)) (sym old_claim);
      others = λ other apart. let same = set_others slots i y other apart in (
        ap (λ (o : Option Slot). option_and_then (λ (s : Slot). s.image) o) same,
        ap (λ (o : Option Slot). option_map_or (λ (s : Slot). s.claim) o 0) same,
      );
      stay = omega arith;
      taken = omega arith;
    }
  where
    set_others : (slots : List Slot) (i : ℕ) (y : Slot) (other : ℕ) → other ≢ i → slice_get (set slots i y) other ≡ slice_get slots other
    set_others [] i y other apart = refl
    set_others (z ∷ slots) zero y zero apart = absurd (apart refl)
    set_others (z ∷ slots) zero y (suc other) apart = refl
    set_others (z ∷ slots) (suc i) y zero apart = refl
    set_others (z ∷ slots) (suc i) y (suc other) apart = set_others slots i y other (λ (e : other ≡ i). apart (ap suc e))

-- ---- slots up to one

abbrev pub nothing : Slot
nothing = settled None

pub length-with_slot : (slots : List Slot) (i : ℕ) → length (with_slot slots i) ≡ max (length slots) (i + 1)
length-with_slot slots i = omega (arith, length-append slots (replicate (i + 1 - length slots) nothing), length-replicate (i + 1 - length slots) nothing)

pub with_slot_inside : (slots : List Slot) (i : ℕ) → i < length slots → with_slot slots i ≡ slots
with_slot_inside slots i inside =
    let none : i + 1 - length slots ≡ 0 = omega arith in
    ap (λ (n : ℕ). slots ++ replicate n nothing) none ∙ append-nil slots

pub claims-with_slot : (slots : List Slot) (i : ℕ) → claims (with_slot slots i) ≡ claims slots
claims-with_slot slots i =
    let n = i + 1 - length slots in
    let empties : claims (replicate n nothing) ≡ n * 0 = sum_by-replicate (λ (s : Slot). s.claim) n nothing in
    let all : claims (with_slot slots i) ≡ claims slots + claims (replicate n nothing) = sum_by-append (λ (s : Slot). s.claim) slots (replicate n nothing) in
    omega arith

-- what is in a slot, and its claim
new_at : (n other : ℕ) → (image_at_slot (replicate n nothing) other ≡ None) × (claim_at (replicate n nothing) other ≡ 0)
new_at zero other = (refl, refl)
new_at (suc n) zero = (refl, refl)
new_at (suc n) (suc other) = new_at n other

append_at : (slots : List Slot) (n other : ℕ) → (image_at_slot (slots ++ replicate n nothing) other ≡ image_at_slot slots other) × (claim_at (slots ++ replicate n nothing) other ≡ claim_at slots other)
append_at [] n other = new_at n other
append_at (s ∷ slots) n zero = (refl, refl)
append_at (s ∷ slots) n (suc other) = append_at slots n other

pub with_slot_room : (v : Version) (slots : List Slot) (i : ℕ) → HasRoom v slots → 4 * (i + 1 - length slots) ≤ free_bytes v slots → HasRoom v (with_slot slots i)
with_slot_room v slots i room fits = record {
  room = omega (arith, room.room, length-with_slot slots i, claims-with_slot slots i);
  each = All-append (HoldsItsImage v) slots (replicate (i + 1 - length slots) nothing) room.each (empty (i + 1 - length slots));
}
  where
    empty : (n : ℕ) → All (HoldsItsImage v) (replicate n nothing)
    empty zero = All-nil (HoldsItsImage v)
    empty (suc n) = All-cons (HoldsItsImage v) nothing (replicate n nothing) (omega arith, omega arith) (empty n)

pub with_slot_fits : (v : Version) (slots : List Slot) (i bytes : ℕ) → HasRoom v slots → Fits v slots i bytes → Fits v (with_slot slots i) i bytes
with_slot_fits v slots i bytes room fits =
    let claim = (append_at slots (i + 1 - length slots) i).1 in
    record {
      there = fits.there;
      most = fits.most;
      room = omega (arith, fits.room, room.room, length-with_slot slots i, claims-with_slot slots i);
    }

-- ---- an image that fits

-- what is at a slot that is there
get_here : (slots : List Slot) (i : ℕ) → i < length slots → get_or slots i nothing ≡ get_or slots i (get_or slots i nothing)
get_here slots i inside = get_or_default slots i nothing (get_or slots i nothing) inside

-- a change of one slot, as a list
pub with_change_is : (f : Slot → Slot) (slots : List Slot) (i : ℕ) → i < length slots → set slots i (f (get_or slots i nothing)) ≡ with_change f slots i
with_change_is f slots i inside = with_change_set f slots i (get_or slots i nothing) (f (get_or slots i nothing)) inside (get_here slots i inside) refl

pub changes_one : (v : Version) (slots : List Slot) (i : ℕ) (image : Image) → HasRoom v slots → Fits v slots i (image_len image) → ChangesOne v slots (with_image slots i image) i image
changes_one v slots i image room fits =
    let more = with_slot slots i in
    let len = length-with_slot slots i in
    let inside : i < length more = omega arith in
    let fits_more = with_slot_fits v slots i (image_len image) room fits in
    let kept : KeepsClaims v more (claims more) = record { sum = refl; room = with_slot_room v slots i room (omega (arith, fits.room)) } in
    let one : ChangesOne v more (with_image slots i image) i image = subst (λ (l : List Slot). ChangesOne v more l i image) (with_change_is (holding image) more i inside)
    (hold_one v more (claims more) i image (get_or more i nothing) (holding image (get_or more i nothing)) kept inside (get_here more i inside) refl fits_more) in
    let same = λ (other : ℕ). append_at slots (i + 1 - length slots) other in
    let claim_here = (same i).1 in
    record {
      here = one.here;
      claim = omega (arith, one.claim, claim_here);
      others = λ other apart. ((one.others other apart).0 ∙ (same other).0, (one.others other apart).1 ∙ (same other).1);
      stay = omega (arith, one.stay);
      taken = omega (arith, one.taken, claim_here, claims-with_slot slots i, room.room, fits.room);
    }

-- a page with an image that fits has room again
pub with_image_room : (v : Version) (slots : List Slot) (i : ℕ) (image : Image) → HasRoom v slots → Fits v slots i (image_len image) → HasRoom v (with_image slots i image)
with_image_room v slots i image room fits =
    let more = with_slot slots i in
    let len = length-with_slot slots i in
    let inside : i < length more = omega arith in
    let fits_more = with_slot_fits v slots i (image_len image) room fits in
    let kept : KeepsClaims v more (claims more) = record { sum = refl; room = with_slot_room v slots i room (omega (arith, fits.room)) } in
    subst (HasRoom v) (with_change_is (holding image) more i inside)
    (hold_kept v more (claims more) i image (get_or more i nothing) (holding image (get_or more i nothing)) kept inside (get_here more i inside) refl fits_more).room

-- no record is longer than records may be
pub record_short : (v : Version) (slots : List Slot) (i : ℕ) (bytes : List ℕ) → HasRoom v slots → image_at_slot slots i ≡ Some bytes → length bytes ≤ record_limit v
record_short v slots i bytes room is = elim (slice_get_cases slots i).1 [
  | inl found ↦
      let held : HoldsItsImage v found.0 = subst (HoldsItsImage v) found.3 (room.each i found.0 found.1) in
      let image : found.0.image ≡ Some bytes = sym (ap (λ (o : Option Slot). option_and_then (λ (s : Slot). s.image) o) found.2) ∙ is in
      let len = ap image_len image in
      omega (arith, held.0, held.1, len)
  | inr past ↦
      let clash : None ≡ Some bytes = sym (ap (λ (o : Option Slot). option_and_then (λ (s : Slot). s.image) o) past.1) ∙ is in
      absurd (none_is_some bytes clash)
]
  where
    none_is_some : (b : List ℕ) → None ≡ Some b → ⊥
    none_is_some b clash = cc
