-- Claims that a page has room for all together fit one after another.
use Rattle.std.proofs.Common.{◌≡◌, ◌≢◌, ◌<◌, ◌≤◌, ◌+◌, ◌*◌, ℕ, zero, suc, max, List, [], ◌∷◌, Option, length, map, refl, ap, subst, ◌∙◌, inl, inr, arith}
use Rattle.std.specs.Option.{option_map_or}
use Rattle.std.proofs.lemmas.Bool.{cases_eq}
use Rattle.std.proofs.lemmas.Option.{slice_get_cases}
use Rattle.shore_types.specs.declared.versions.Version.{Version}
use Rattle.shore_page.specs.Room.{Fits, HasRoom, HoldsItsImage, claim_at, claims, raised}
use Rattle.std.proofs.lemmas.List.Sums.{sum_by-cons}
use Rattle.shore_page.specs.Slots.{Slot, image_at_slot, settled, with_change}
use Rattle.shore_page.proofs.UndoLemmas.{length-with_change}
use Rattle.shore_types.specs.Images.{Image}
use Rattle.shore_types.specs.Versions.{page_room, record_limit, slot_limit}
use Rattle.shore_page.specs.Claims.{AreThere, FitIn, claimed_by}

-- ---- one slot changed

abbrev claim_of : Slot → ℕ
claim_of s = s.claim

pub claims_changed : (f : Slot → Slot) (slots : List Slot) (i : ℕ) → i < length slots → claims (with_change f slots i) + claim_at slots i ≡ claims slots + claim_at (with_change f slots i) i
claims_changed f [] i inside = absurd (omega arith)
claims_changed f (s ∷ slots) zero inside =
    let new : claims (f s ∷ slots) ≡ claim_of (f s) + claims slots = sum_by-cons claim_of (f s) slots in
    let old : claims (s ∷ slots) ≡ claim_of s + claims slots = sum_by-cons claim_of s slots in
    omega arith
claims_changed f (s ∷ slots) (suc i) inside =
    let new : claims (s ∷ with_change f slots i) ≡ claim_of s + claims (with_change f slots i) = sum_by-cons claim_of s (with_change f slots i) in
    let old : claims (s ∷ slots) ≡ claim_of s + claims slots = sum_by-cons claim_of s slots in
    omega (arith, claims_changed f slots i (omega arith))

abbrev pub IsSame : List Slot → List Slot → ℕ → Type 0
IsSame old new i = (image_at_slot new i ≡ image_at_slot old i) × (claim_at new i ≡ claim_at old i)

pub others_changed : (f : Slot → Slot) (slots : List Slot) (i other : ℕ) → other ≢ i → IsSame slots (with_change f slots i) other
others_changed f [] i other apart = (refl, refl)
others_changed f (s ∷ slots) zero zero apart = absurd (apart refl)
others_changed f (s ∷ slots) zero (suc other) apart = (refl, refl)
others_changed f (s ∷ slots) (suc i) zero apart = (refl, refl)
others_changed f (s ∷ slots) (suc i) (suc other) apart = others_changed f slots i other (λ (e : other ≡ i). apart (ap suc e))

-- ---- claims one after another

-- what room asks of claims alone
pub record IsWithin (v : Version) (slots : List Slot) : Type 0 where
  pub sum : 4 * length slots + claims slots ≤ page_room v
  pub each : (i : ℕ) → claim_at slots i ≤ record_limit v

claim_raised : (v : Version) (bytes : ℕ) (slots : List Slot) (i : ℕ) → i < length slots → claim_at (with_change (raised bytes) slots i) i ≡ max (claim_at slots i) bytes
claim_raised v bytes [] i inside = absurd (omega (arith, inside))
claim_raised v bytes (s ∷ slots) zero inside = refl
claim_raised v bytes (s ∷ slots) (suc i) inside = claim_raised v bytes slots i (omega (arith, inside))

module _ (v : Version) (slots : List Slot) (i bytes : ℕ) (inside : i < length slots) (later : IsWithin v (with_change (raised bytes) slots i)) where
  long : length (with_change (raised bytes) slots i) ≡ length slots
  long = length-with_change (raised bytes) slots i

  within_before : IsWithin v slots
  within_before = record {
    sum = omega (arith, later.sum, long, claims_changed (raised bytes) slots i inside, claim_raised v bytes slots i inside);
    each = λ j. elim (cases_eq j i) [
      | inl same ↦ omega (arith, later.each i, claim_raised v bytes slots i inside, ap (claim_at slots) same)
      | inr apart ↦ omega (arith, later.each j, (others_changed (raised bytes) slots i j apart).1)
    ];
  }

  fits_before : length slots ≤ slot_limit v → Fits v slots i bytes
  fits_before few = record {
    there = omega (arith, inside, few);
    most = omega (arith, later.each i, claim_raised v bytes slots i inside);
    room = omega (arith, later.sum, long, claims_changed (raised bytes) slots i inside, claim_raised v bytes slots i inside, inside);
  }

pub length-claimed : (kept : List (ℕ × ℕ)) (slots : List Slot) → length (claimed_by kept slots) ≡ length slots
length-claimed [] slots = refl
length-claimed (c ∷ kept) slots = length-with_change (raised c.1) (claimed_by kept slots) c.0 ∙ length-claimed kept slots

pub fit_within : (v : Version) (kept : List (ℕ × ℕ)) (slots : List Slot) → length slots ≤ slot_limit v → AreThere (length slots) kept → IsWithin v (claimed_by kept slots) → FitIn v kept slots
fit_within v [] slots few there within = tt
fit_within v (c ∷ kept) slots few there within =
    let long = length-claimed kept slots in
    let inside : c.0 < length (claimed_by kept slots) = omega (arith, there.0, long) in
    (inside, fits_before v (claimed_by kept slots) c.0 c.1 inside within (omega (arith, few, long)), fit_within v kept slots few there.1 (within_before v (claimed_by kept slots) c.0 c.1 inside within))

pub fit_in_room : (v : Version) (kept : List (ℕ × ℕ)) (images : List Image) → length images ≤ slot_limit v → AreThere (length (map settled images)) kept → HasRoom v (claimed_by kept (map settled images)) → FitIn v kept (map settled images)
fit_in_room v kept images few there room = fit_within v kept (map settled images) (omega (arith, few, long images)) there (record { sum = room.room; each = each })
  where
    long : (l : List Image) → length (map settled l) ≡ length l
    long [] = refl
    long (x ∷ l) = ap suc (long l)

    all : List Slot
    all = claimed_by kept (map settled images)

    each : (i : ℕ) → claim_at all i ≤ record_limit v
    each i = elim (slice_get_cases all i).1 [
      | inl found ↦
          let held : HoldsItsImage v found.0 = subst (HoldsItsImage v) found.3 (room.each i found.0 found.1) in
          let claim : claim_at all i ≡ found.0.claim = ap (λ (o : Option Slot). option_map_or (λ (s : Slot). s.claim) o 0) found.2 in
          omega (arith, held.1, claim)
      | inr past ↦
          let none : claim_at all i ≡ 0 = ap (λ (o : Option Slot). option_map_or (λ (s : Slot). s.claim) o 0) past.1 in
          omega (arith, none)
    ]
