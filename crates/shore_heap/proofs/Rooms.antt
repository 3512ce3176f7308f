-- What takes a record after a change has taken it before.
use Rattle.std.proofs.Common.{◌≡◌, ◌≢◌, ℕ, zero, suc, ◌+◌, ◌-◌, ◌<◌, ◌≤◌, max, List, [], ◌∷◌, ◌++◌, length, replicate, Some, None, refl, sym, ap, ◌∙◌, inl, inr, arith}
use Rattle.std.proofs.lemmas.Bool.{cases_lt}
use Rattle.shore_types.specs.Images.{Image, image_len}
use Rattle.shore_types.specs.declared.versions.Version.{Version}
use Rattle.shore_types.specs.Versions.{record_limit}
use Rattle.shore_page.specs.Slots.{Slot, image_at_slot, with_change, with_slot, with_image, holding, settled}
use Rattle.shore_page.specs.Room.{claims, claim_at, Fits, IsCandidate}
use Rattle.shore_page.proofs.Fitting.{IsSame, claims_changed, others_changed}
use Rattle.shore_page.proofs.RoomLemmas.{claims-with_slot, length-with_slot}
use Rattle.shore_page.proofs.UndoLemmas.{length-with_change}
use Rattle.shore_heap.specs.Contents.{TakesNone}

-- ---- one slot changed

claim_held : (image : Image) (slots : List Slot) (i : ℕ) → i < length slots → claim_at (with_change (holding image) slots i) i ≡ max (claim_at slots i) (image_len image)
claim_held image [] i inside = absurd (omega arith)
claim_held image (s ∷ slots) zero inside = refl
claim_held image (s ∷ slots) (suc i) inside = claim_held image slots i (omega arith)

image_held : (image : Image) (slots : List Slot) (i : ℕ) → i < length slots → image_at_slot (with_change (holding image) slots i) i ≡ image
image_held image [] i inside = absurd (omega arith)
image_held image (s ∷ slots) zero inside = refl
image_held image (s ∷ slots) (suc i) inside = image_held image slots i (omega arith)

-- ---- slots up to one

new_at : (n other : ℕ) → IsSame [] (replicate n (settled None)) other
new_at zero other = (refl, refl)
new_at (suc n) zero = (refl, refl)
new_at (suc n) (suc other) = new_at n other

append_at : (slots : List Slot) (n other : ℕ) → IsSame slots (slots ++ replicate n (settled None)) other
append_at [] n other = new_at n other
append_at (s ∷ slots) n zero = (refl, refl)
append_at (s ∷ slots) n (suc other) = append_at slots n other

-- ---- a record put into a slot

module _ (v : Version) (slots : List Slot) (i : ℕ) (image : Image) where
  abbrev more : List Slot
  more = with_slot slots i

  abbrev now : List Slot
  now = with_image slots i image

  inside : i < length more
  inside = omega (arith, length-with_slot slots i)

  -- what is put into a slot is there
  pub put_here : image_at_slot now i ≡ image
  put_here = image_held image more i inside

  put_others : (other : ℕ) → other ≢ i → IsSame slots now other
  put_others other apart =
      let one = others_changed (holding image) more i other apart in
      let two = append_at slots (i + 1 - length slots) other in
      (one.0 ∙ two.0, one.1 ∙ two.1)

  -- what still fits fitted before
  pub fitted : Fits v slots i (image_len image) → (other bytes : ℕ) → other ≢ i → Fits v now other bytes → Fits v slots other bytes
  fitted fits other bytes apart later = record {
    there = later.there;
    most = later.most;
    room =
        let len : length now ≡ max (length slots) (i + 1) = length-with_change (holding image) more i ∙ length-with_slot slots i in
        let here : claim_at more i ≡ claim_at slots i = (append_at slots (i + 1 - length slots) i).1 in
        let sum : claims now + claim_at more i ≡ claims more + claim_at now i = claims_changed (holding image) more i inside in
        let held : claim_at now i ≡ max (claim_at more i) (image_len image) = claim_held image more i inside in
        let all : claims more ≡ claims slots = claims-with_slot slots i in
        let same : claim_at now other ≡ claim_at slots other = (put_others other apart).1 in
        omega (arith, fits.room, later.room);
  }

-- a page that refused a length refuses it with one record more
pub put_refuses : (v : Version) (slots : List Slot) (i bytes : ℕ) (image : List ℕ) → Fits v slots i (length image) → TakesNone v slots bytes → TakesNone v (with_image slots i (Some image)) bytes
put_refuses v slots i bytes image fits none other empty later =
    let apart : other ≢ i = λ same. let clash : None ≡ Some image = sym empty ∙ ap (image_at_slot (with_image slots i (Some image))) same ∙ put_here v slots i (Some image) in cc in
    none other (sym (put_others v slots i (Some image) other apart).0 ∙ empty) (fitted v slots i (Some image) fits other bytes apart later)

-- a page that refused a length refuses a greater one
pub refuses_more : (v : Version) (slots : List Slot) (least bytes : ℕ) → least ≤ bytes → TakesNone v slots least → TakesNone v slots bytes
refuses_more v slots least bytes le none slot empty fits = none slot empty (record { there = fits.there; most = omega (arith, fits.most); room = omega (arith, fits.room) })

-- no page takes more than the longest record
pub refuses_longest : (v : Version) (slots : List Slot) (bytes : ℕ) → record_limit v < bytes → TakesNone v slots bytes
refuses_longest v slots bytes over slot empty fits = absurd (omega (arith, fits.most))

-- what fits a slot behind the last fits each one before it that is behind the last
fits_nearer : (v : Version) (slots : List Slot) (near far bytes : ℕ) → length slots ≤ near → near ≤ far → Fits v slots far bytes → Fits v slots near bytes
fits_nearer v slots near far bytes behind before fits =
    let none = past slots far (omega (arith, behind, before)) in
    let here = past slots near behind in
    record { there = omega (arith, fits.there, before); most = fits.most; room = omega (arith, fits.room, behind, before) }
  where
    past : (slots : List Slot) (slot : ℕ) → length slots ≤ slot → claim_at slots slot ≡ 0
    past [] slot behind = refl
    past (s ∷ slots) zero behind = absurd (omega arith)
    past (s ∷ slots) (suc slot) behind = past slots slot (omega arith)

-- a slot behind the last is empty
past : (slots : List Slot) (slot : ℕ) → length slots ≤ slot → image_at_slot slots slot ≡ None
past [] slot behind = refl
past (s ∷ slots) zero behind = absurd (omega arith)
past (s ∷ slots) (suc slot) behind = past slots slot (omega arith)

-- a page with no candidate refuses the length
pub no_candidate : (v : Version) (slots : List Slot) (bytes : ℕ) → ((slot : ℕ) → 0 ≤ slot → IsCandidate v slots slot bytes → ⊥) → TakesNone v slots bytes
no_candidate v slots bytes none slot empty fits = elim (cases_lt (length slots) slot) [
  | inl far ↦ none (length slots) (omega arith) (record { there = omega arith; empty = past slots (length slots) (omega arith); fits = fits_nearer v slots (length slots) slot bytes (omega arith) (omega (arith, far)) fits })
  | inr there ↦ none slot (omega arith) (record { there = there; empty = empty; fits = fits })
]
