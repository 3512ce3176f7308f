-- What is in the slots of a frame when one is changed.
use Rattle.std.proofs.Common.{◌≡◌, ◌≢◌, inl, inr, ◌+◌, ◌-◌, ◌<◌, ℕ, zero, suc, List, [], ◌∷◌, ◌++◌, true, cond, None, length, max, replicate, refl, sym, ap, subst, ◌∙◌, arith}
use Rattle.std.specs.Prelude.{slice_index_or}
use Rattle.std.specs.Ordering.{eq_by_cmp}
use Rattle.std.proofs.lemmas.Bool.{cases_Bool, cases_eq}
use Rattle.std.proofs.lemmas.List.{length-map}
use Rattle.shore_types.specs.Ids.{rid_cmp}
use Rattle.shore_types.specs.Images.{Image}
use Rattle.shore_types.specs.declared.ids.PageId.{PageId}
use Rattle.shore_types.specs.declared.ids.Rid.{Rid}
use Rattle.shore_page.specs.Slots.{Slot, holding, settled, with_change, with_image, with_slot}
use Rattle.shore_page.specs.Text.{images_of}
use Rattle.shore_page.proofs.RoomLemmas.{length-with_slot}
use Rattle.laws_lives.specs.Pages.{rid_on, slots_with}
use Rattle.laws_lives.proofs.OneMore.{id_itself, same_id}

-- the image in a slot
abbrev pub image_in_slot : List Slot → ℕ → Image
image_in_slot slots j = slice_index_or (images_of slots) j None

length-with_change : (f : Slot → Slot) (slots : List Slot) (i : ℕ) → length (with_change f slots i) ≡ length slots
length-with_change f [] i = refl
length-with_change f (s ∷ slots) zero = refl
length-with_change f (s ∷ slots) (suc i) = ap suc (length-with_change f slots i)

pub count-with_image : (slots : List Slot) (i : ℕ) (image : Image) → length (images_of (with_image slots i image)) ≡ max (length (images_of slots)) (i + 1)
count-with_image slots i image =
    length-map (with_image slots i image) (λ s. s.image) ∙ length-with_change (holding image) (with_slot slots i) i ∙ length-with_slot slots i
    ∙ ap (λ (n : ℕ). max n (i + 1)) (sym (length-map slots (λ s. s.image)))

changed_here : (image : Image) (slots : List Slot) (i : ℕ) → i < length slots → image_in_slot (with_change (holding image) slots i) i ≡ image
changed_here image [] i low = absurd (omega arith)
changed_here image (s ∷ slots) zero low = refl
changed_here image (s ∷ slots) (suc i) low = changed_here image slots i (omega arith)

changed_there : (image : Image) (slots : List Slot) (i j : ℕ) → j ≢ i → image_in_slot (with_change (holding image) slots i) j ≡ image_in_slot slots j
changed_there image [] i j other = refl
changed_there image (s ∷ slots) zero zero other = absurd (other refl)
changed_there image (s ∷ slots) zero (suc j) other = refl
changed_there image (s ∷ slots) (suc i) zero other = refl
changed_there image (s ∷ slots) (suc i) (suc j) other = changed_there image slots i j (λ same. other (ap suc same))

none_in : (n j : ℕ) → image_in_slot (replicate n (settled None)) j ≡ None
none_in zero j = refl
none_in (suc n) zero = refl
none_in (suc n) (suc j) = none_in n j

more_slots : (slots : List Slot) (n j : ℕ) → image_in_slot (slots ++ replicate n (settled None)) j ≡ image_in_slot slots j
more_slots [] n j = none_in n j
more_slots (s ∷ slots) n zero = refl
more_slots (s ∷ slots) n (suc j) = more_slots slots n j

-- .. as the log speaks of it
pub image-with_image : (p : PageId) (before : ℕ → Image) (id : Rid) (slots : List Slot) (image : Image) → p ≡ id.page → ((i : ℕ) → before i ≡ image_in_slot slots i)
    → (j : ℕ) → slots_with p before id image j ≡ image_in_slot (with_image slots id.slot image) j
image-with_image p before id slots image page has j = elim (cases_eq j id.slot) [
  | inl same ↦
      let long = length-with_slot slots id.slot in
      let equal : eq_by_cmp rid_cmp (rid_on p j) id ≡ true = subst (λ (q : Rid). eq_by_cmp rid_cmp q id ≡ true) (sym (ap (λ (q : PageId). rid_on q j) page ∙ ap (rid_on id.page) same)) (id_itself id) in
      ap (λ b. cond b image (before j)) equal
      ∙ sym (ap (image_in_slot (with_image slots id.slot image)) same ∙ changed_here image (with_slot slots id.slot) id.slot (omega arith))
  | inr other ↦ elim (cases_Bool (eq_by_cmp rid_cmp (rid_on p j) id)) [
    | inl equal ↦ absurd (other (ap (λ (q : Rid). q.slot) (same_id (rid_on p j) id equal)))
    | inr apart ↦ ap (λ b. cond b image (before j)) apart ∙ has j
        ∙ sym (changed_there image (with_slot slots id.slot) id.slot j other ∙ more_slots slots (id.slot + 1 - length slots) j)
  ]
]
