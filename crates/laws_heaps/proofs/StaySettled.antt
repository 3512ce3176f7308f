-- Frames whose slots claim what their records take.
use Rattle.std.proofs.Common.{◌≡◌, inl, inr, ◌+◌, ◌-◌, ℕ, zero, suc, List, [], ◌∷◌, ◌++◌, Option, None, Some, length, map, max, min, option_map, replicate, refl, sym, ap, subst, ◌∙◌, arith}
use Rattle.std.proofs.lemmas.Bool.{cases_eq}
use Rattle.shore_disk.specs.declared.device.Disk.{Ghosts}
use Rattle.shore_types.specs.Images.{Image, image_len}
use Rattle.shore_types.specs.declared.ids.PageId.{PageId}
use Rattle.shore_types.specs.declared.ids.Rid.{Rid}
use Rattle.shore_types.specs.declared.layout.Geometry.{Geometry}
use Rattle.shore_page.specs.Room.{lowered}
use Rattle.shore_page.specs.Slots.{Slot, holding, settled, with_change, with_image, with_slot}
use Rattle.shore_page.specs.Text.{images_of}
use Rattle.shore_dwrite.specs.Volumes.{page_number}
use Rattle.shore_pool.specs.Changes.{changed, reclaimed}
use Rattle.shore_pool.specs.declared.frame.Frame.{Frame}
use Rattle.shore_heap.specs.Contents.{AreKept, HasSlots, unclaimed}
use Rattle.shore_heap.specs.declared.heap.Heap.{Heap}
use Rattle.shore_heap.specs.Heaps.{Shows, frame_at, frame_of, geometry_of}
use Rattle.laws_heaps.specs.LoggedHeaps.{AreSettled, IsMade, IsReleased}

-- ---- slots

abbrev pub Each : List Slot → Type 0
Each [] = Unit {0}
Each (s ∷ slots) = (s ≡ settled s.image) × Each slots

each_of : (slots : List Slot) (images : List Image) → slots ≡ map settled images → Each slots
each_of slots images is = subst Each (sym is) (all images)
  where
    all : (images : List Image) → Each (map settled images)
    all [] = tt
    all (image ∷ images) = (refl, all images)

all_of : (slots : List Slot) → Each slots → slots ≡ map settled (images_of slots)
all_of [] each = refl
all_of (s ∷ slots) each = ap (λ x. x ∷ slots) each.0 ∙ ap (λ l. settled s.image ∷ l) (all_of slots each.1)

more_each : (slots : List Slot) (n : ℕ) → Each slots → Each (slots ++ replicate n (settled None))
more_each [] n each = new n
  where
    new : (n : ℕ) → Each (replicate n (settled None))
    new zero = tt
    new (suc n) = (refl, new n)
more_each (s ∷ slots) n each = (each.0, more_each slots n each.1)

-- a slot that was changed, and keeps no more than its record takes
lowered_again : (image : Image) (s : Slot) → lowered 0 (holding image s) ≡ settled image
lowered_again image s =
    let claim : min (max s.claim (image_len image)) (max (image_len image) 0) ≡ image_len image = omega arith in
    ap (λ (c : ℕ). record { image = image; claim = c }) claim

each_lowered : (image : Image) (slots : List Slot) (i : ℕ) → Each slots → Each (with_change (lowered 0) (with_change (holding image) slots i) i)
each_lowered image [] i each = tt
each_lowered image (s ∷ slots) zero each = (lowered_again image s, each.1)
each_lowered image (s ∷ slots) (suc i) each = (each.0, each_lowered image slots i each.1)

settled_again : (slots : List Slot) (i : ℕ) (image : Image) → slots ≡ map settled (images_of slots)
    → with_change (lowered 0) (with_image slots i image) i ≡ map settled (images_of (with_change (lowered 0) (with_image slots i image) i))
settled_again slots i image is =
    all_of (with_change (lowered 0) (with_image slots i image) i)
    (each_lowered image (with_slot slots i) i (more_each slots (i + 1 - length slots) (each_of slots (images_of slots) is)))

-- ---- frames

-- its slots claim what their records take
abbrev IsSettledFrame : Frame → Type 0
IsSettledFrame f = f.page.slots ≡ map settled (images_of f.page.slots)

module _ {D : Type 0} {G : Ghosts D} where
  pub settled_shown : (heap : Heap D G) (front : List ℕ) (disk : ℕ → List ℕ) (S : PageId → List Slot) → Shows unclaimed heap front disk S → AreKept (geometry_of heap) unclaimed S → AreSettled heap
  settled_shown heap front disk S shows are k f is =
      let its = heap.pool.in_order k f is in
      let here : frame_of heap f.page.id ≡ Some f = ap (frame_at heap) its.1 ∙ is in
      let slots : f.page.slots ≡ S f.page.id = subst (λ (o : Option Frame). HasSlots (geometry_of heap).version o (disk (page_number (geometry_of heap) f.page.id)) f.page.id [] (S f.page.id)) here (shows.pages f.page.id its.0) in
      subst (λ (l : List Slot). l ≡ map settled (images_of l)) (sym slots) (are f.page.id its.0).0

  module _ (old mid new : Heap D G) (number : ℕ) (id : Rid) (image : Image) (settled_all : AreSettled old) (made : IsMade old mid number id image) (geometry : geometry_of mid ≡ geometry_of old) (released : IsReleased mid new id) where
    the_number : page_number (geometry_of mid) id.page ≡ page_number (geometry_of old) id.page
    the_number = ap (λ (g : Geometry). page_number g id.page) geometry

    here : (o : Option Frame) → ((e : Frame) → o ≡ Some e → IsSettledFrame e) → (f : Frame) → option_map (reclaimed (lowered 0) id.slot) (option_map (changed number id.slot image) o) ≡ Some f → IsSettledFrame f
    here None was f is = let clash : None ≡ Some f = is in absurd cc
    here (Some e) was f is =
        let same : reclaimed (lowered 0) id.slot (changed number id.slot image e) ≡ f = cc in
        subst IsSettledFrame same (settled_again e.page.slots id.slot image (was e refl))

    pub settled_after : AreSettled new
    settled_after k f is = elim (cases_eq k (page_number (geometry_of old) id.page)) [
      | inl same ↦
          let mid_is : frame_of mid id.page ≡ option_map (changed number id.slot image) (frame_of old id.page) = ap (frame_at mid) the_number ∙ made.0 in
          let new_is : frame_at new k ≡ option_map (reclaimed (lowered 0) id.slot) (frame_of mid id.page) = ap (frame_at new) (same ∙ sym the_number) ∙ released.0 in
          here (frame_of old id.page) (settled_all (page_number (geometry_of old) id.page)) f (sym (new_is ∙ ap (option_map (reclaimed (lowered 0) id.slot)) mid_is) ∙ is)
      | inr other ↦ settled_all k f (sym (released.1 k (λ one. other (one ∙ the_number)) ∙ made.1 k other) ∙ is)
    ]
