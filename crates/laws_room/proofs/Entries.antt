-- The claims that the entries of an undo list keep.
use Rattle.std.proofs.Common.{◌≡◌, ⊎_elim, ◌<◌, ◌≤◌, ℕ, zero, suc, max, min, List, [], ◌∷◌, ◌++◌, Option, refl, sym, ap, ◌∙◌, arith}
use Rattle.std.specs.FinMap.{get}
use Rattle.std.specs.Option.{option_map_or}
use Rattle.std.proofs.lemmas.List.{append-nil, append_assoc}
use Rattle.std.proofs.lemmas.Option.{slice_get_past}
use Rattle.shore_types.specs.Images.{Image, image_len}
use Rattle.shore_types.specs.declared.ids.Rid.{Rid}
use Rattle.shore_types.specs.declared.versions.Version.{Version}
use Rattle.shore_model.specs.Records.{Records, put_image}
use Rattle.shore_page.specs.Room.{claim_at, lowered}
use Rattle.shore_page.specs.Slots.{Slot, holding, with_change, with_image, with_slot}
use Rattle.shore_page.specs.Undo.{longest}
use Rattle.shore_page.proofs.UndoLemmas.{with_change_twice}
use Rattle.laws_room.specs.Claims.{Claimed, NoOthers, SlotCounts, befores_at, befores_in, slots_of}
use Rattle.laws_room.specs.Entries.{claim_before, claims_before, claims_behind}
use Rattle.shore_model.specs.declared.rollbacks.Rollback.{Rollback}
use Rattle.laws_lives.specs.Sessions.{SessionTxn, with_undo}
use Rattle.laws_lives.specs.UndoLists.{UndoList, with_before_image}
use Rattle.laws_lives.specs.Views.{IsAmong}
use Rattle.laws_lives.proofs.Ids.{put_here}
use Rattle.laws_lives.proofs.Lists.{within_or_beyond}
use Rattle.laws_room.proofs.Lists.{split}
use Rattle.laws_room.proofs.Numbers.{claim_is}
use Rattle.laws_room.proofs.Pages.{all_behind, its_own, its_slot, length-slots, lone_at, lone_with}
use Rattle.laws_room.proofs.Rooms.{undo_slots}

-- ---- one entry more

behind_push : (earlier es : List (Rid × Image)) (e : Rid × Image)
    → claims_behind earlier (es ++ e ∷ []) ≡ claims_behind earlier es ++ claim_before (earlier ++ es) e ∷ []
behind_push earlier [] e = ap (λ (l : List (Rid × Image)). claim_before l e ∷ []) (sym (append-nil earlier))
behind_push earlier (x ∷ es) e =
    ap (λ l. claim_before earlier x ∷ l)
    (behind_push (earlier ++ x ∷ []) es e ∙ ap (λ (l : List (Rid × Image)). claims_behind (earlier ++ x ∷ []) es ++ claim_before l e ∷ []) (append_assoc earlier (x ∷ []) es))

pub before_push : (es : List (Rid × Image)) (e : Rid × Image) → claims_before (es ++ e ∷ []) ≡ claims_before es ++ claim_before es e ∷ []
before_push es e = behind_push [] es e

-- ---- a change, and an undo

with_change_alike : (f g : Slot → Slot) → ((s : Slot) → f s ≡ g s) → (slots : List Slot) (i : ℕ) → with_change f slots i ≡ with_change g slots i
with_change_alike f g same [] i = refl
with_change_alike f g same (s ∷ slots) zero = ap (λ x. x ∷ slots) (same s)
with_change_alike f g same (s ∷ slots) (suc i) = ap (λ l. s ∷ l) (with_change_alike f g same slots i)

-- a slot is not lowered below its record
lowered_over : (bytes : ℕ) (image : Image) (s : Slot) → lowered bytes (holding image s) ≡ lowered (max (image_len image) bytes) (holding image s)
lowered_over bytes image s = ap (slot image) (least (max s.claim (image_len image)) (image_len image) bytes)
  where
    slot : Image → ℕ → Slot
    slot image n = record { image = image; claim = n }

    least : (c l b : ℕ) → min c (max l b) ≡ min c (max l (max l b))
    least c l b = omega arith

lower_over : (bytes : ℕ) (image : Image) (slots : List Slot) (i : ℕ)
    → with_change (lowered bytes) (with_image slots i image) i ≡ with_change (lowered (max (image_len image) bytes)) (with_image slots i image) i
lower_over bytes image slots i =
    with_change_twice (lowered bytes) (holding image) (with_slot slots i) i
    ∙ with_change_alike (λ s. lowered bytes (holding image s)) (λ s. lowered (max (image_len image) bytes) (holding image s)) (lowered_over bytes image)
    (with_slot slots i) i
    ∙ sym (with_change_twice (lowered (max (image_len image) bytes)) (holding image) (with_slot slots i) i)

module _ (v : Version) (R : Records) (undos : List SessionTxn) (counts : SlotCounts) (k : Claimed v R undos counts) (a : SessionTxn) (m : IsAmong a undos) where
  -- the claim that a change finds
  pub found : (id : Rid) → NoOthers undos a.txn id → claim_at (slots_of R undos id.page (counts id.page)) id.slot ≡ claim_before a.undo.images (id, get R id)
  found id alone = ⊎_elim
      (λ (behind : counts id.page ≤ id.slot).
      let empty : image_len (get R id) ≡ 0 = ap image_len (k.behind id behind) in
      let none : longest (befores_in id a.undo.images) ≡ 0 =
      ap longest (sym (lone_at (split undos a k.once m) id alone) ∙ all_behind counts id undos behind k.within) in
      ap (λ (o : Option Slot). option_map_or (λ (s : Slot). s.claim) o 0)
      (slice_get_past (slots_of R undos id.page (counts id.page)) id.slot (omega (arith, length-slots R undos id.page (counts id.page))))
      ∙ nothing (image_len (get R id)) (longest (befores_in id a.undo.images)) empty none)
      (λ (inside : id.slot < counts id.page).
      claim_is R undos id.page (counts id.page) id.slot inside ∙ ap (λ l. max (image_len (get R id)) (longest l)) (lone_at (split undos a k.once m) id alone))
      (within_or_beyond (counts id.page) id.slot)
    where
      nothing : (x y : ℕ) → x ≡ 0 → y ≡ 0 → 0 ≡ max x y
      nothing x y a b = omega arith

  pub changed : (id : Rid) → NoOthers undos a.txn id
      → claims_before (with_before_image R a.undo id).images ≡ claims_before a.undo.images ++ claim_at (slots_of R undos id.page (counts id.page)) id.slot ∷ []
  changed id alone = before_push a.undo.images (id, get R id) ∙ ap (λ n. claims_before a.undo.images ++ n ∷ []) (sym (found id alone))

  module _ (kept : List (Rid × Image)) (e : Rid × Image) (marks : List ℕ) (rolling : Option Rollback) (is : a.undo.images ≡ kept ++ e ∷ []) where
    abbrev left : UndoList
    left = record { images = kept; marks = marks; rolling = rolling }

    pub newest_claim : claims_before a.undo.images ≡ claims_before kept ++ claim_before kept e ∷ []
    newest_claim = ap claims_before is ∙ before_push kept e

    -- the claim is what it was before the change
    pub claim_back : claim_at (slots_of (put_image R e.0 e.1) (with_undo a.txn left undos) e.0.page (counts e.0.page)) e.0.slot ≡ claim_before kept e
    claim_back =
        claim_is (put_image R e.0 e.1) (with_undo a.txn left undos) e.0.page (counts e.0.page) e.0.slot (its_slot v R undos counts k a m kept e marks rolling is)
        ∙ ap (λ (i : Image). max (image_len i) (longest (befores_at e.0 (with_undo a.txn left undos)))) (put_here R e.0 e.1)
        ∙ ap (λ l. max (image_len e.1) (longest l)) (lone_with (split undos a k.once m) e.0 left (its_own v R undos counts k a m kept e marks rolling is))

    pub unreserved : slots_of (put_image R e.0 e.1) (with_undo a.txn left undos) e.0.page (counts e.0.page)
        ≡ with_change (lowered (claim_before kept e)) (with_image (slots_of R undos e.0.page (counts e.0.page)) e.0.slot e.1) e.0.slot
    unreserved =
        undo_slots v R undos counts k a m kept e marks rolling is
        ∙ lower_over (longest (befores_in e.0 kept)) e.1 (slots_of R undos e.0.page (counts e.0.page)) e.0.slot
