-- Slots that have nothing more kept, and pages of which less is told.
use Rattle.std.proofs.Common.{◌≡◌, ◌≢◌, ◌≤◌, ℕ, zero, suc, List, [], ◌∷◌, Option, Some, None, IfSome, length, map, max, min, refl, sym, ap, subst, ◌∙◌, inl, inr, arith}
use Rattle.shore_types.specs.declared.ids.PageId.{PageId}
use Rattle.shore_types.specs.declared.layout.Geometry.{Geometry}
use Rattle.shore_types.specs.Images.{Image, image_len}
use Rattle.shore_types.specs.Layout.{HasPage}
use Rattle.shore_types.specs.declared.versions.Version.{Version}
use Rattle.shore_dwrite.specs.Volumes.{page_number}
use Rattle.shore_page.specs.Room.{lowered, raised}
use Rattle.shore_page.specs.Slots.{Slot, settled, with_change}
use Rattle.shore_page.specs.Text.{IsPageText, images_of}
use Rattle.shore_pool.specs.declared.frame.Frame.{Frame}
use Rattle.shore_heap.specs.Contents.{FitIn, HasSlots, ClaimsOfPages, claimed_by, with_slots}
use Rattle.shore_heap.proofs.Frames.{Have}
use Rattle.shore_heap.proofs.Bounds.{cases_page, slots_here, slots_other}

-- slots that keep what their records take are not lowered
settled_lowered : (images : List Image) (slot : ℕ) → with_change (lowered 0) (map settled images) slot ≡ map settled images
settled_lowered [] slot = refl
settled_lowered (image ∷ images) zero = let same : min (image_len image) (max (image_len image) 0) ≡ image_len image = omega arith in ap (λ n. record { image = image; claim = n } ∷ map settled images) same
settled_lowered (image ∷ images) (suc slot) = ap (λ slots. settled image ∷ slots) (settled_lowered images slot)

-- no slot is changed behind the last
behind_last : (change : Slot → Slot) (slots : List Slot) (slot : ℕ) → length slots ≤ slot → with_change change slots slot ≡ slots
behind_last change [] slot behind = refl
behind_last change (s ∷ slots) zero behind = absurd (omega (arith, behind))
behind_last change (s ∷ slots) (suc slot) behind = ap (λ l. s ∷ l) (behind_last change slots slot (omega (arith, behind)))

-- a page without a frame that nothing comes back to, or one without such a slot, has nothing to let go
pub nothing_kept : (v : Version) (o : Option Frame) (text : List ℕ) (id : PageId) (kept : List (ℕ × ℕ)) (slots : List Slot) (slot : ℕ) → HasSlots v o text id kept slots → (o ≡ None → kept ≡ []) → IfSome o (λ f. length f.page.slots ≤ slot)
    → with_change (lowered 0) slots slot ≡ slots
nothing_kept v None text id kept slots slot has none behind =
    let is : slots ≡ map settled has.1 = has.3 ∙ ap (λ (l : List (ℕ × ℕ)). claimed_by l (map settled has.1)) (none refl) in
    ap (λ l. with_change (lowered 0) l slot) is ∙ settled_lowered has.1 slot ∙ sym is
nothing_kept v (Some f) text id kept slots slot has none behind = behind_last (lowered 0) slots slot (subst (λ l. length l ≤ slot) has behind)

-- claims rise, and no image changes
pub images_raised : (bytes : ℕ) (slots : List Slot) (slot : ℕ) → images_of (with_change (raised bytes) slots slot) ≡ images_of slots
images_raised bytes [] slot = refl
images_raised bytes (s ∷ slots) zero = refl
images_raised bytes (s ∷ slots) (suc slot) = ap (λ (l : List Image). s.image ∷ l) (images_raised bytes slots slot)

images_settled : (images : List Image) → images_of (map settled images) ≡ images
images_settled [] = refl
images_settled (image ∷ images) = ap (λ (l : List Image). image ∷ l) (images_settled images)

pub images_claimed : (kept : List (ℕ × ℕ)) (images : List Image) → images_of (claimed_by kept (map settled images)) ≡ images
images_claimed [] images = images_settled images
images_claimed (c ∷ kept) images = images_raised c.1 (claimed_by kept (map settled images)) c.0 ∙ images_claimed kept images

-- of a page without a frame other claims are told
pub told_slots : (v : Version) (o : Option Frame) (text : List ℕ) (id : PageId) (kept later : List (ℕ × ℕ)) (slots : List Slot) → o ≡ None → HasSlots v o text id kept slots → FitIn v later (map settled (images_of slots))
    → HasSlots v o text id later (claimed_by later (map settled (images_of slots)))
told_slots v None text id kept later slots none has fit =
    let images : images_of slots ≡ has.1 = ap images_of has.3 ∙ images_claimed kept has.1 in
    (has.0, images_of slots, subst (λ (l : List Image). IsPageText v text id has.0 l) (sym images) has.2, refl, fit)
told_slots v (Some f) text id kept later slots none has fit = let clash : Some f ≡ None = none in absurd cc

-- no frame changes, and of one page other claims are told
pub have_told : (g : Geometry) (at : ℕ → Option Frame) (disk : ℕ → List ℕ) (K L : ClaimsOfPages) (S : PageId → List Slot) (id : PageId) (change : List Slot → List Slot) → Have g at disk K S → ((p : PageId) → p ≢ id → L p ≡ K p)
    → (HasPage g id → HasSlots g.version (at (page_number g id)) (disk (page_number g id)) id (L id) (change (S id))) → Have g at disk L (with_slots S id change)
have_told g at disk K L S id change have others here p has = elim (cases_page p id) [
  | inl same ↦ subst (λ (q : PageId). HasSlots g.version (at (page_number g q)) (disk (page_number g q)) q (L q) (with_slots S id change q)) (sym same)
      (subst (HasSlots g.version (at (page_number g id)) (disk (page_number g id)) id (L id)) (sym (slots_here S id change)) (here (subst (HasPage g) same has)))
  | inr other ↦ subst (λ (l : List (ℕ × ℕ)). HasSlots g.version (at (page_number g p)) (disk (page_number g p)) p l (with_slots S id change p)) (sym (others p other))
      (subst (HasSlots g.version (at (page_number g p)) (disk (page_number g p)) p (K p)) (sym (slots_other S id change p other)) (have p has))
]
