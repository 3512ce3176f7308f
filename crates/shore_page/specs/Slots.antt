-- What a page is: the version of its text, its id, the number of its last change (page_LSN), and its slots. A slot has an image and a claim.
use Rattle.std.specs.Prelude.{ℕ, zero, suc, ◌+◌, ◌-◌, max, List, [], ◌∷◌, ◌++◌, length, replicate, slice_get, Option, Some, None}
use Rattle.std.specs.Option.{option_and_then}
use Rattle.shore_types.specs.declared.ids.PageId.{PageId}
use Rattle.shore_types.specs.declared.versions.Version.{Version}
use Rattle.shore_types.specs.Images.{Image, image_len}

-- what is in a slot, and how many bytes of the page are kept for it
pub record Slot : Type 0 where
  pub image : Option (List ℕ)
  pub claim : ℕ

-- a page as data
pub record PageState : Type 0 where
  pub version : Version
  pub id : PageId
  pub number : ℕ
  pub slots : List Slot

-- what is in a slot; nothing in one that is not there
abbrev pub image_at_slot : List Slot → ℕ → Image
image_at_slot slots slot = option_and_then (λ s. s.image) (slice_get slots slot)

-- one element changed, and no other
abbrev pub with_change : {A : Type 0} → (A → A) → List A → ℕ → List A
with_change f [] position = []
with_change f (x ∷ rest) zero = f x ∷ rest
with_change f (x ∷ rest) (suc position) = x ∷ with_change f rest position

-- another image is in a slot: it keeps its claim, or as many bytes as the image has
abbrev pub holding : Image → Slot → Slot
holding image s = record { image = image; claim = max s.claim (image_len image) }

-- a slot that claims what its record takes
abbrev pub settled : Image → Slot
settled image = record { image = image; claim = image_len image }

-- the slots up to this one are there: those that are new are empty
abbrev pub with_slot : List Slot → ℕ → List Slot
with_slot slots slot = slots ++ replicate (slot + 1 - length slots) (settled None)

-- the image put into a slot, which is new behind the last, or farther on
abbrev pub with_image : List Slot → ℕ → Image → List Slot
with_image slots slot image = with_change (holding image) (with_slot slots slot) slot
