-- Records whose bytes lie one behind another, in the order of their slots.
use Rattle.std.specs.Prelude.{◌≡◌, ◌+◌, ◌≤◌, ℕ, List, [], ◌∷◌, Some, None, length, take, drop}
use Rattle.shore_types.specs.declared.ids.PageId.{PageId}
use Rattle.shore_types.specs.declared.ids.Rid.{Rid}
use Rattle.shore_types.specs.declared.slotted.Slotted as slotted
use Rattle.shore_types.specs.Images.{Image, image_len}

-- each slot has a record, and the bytes are these records, one behind another
abbrev pub IsRun : List ℕ → List Image → Type 0
IsRun bytes [] = bytes ≡ []
IsRun bytes (None ∷ rest) = ⊥
IsRun bytes (Some image ∷ rest) = (length image ≤ length bytes) × (take (length image) bytes ≡ image) × IsRun (drop (length image) bytes) rest

-- the records of a page's slots from one on, each under its id
abbrev pub records_from : PageId → ℕ → List Image → List (Rid × List ℕ)
records_from page slot [] = []
records_from page slot (None ∷ rest) = records_from page (slot + 1) rest
records_from page slot (Some image ∷ rest) = (record { page = page; slot = slot }, image) ∷ records_from page (slot + 1) rest

-- each id with the end of its bytes, of images that lie one behind another from a place on
abbrev pub ends_from : PageId → ℕ → ℕ → List Image → List (Rid × ℕ)
ends_from page slot from [] = []
ends_from page slot from (image ∷ rest) = (record { page = page; slot = slot }, from + image_len image) ∷ ends_from page (slot + 1) (from + image_len image) rest

-- what is in the slots
abbrev pub slotted_images : {S : Type 0} (G : slotted.Ghosts S) → S → List Image
slotted_images G slots = G.images slots
