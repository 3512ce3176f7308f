-- The move of the anchor: a new one is written into the slot of the older one, behind a closed gate.
use Rattle.std.specs.Prelude.{◌≡◌, ◌⊎◌, ℕ, List, ◌∷◌, length}
use Rattle.shore_disk.specs.Device.{overwritten}
use Rattle.shore_gate.specs.declared.gates.TheConstants.{OPEN}
use Rattle.shore_gate.specs.declared.anchors.Anchor.{Anchor}
use Rattle.shore_gate.specs.declared.anchors.Anchors.{Anchors}
use Rattle.shore_gate.specs.declared.anchors.Slot.{Slot}
use Rattle.shore_gate.specs.Anchor.{Counts, IsOlder, anchor_bytes, offset_of, other_of}

-- these bytes stand in the slot, and beside it the image is as it was before
pub record HasInSlot (slot : Slot) (before image bytes : List ℕ) : Type 0 where
  pub long : length bytes ≡ 40
  pub is : image ≡ overwritten before (offset_of slot) bytes

-- beside the slot the image is as it was before, and in it stands nothing that counts beside an anchor of this sequence
abbrev pub HasOlderInSlot : Slot → ℕ → List ℕ → List ℕ → Type 0
HasOlderInSlot slot sequence before image = (bytes : List ℕ) × HasInSlot slot before image bytes × IsOlder bytes sequence

-- An image amid a move: beside the slot of the older anchor it is as it was before, and the anchor that counted before does, or the new one.
pub record IsAmidMove (from : Anchors) (next : Anchor) (before image : List ℕ) : Type 0 where
  pub bytes : List ℕ
  pub beside : HasInSlot (other_of from.slot) before image bytes
  pub counts : Counts image from.slot from.anchor ⊎ Counts image (other_of from.slot) next

-- the image behind a move
abbrev pub moved : Anchors → Anchor → List ℕ → List ℕ
moved from next before = overwritten before (offset_of (other_of from.slot)) (OPEN ∷ anchor_bytes next)
