-- Changes that are not decided yet: what undoing them puts back, and the room that it takes.
use Rattle.std.specs.Prelude.{ℕ, ◌+◌, ◌-◌, max, List, [], ◌∷◌, ◌++◌, length, map, replicate, slice_get, Option, None, IfSome}
use Rattle.std.specs.Option.{option_and_then}
use Rattle.shore_page.specs.Slots.{Slot, with_change}
use Rattle.shore_types.specs.Images.{image_len, Image}
use Rattle.shore_types.specs.declared.versions.Version.{Version}
use Rattle.shore_page.specs.Room.{Fits}

-- a slot, and the images before its undecided changes, the newest first: its transaction could still put each back
pub record Undecided : Type 0 where
  pub image : Image
  pub befores : List Image

-- the bytes of the longest of some images
abbrev pub longest : List Image → ℕ
longest [] = 0
longest (image ∷ others) = max (image_len image) (longest others)

-- a slot's claim is the greatest of its length now and of the lengths of the images that could still be put back
abbrev pub claiming : Undecided → Slot
claiming s = record { image = s.image; claim = max (image_len s.image) (longest s.befores) }

abbrev pub claiming_all : List Undecided → List Slot
claiming_all slots = map claiming slots

-- an undecided change: what was there may come back
abbrev pub changing : Image → Undecided → Undecided
changing image s = record { image = image; befores = s.image ∷ s.befores }

-- a slot that no change has reached
abbrev pub untouched : Undecided
untouched = record { image = None; befores = [] }

-- an undecided change to a slot, which is new behind the last, or farther on: nothing was there
abbrev pub with_undecided : List Undecided → ℕ → Image → List Undecided
with_undecided slots slot image = with_change (changing image) (slots ++ replicate (slot + 1 - length slots) untouched) slot

-- an image, and those that could be put back, with the newest of them put back
abbrev pub undone : Image → List Image → Undecided
undone image [] = record { image = image; befores = [] }
undone image (before ∷ rest) = record { image = before; befores = rest }

-- the newest change of a slot undone
abbrev pub undoing : Undecided → Undecided
undoing s = undone s.image s.befores

-- all changes of a slot decided: nothing comes back
abbrev pub deciding : Undecided → Undecided
deciding s = record { image = s.image; befores = [] }

-- what an undo puts into a slot; none if nothing is left to undo
abbrev pub undo_image : List Undecided → ℕ → Option Image
undo_image slots slot = option_and_then (λ s. slice_get s.befores 0) (slice_get slots slot)

-- Each undo fits when it is made, if the slots are taken in this order: each turn undoes the newest change of its slot that is left.
abbrev pub UndoFits : Version → List Undecided → List ℕ → Type 0
UndoFits v slots [] = Unit {0}
UndoFits v slots (slot ∷ later) = IfSome (undo_image slots slot) (λ before. Fits v (claiming_all slots) slot (image_len before)) × UndoFits v (with_change undoing slots slot) later
