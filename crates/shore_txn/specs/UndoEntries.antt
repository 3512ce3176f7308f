-- An undo list as a transaction keeps it: beside each image the claim that its slot had before the change.
use Rattle.std.specs.Prelude.{◌≡◌, ◌≤◌, ℕ, List, [], ◌∷◌, map, All, drop, reverse, if◌then◌else◌}
use Rattle.std.specs.Ordering.{eq_by_cmp}
use Rattle.shore_types.specs.Ids.{page_cmp}
use Rattle.shore_types.specs.Images.{Image, image_len}
use Rattle.shore_types.specs.declared.ids.PageId.{PageId}
use Rattle.shore_types.specs.declared.ids.Rid.{Rid}
use Rattle.shore_types.specs.declared.layout.TheConstants.{MAX_RECORD_BYTES}
use Rattle.laws_room.specs.Entries.{claims_before}
use Rattle.shore_txn.specs.declared.undo.UndoEntry.{UndoEntry}

abbrev pub image_of : UndoEntry → Rid × Image
image_of e = (e.id, e.before)

abbrev pub images_of : List UndoEntry → List (Rid × Image)
images_of es = map image_of es

-- each entry has the claim that its slot had before the change
abbrev pub HaveClaims : List UndoEntry → Type 0
HaveClaims es = map (λ e. e.claim) es ≡ claims_before (images_of es)

-- the number of the first change of a list, 0 for none
abbrev pub first_number : List UndoEntry → ℕ
first_number [] = 0
first_number (e ∷ es) = e.lsn

-- the number of the newest change but one: what a Compensation of the newest names
abbrev pub number_behind : List UndoEntry → ℕ
number_behind es = first_number (drop 1 (reverse es))

-- no image is longer than a record
abbrev pub AreShort : List UndoEntry → Type 0
AreShort es = All (λ e. image_len e.before ≤ MAX_RECORD_BYTES) es

-- What may come back to the slots of a page: of each entry that is on it the slot, and the length of the image before. The oldest first.
abbrev pub claims_on : PageId → List UndoEntry → List (ℕ × ℕ)
claims_on p [] = []
claims_on p (e ∷ es) = if eq_by_cmp page_cmp p e.id.page then (e.id.slot, image_len e.before) ∷ claims_on p es else claims_on p es
