-- What may come back to the slots of pages, as pairs: each is a slot, and how many bytes may come back to it.
use Rattle.std.specs.Prelude.{◌<◌, ℕ, List, [], ◌∷◌, length}
use Rattle.shore_types.specs.declared.ids.PageId.{PageId}
use Rattle.shore_types.specs.declared.versions.Version.{Version}
use Rattle.shore_page.specs.Room.{Fits, raised}
use Rattle.shore_page.specs.Slots.{Slot, with_change}

-- for each page what may come back to its slots
abbrev pub ClaimsOfPages : Type 0
ClaimsOfPages = PageId → List (ℕ × ℕ)

-- nothing comes back to any page
abbrev pub unclaimed : ClaimsOfPages
unclaimed id = []

-- The slots, of which some keep more: the last pair of the list is reserved first.
abbrev pub claimed_by : List (ℕ × ℕ) → List Slot → List Slot
claimed_by [] slots = slots
claimed_by (c ∷ rest) slots = with_change (raised c.1) (claimed_by rest slots) c.0

-- each of these slots is there, and so is the room when its turn comes
abbrev pub FitIn : Version → List (ℕ × ℕ) → List Slot → Type 0
FitIn v [] slots = Unit {0}
FitIn v (c ∷ rest) slots = (c.0 < length (claimed_by rest slots)) × Fits v (claimed_by rest slots) c.0 c.1 × FitIn v rest slots

-- each pair is of one of so many slots
abbrev pub AreThere : ℕ → List (ℕ × ℕ) → Type 0
AreThere count [] = Unit {0}
AreThere count (c ∷ rest) = (c.0 < count) × AreThere count rest
