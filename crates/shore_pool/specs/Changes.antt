-- What is done to a frame.
use Rattle.std.specs.Prelude.{ℕ, ◌==◌, List, [], ◌∷◌, Option, None, Some, option_map, if◌then◌else◌}
use Rattle.shore_page.specs.Slots.{Slot, with_change, with_image}
use Rattle.shore_types.specs.Images.{Image}
use Rattle.shore_pool.specs.declared.frame.Frame.{Frame}

-- the first number since the page was clean stays
abbrev pub first_of : Option ℕ → ℕ → Option ℕ
first_of None lsn = Some lsn
first_of (Some first) lsn = Some first

-- a change that was logged under this number is made on its page
abbrev pub changed : ℕ → ℕ → Image → Frame → Frame
changed lsn slot after f = record f { page = record f.page { number = lsn; slots = with_image f.page.slots slot after }; recovery = first_of f.recovery lsn }

-- its page was written
abbrev pub settled : Frame → Frame
settled f = record f { recovery = None }

-- the frames of these pages were written, and no other
abbrev pub settled_at : List ℕ → (ℕ → Option Frame) → ℕ → Option Frame
settled_at [] at k = at k
settled_at (n ∷ ns) at k = if n == k then option_map settled (at k) else settled_at ns at k

-- the claim of a slot is another, and nothing else
abbrev pub reclaimed : (Slot → Slot) → ℕ → Frame → Frame
reclaimed claim slot f = record f { page = record f.page { slots = with_change claim f.page.slots slot } }
