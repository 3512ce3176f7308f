-- The record that threads count up.
use Rattle.std.specs.Prelude.{◌≡◌, ℕ, List, Some, length, slice_get}
use Rattle.shore_disk.specs.declared.device.Disk.{Ghosts}
use Rattle.shore_types.specs.declared.ids.Rid.{Rid}
use Rattle.shore_world.specs.Worlds.{IsPartOf}
use Rattle.shore_world.specs.declared.world.World.{World}

module _ {L V : Type 0} {G : Ghosts L} {H : Ghosts V} where
  -- the record is in place, with so many bytes: it is among those from its page on and before another one
  abbrev pub HasBytesAt : World L V G H → Rid → ℕ → Type 0
  HasBytesAt w id n =
      (pairs : List (Rid × List ℕ)) × (to : ℕ) × (at : ℕ) × (bytes : List ℕ) × IsPartOf w id.page.store id.page.page to pairs × (slice_get pairs at ≡ Some (id, bytes)) × (length bytes ≡ n)
