-- The parts that a store is dumped in.
use Rattle.std.specs.Prelude.{◌≡◌, ◌≤◌, ℕ, List, [], ◌∷◌, None}
use Rattle.shore_types.specs.declared.ids.Rid.{Rid}
use Rattle.shore_disk.specs.declared.device.Disk.{Ghosts}
use Rattle.shore_heap.specs.Scans.{part_end}
use Rattle.shore_world.specs.declared.world.World.{World}
use Rattle.shore_world.specs.Worlds.{IsLike, IsPartOf, geometry_in}

-- These are parts of a store, behind one another from this page on to its end, each of the world that the call before it has left.
abbrev pub ArePartsFrom : {L V : Type 0} {G : Ghosts L} {H : Ghosts V} → World L V G H → ℕ → ℕ → List (List (Rid × List ℕ)) → Type 0
ArePartsFrom w store from [] = from ≡ part_end (geometry_in w) store None
ArePartsFrom {L = L} {V = V} {G = G} {H = H} w store from (part ∷ parts) =
    (next : ℕ) × (later : World L V G H) × (from ≤ next) × IsPartOf w store from next part × IsLike w later × ArePartsFrom later store next parts
