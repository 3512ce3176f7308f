-- What is left of a world behind its threads.
use Rattle.shore_disk.specs.declared.device.Disk.{Ghosts}
use Rattle.shore_shared.specs.declared.serving.Left.{Left}
use Rattle.shore_shared.specs.declared.serving.Left.TheVariants as left
use Rattle.shore_world.specs.declared.world.World.{World}

-- it is a world, of which this holds
abbrev pub IfWorld : {L V : Type 0} {G : Ghosts L} {H : Ghosts V} → Left L V G H → (World L V G H → Type 0) → Type 0
IfWorld (left.World w) P = P w
IfWorld (left.Devices log volume refusal) P = Unit {0}

-- these are its devices alone, of which this holds
abbrev pub IfDevices : {L V : Type 0} {G : Ghosts L} {H : Ghosts V} → Left L V G H → (L → V → Type 0) → Type 0
IfDevices (left.World w) P = Unit {0}
IfDevices (left.Devices log volume refusal) P = P log volume
