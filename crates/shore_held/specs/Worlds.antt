-- What threads begin with over a world that is handed to them.
use Rattle.std.specs.Prelude.{List}
use Rattle.shore_disk.specs.declared.device.Disk.{Ghosts}
use Rattle.shore_model.specs.declared.histories.Entry.{Entry}
use Rattle.shore_model.specs.declared.histories.Opening.{Opening}
use Rattle.shore_model.specs.declared.log_records.LogRecord.{LogRecord}
use Rattle.shore_world.specs.declared.world.World.{World}
use Rattle.shore_world.specs.Legs.{IsUpIn}
use Rattle.shore_held.specs.Comings.{Beginning}

-- the state of a manager that it is at
abbrev pub begins_with : {L V : Type 0} {G : Ghosts L} {H : Ghosts V} {w : World L V G H} {opening : Opening} {found : List LogRecord} {entries : List Entry} → IsUpIn w opening found entries → Beginning
begins_with {opening = opening} {found = found} {entries = entries} up = record { opening = opening; found = found; earlier = entries; first = up.last; front = up.front }
