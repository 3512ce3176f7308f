-- The lines of the script that devices take.
use Rattle.std.specs.Prelude.{◌≡◌, None}
use Rattle.shore_script.specs.declared.command.Command.{Command}
use Rattle.shore_script.specs.declared.command.Command.TheVariants as command
use Rattle.shore_script.specs.declared.settings.Devices.{Devices}
use Rattle.shore_script.specs.declared.settings.Devices.TheVariants as devices

-- files have no fuse, and a crash of them picks nothing
abbrev pub IsForFiles : Command → Type 0
IsForFiles (command.Ask session call) = Unit {0}
IsForFiles (command.Lazy session) = Unit {0}
IsForFiles (command.GiveUp session) = Unit {0}
IsForFiles (command.Durable ticket) = Unit {0}
IsForFiles command.Nothing = Unit {0}
IsForFiles command.Force = Unit {0}
IsForFiles command.Flush = Unit {0}
IsForFiles command.BeginCheckpoint = Unit {0}
IsForFiles command.EndCheckpoint = Unit {0}
IsForFiles command.Checkpoint = Unit {0}
IsForFiles (command.Crash pick) = pick ≡ None
IsForFiles (command.Fuse fuse) = ⊥
IsForFiles (command.NextFuse fuse) = ⊥
IsForFiles command.Dump = Unit {0}
IsForFiles command.Log = Unit {0}
IsForFiles command.Locks = Unit {0}
IsForFiles (command.Threads counting) = Unit {0}

-- a line that these devices take
abbrev pub IsTaken : Devices → Command → Type 0
IsTaken devices.Memory command = Unit {0}
IsTaken (devices.Files paths) command = IsForFiles command
