-- Whether a checkpoint may begin or end at a line.
use Rattle.std.specs.Box.{box_value}
use Rattle.std.specs.Prelude.{◌≡◌, ◌⊎◌, None, IsSome, IsTrue}
use Rattle.shore_script.specs.declared.command.Command.{Command}
use Rattle.shore_script.specs.declared.command.Command.TheVariants as command
use Rattle.shore_world.specs.Worlds.{failed_in}
use Rattle.shore_prog.specs.declared.manager.Access.{Access}
use Rattle.shore_prog.specs.declared.manager.Access.TheVariants as access
use Rattle.shore_prog.specs.declared.manager.Opened.{Opened}

-- no checkpoint begins within another, and none ends that has not begun; a manager that has failed answers so
abbrev pub IsDueIn : Opened → Command → Type 0
IsDueIn opened command.BeginCheckpoint = (opened.checkpoint ≡ None) ⊎ IsTrue (failed_in (box_value opened.world))
IsDueIn opened command.Checkpoint = (opened.checkpoint ≡ None) ⊎ IsTrue (failed_in (box_value opened.world))
IsDueIn opened command.EndCheckpoint = IsSome opened.checkpoint ⊎ IsTrue (failed_in (box_value opened.world))
IsDueIn opened command.Nothing = Unit {0}
IsDueIn opened (command.Ask session call) = Unit {0}
IsDueIn opened (command.Lazy session) = Unit {0}
IsDueIn opened (command.GiveUp session) = Unit {0}
IsDueIn opened (command.Durable ticket) = Unit {0}
IsDueIn opened command.Force = Unit {0}
IsDueIn opened command.Flush = Unit {0}
IsDueIn opened (command.Crash pick) = Unit {0}
IsDueIn opened (command.Fuse fuse) = Unit {0}
IsDueIn opened (command.NextFuse fuse) = Unit {0}
IsDueIn opened command.Dump = Unit {0}
IsDueIn opened command.Log = Unit {0}
IsDueIn opened command.Locks = Unit {0}
IsDueIn opened (command.Threads counting) = Unit {0}

-- so does one that was refused at its open
abbrev pub IsDue : Access → Command → Type 0
IsDue (access.Open opened) command = IsDueIn opened command
IsDue (access.Closed log volume) command = Unit {0}
IsDue access.Lost command = Unit {0}
