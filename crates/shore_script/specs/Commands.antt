-- The lines of the script whose calls are served.
use Rattle.shore_model.specs.Calls.{IsServed}
use Rattle.shore_script.specs.declared.command.Command.{Command}
use Rattle.shore_script.specs.declared.command.Command.TheVariants as command

-- a call that is served to each session, and every other line
abbrev pub IsServedCommand : Command → Type 0
IsServedCommand (command.Ask session call) = IsServed call
IsServedCommand (command.Lazy session) = Unit {0}
IsServedCommand (command.GiveUp session) = Unit {0}
IsServedCommand (command.Durable ticket) = Unit {0}
IsServedCommand command.Nothing = Unit {0}
IsServedCommand command.Force = Unit {0}
IsServedCommand command.Flush = Unit {0}
IsServedCommand command.BeginCheckpoint = Unit {0}
IsServedCommand command.EndCheckpoint = Unit {0}
IsServedCommand command.Checkpoint = Unit {0}
IsServedCommand (command.Crash pick) = Unit {0}
IsServedCommand (command.Fuse fuse) = Unit {0}
IsServedCommand (command.NextFuse fuse) = Unit {0}
IsServedCommand command.Dump = Unit {0}
IsServedCommand command.Log = Unit {0}
IsServedCommand command.Locks = Unit {0}
IsServedCommand (command.Threads counting) = Unit {0}
