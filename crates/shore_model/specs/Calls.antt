-- Which calls are served today.
use Rattle.shore_model.specs.declared.calls.Call.{Call}
use Rattle.shore_model.specs.declared.calls.Call.TheVariants as call

-- the calls that are served to each session
abbrev pub IsServed : Call → Type 0
IsServed call.Begin = Unit {0}
IsServed (call.Get id) = Unit {0}
IsServed (call.GetForUpdate id) = Unit {0}
IsServed (call.Insert store bytes) = Unit {0}
IsServed (call.Update id bytes) = Unit {0}
IsServed (call.Delete id) = Unit {0}
IsServed (call.Scan store) = Unit {0}
IsServed (call.Lock granule mode) = Unit {0}
IsServed (call.TryLock granule mode) = Unit {0}
IsServed call.Commit = Unit {0}
IsServed call.Savepoint = Unit {0}
IsServed (call.BackTo index) = Unit {0}
IsServed call.Abort = Unit {0}
IsServed (call.Prepare global) = Unit {0}
IsServed (call.Resolve global outcome) = Unit {0}
IsServed call.InDoubt = Unit {0}
