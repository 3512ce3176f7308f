-- Calls of a client that commit nothing.
use Rattle.std.specs.Prelude.{◌≢◌, List, [], ◌∷◌, Result, Ok, Err}
use Rattle.shore_types.specs.declared.faults.Fault.{Fault}
use Rattle.shore_types.specs.declared.faults.Fault.TheVariants as fault
use Rattle.shore_model.specs.declared.calls.Answer.{Answer}
use Rattle.shore_model.specs.declared.calls.Call.{Call}
use Rattle.shore_model.specs.declared.calls.Call.TheVariants as call
use Rattle.shore_model.specs.declared.calls.Exchange.{Exchange}

-- Refused, and not since a device failed: a commit that is refused so may be durable all the same.
abbrev pub IsRefused : Result Answer Fault → Type 0
IsRefused (Ok a) = ⊥
IsRefused (Err f) = f ≢ fault.Device

-- A call that commits nothing: none of those that may, or a commit that was refused. A prepare or a resolve is never among these, whatever it was answered.
abbrev pub CommitsNothing : Call → Result Answer Fault → Type 0
CommitsNothing call.Begin reply = Unit {0}
CommitsNothing (call.Get id) reply = Unit {0}
CommitsNothing (call.GetForUpdate id) reply = Unit {0}
CommitsNothing (call.Insert store bytes) reply = Unit {0}
CommitsNothing (call.Update id bytes) reply = Unit {0}
CommitsNothing (call.Delete id) reply = Unit {0}
CommitsNothing (call.Scan store) reply = Unit {0}
CommitsNothing (call.Lock granule mode) reply = Unit {0}
CommitsNothing (call.TryLock granule mode) reply = Unit {0}
CommitsNothing call.Savepoint reply = Unit {0}
CommitsNothing (call.BackTo index) reply = Unit {0}
CommitsNothing call.Commit reply = IsRefused reply
CommitsNothing call.Abort reply = Unit {0}
CommitsNothing (call.Prepare global) reply = ⊥
CommitsNothing (call.Resolve global outcome) reply = ⊥
CommitsNothing call.InDoubt reply = Unit {0}

abbrev pub CommitNothing : List Exchange → Type 0
CommitNothing [] = Unit {0}
CommitNothing (e ∷ es) = CommitsNothing e.call e.reply × CommitNothing es
