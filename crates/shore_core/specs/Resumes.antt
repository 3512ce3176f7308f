-- Whether a session has a call to go on with, and what it is that waits for its record.
use Rattle.std.specs.Prelude.{◌≡◌, ◌≢◌, ℕ, List, true}
use Rattle.shore_disk.specs.declared.device.Disk as disk
use Rattle.shore_log.specs.declared.tail.Tail as tail
use Rattle.shore_model.specs.declared.calls.Call.{Call}
use Rattle.shore_model.specs.declared.calls.Call.TheVariants as call
use Rattle.shore_model.specs.declared.calls.Outcome.{Outcome}
use Rattle.shore_sessions.specs.Calls.{logs_decision}
use Rattle.shore_sessions.specs.declared.waits.WaitingCall.{WaitingCall}
use Rattle.laws_lives.specs.Views.{IsAmong}
use Rattle.shore_core.specs.declared.core_calls.Core.{Core}
use Rattle.shore_core.specs.declared.resuming.Awaited.{Awaited}
use Rattle.shore_core.specs.declared.resuming.Awaited.TheVariants as awaited
use Rattle.shore_core.specs.Cores.{waits_of}

-- no call of the session waits
abbrev pub NoneWaits : {T V : Type 0} {G : tail.Ghosts T} {H : disk.Ghosts V} → Core T V G H → ℕ → Type 0
NoneWaits core session = (w : WaitingCall) → IsAmong w (waits_of core) → w.session ≢ session

-- which of those calls it is that log a decision and wait for its record
abbrev pub IsAwaited : Call → Awaited → Type 0
IsAwaited c awaited.Prepare = logs_decision c ≡ true → (global : List ℕ) × (c ≡ call.Prepare global)
IsAwaited c awaited.Resolve = (global : List ℕ) × (asked : Outcome) × (c ≡ call.Resolve global asked)
