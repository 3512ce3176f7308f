-- Which of the calls that wait for locks may go on.
use Rattle.std.specs.Prelude.{◌≡◌, ◌⊎◌, ◌≤◌, ◌<◌, ℕ, IsTrue, Some, false, slice_get}
use Rattle.shore_types.specs.declared.locking.Granule.{Granule}
use Rattle.shore_disk.specs.declared.device.Disk as disk
use Rattle.shore_log.specs.declared.tail.Tail as tail
use Rattle.shore_locks.specs.Tables.{is_waiting}
use Rattle.shore_model.specs.declared.step.Wait.TheVariants.{Lock}
use Rattle.laws_lives.specs.Sessions.{SessionTxn}
use Rattle.laws_calls.specs.States.{IsOfSession, State, Waiting}
use Rattle.shore_sessions.specs.Calls.{awaits_record}
use Rattle.shore_sessions.specs.declared.waits.WaitingCall.{WaitingCall}
use Rattle.shore_core.specs.declared.core_calls.Core.{Core}
use Rattle.shore_core.specs.Cores.{has_failed, locks_of, waits_of}

-- A resume of it would not wait on as it is: a device has failed, or it waits for a lock, and the transaction of its session waits no more.
abbrev pub MayGoOnIn : State → Waiting → Type 0
MayGoOnIn s x =
    IsTrue s.failed ⊎ ((at : Granule) × (a : SessionTxn) × (x.wait ≡ Lock at) × IsOfSession s x.session a × (is_waiting a.txn s.locks.requests ≡ false))

module _ {T V : Type 0} {G : tail.Ghosts T} {H : disk.Ghosts V} where
  -- it waits for a lock, and its transaction waits no more; or a device has failed
  abbrev pub IsLetThrough : Core T V G H → WaitingCall → Type 0
  IsLetThrough core w = IsTrue (has_failed core) ⊎ ((awaits_record w ≡ false) × (is_waiting w.txn (locks_of core).requests ≡ false))

  -- no call is, of those from one place of their list on, and before another
  abbrev pub NoneLetThrough : Core T V G H → ℕ → ℕ → Type 0
  NoneLetThrough core from upto = (n : ℕ) (w : WaitingCall) → from ≤ n → n < upto → slice_get (waits_of core) n ≡ Some w → ¬ IsLetThrough core w
