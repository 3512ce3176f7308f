-- What a call asks of the lock table before it looks at a record: a granule and a mode. The intentions come first, from the root down.
use Rattle.std.specs.Prelude.{Option, None, Some}
use Rattle.shore_types.specs.declared.locking.Granule.{Granule}
use Rattle.shore_types.specs.declared.locking.Granule.TheVariants.{Record, Store}
use Rattle.shore_types.specs.declared.locking.Mode.{Mode}
use Rattle.shore_types.specs.declared.locking.Mode.TheVariants.{EX, IX, SH, UD}
use Rattle.shore_model.specs.declared.calls.Call.{Call}
use Rattle.shore_model.specs.declared.calls.Call.TheVariants as call
pub use Rattle.shore_path.specs.Judging.{CanLockNow}

pub record Asked : Type 0 where
  pub granule : Granule
  pub mode : Mode

abbrev pub asked_for : Granule → Mode → Option Asked
asked_for g mode = Some (record { granule = g; mode = mode })

-- An insert asks for the store before it looks for a place; the place comes later.
abbrev pub lock_asked_by : Call → Option Asked
lock_asked_by (call.Get id) = asked_for (Record id) SH
lock_asked_by (call.GetForUpdate id) = asked_for (Record id) UD
lock_asked_by (call.Insert store bytes) = asked_for (Store store) IX
lock_asked_by (call.Update id bytes) = asked_for (Record id) EX
lock_asked_by (call.Delete id) = asked_for (Record id) EX
lock_asked_by (call.Scan store) = asked_for (Store store) SH
lock_asked_by (call.Lock g mode) = asked_for g mode
lock_asked_by (call.TryLock g mode) = asked_for g mode
lock_asked_by call.Begin = None
lock_asked_by call.Savepoint = None
lock_asked_by (call.BackTo index) = None
lock_asked_by call.Commit = None
lock_asked_by call.Abort = None
lock_asked_by (call.Prepare global) = None
lock_asked_by (call.Resolve global outcome) = None
lock_asked_by call.InDoubt = None
