-- The granules and modes that calls are answered under, as the hierarchical protocol has them.
use Rattle.std.specs.Prelude.{◌≡◌, ◌⊎◌, ℕ, List, IsTrue, Any, Contains}
use Rattle.shore_types.specs.declared.locking.Granule.{Granule}
use Rattle.shore_types.specs.declared.locking.Granule.TheVariants.{Record, Store}
use Rattle.shore_types.specs.declared.locking.Mode.{Mode}
use Rattle.shore_types.specs.declared.locking.Mode.TheVariants.{SH, EX, UD}
use Rattle.shore_model.specs.declared.calls.Answer.{Answer}
use Rattle.shore_model.specs.declared.calls.Answer.TheVariants.{Inserted}
use Rattle.shore_model.specs.declared.calls.Call.{Call}
use Rattle.shore_model.specs.declared.calls.Call.TheVariants as call
use Rattle.shore_model.specs.declared.holds.Hold.{Hold}
use Rattle.shore_model.specs.Locks.{HoldsAtLeast, ancestors}
use Rattle.shore_model.specs.Modes.{covers}

-- a transaction has the granule locked in the mode: by a lock of its own there, or implicitly, by an ancestor's lock that covers it
abbrev pub HasLock : List Hold → ℕ → Granule → Mode → Type 0
HasLock held t g mode = HoldsAtLeast held t mode g ⊎ Any (λ h. (h.txn ≡ t) × Contains (ancestors g) h.granule × IsTrue (covers h.mode mode)) held

-- the lock that each call needs for its answer
abbrev pub HasLocksFor : List Hold → ℕ → Call → Answer → Type 0
HasLocksFor held t (call.Get id) answer = HasLock held t (Record id) SH
HasLocksFor held t (call.GetForUpdate id) answer = HasLock held t (Record id) UD
HasLocksFor held t (call.Insert s bytes) (Inserted id) = HasLock held t (Record id) EX
HasLocksFor held t (call.Insert s bytes) _ = ⊥
HasLocksFor held t (call.Update id bytes) answer = HasLock held t (Record id) EX
HasLocksFor held t (call.Delete id) answer = HasLock held t (Record id) EX
HasLocksFor held t (call.Scan s) answer = HasLock held t (Store s) SH
HasLocksFor held t (call.Lock g mode) answer = HasLock held t g mode
HasLocksFor held t (call.TryLock g mode) answer = HasLock held t g mode
HasLocksFor held t call.Begin answer = Unit {0}
HasLocksFor held t call.Savepoint answer = Unit {0}
HasLocksFor held t (call.BackTo k) answer = Unit {0}
HasLocksFor held t call.Commit answer = Unit {0}
HasLocksFor held t call.Abort answer = Unit {0}
HasLocksFor held t (call.Prepare global) answer = Unit {0}
HasLocksFor held t (call.Resolve global outcome) answer = Unit {0}
HasLocksFor held t call.InDoubt answer = Unit {0}
