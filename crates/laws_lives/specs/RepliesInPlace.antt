-- The manager's replies to transactions under way. Each is judged on the records in place, as it is given, and under the locks that
-- are held then.
use Rattle.std.specs.Prelude.{◌≡◌, ◌⊎◌, ◌≤◌, ℕ, List, None, Result, Ok, Err, IsSomeAnd}
use Rattle.std.specs.FinMap.{get}
use Rattle.shore_types.specs.declared.faults.Fault.{Fault}
use Rattle.shore_types.specs.declared.faults.Fault.TheVariants.{NoRecord}
use Rattle.shore_types.specs.declared.ids.Rid.{Rid}
use Rattle.shore_model.specs.declared.calls.Answer.{Answer}
use Rattle.shore_model.specs.declared.calls.Answer.TheVariants.{Inserted}
use Rattle.shore_model.specs.declared.calls.Call.{Call}
use Rattle.shore_model.specs.declared.calls.Call.TheVariants as call
use Rattle.shore_model.specs.declared.holds.Hold.{Hold}
use Rattle.shore_model.specs.Alone.{IsRight, record_named_by}
use Rattle.shore_model.specs.Locks.{MayRead, MayWrite}
use Rattle.shore_model.specs.Records.{Records}

-- The locks let the transaction have the answer: it may read what the answer tells, and write what the call changes. A scan tells of
-- each id of its store, of those too that have no record: under its lock no phantom can appear.
abbrev pub Permit : List Hold → ℕ → Call → Answer → Type 0
Permit held t (call.Get id) answer = MayRead held t id
Permit held t (call.GetForUpdate id) answer = MayRead held t id
Permit held t (call.Insert s bytes) (Inserted id) = MayWrite held t id
Permit held t (call.Insert s bytes) _ = ⊥
Permit held t (call.Update id bytes) answer = MayWrite held t id
Permit held t (call.Delete id) answer = MayWrite held t id
Permit held t (call.Scan s) answer = (id : Rid) → id.page.store ≡ s → MayRead held t id
Permit held t call.Begin answer = Unit {0}
Permit held t (call.Lock g mode) answer = Unit {0}
Permit held t (call.TryLock g mode) answer = Unit {0}
Permit held t call.Savepoint answer = Unit {0}
Permit held t (call.BackTo k) answer = Unit {0}
Permit held t call.Commit answer = Unit {0}
Permit held t call.Abort answer = Unit {0}
Permit held t (call.Prepare global) answer = Unit {0}
Permit held t (call.Resolve global outcome) answer = Unit {0}
Permit held t call.InDoubt answer = Unit {0}

-- the transaction may know that the id has no record: it may read the id and finds none, or the slot is beyond the most that a page has
abbrev pub IsKnownAbsent : ℕ → List Hold → ℕ → Records → Rid → Type 0
IsKnownAbsent most held t R id = (MayRead held t id × (get R id ≡ None)) ⊎ (most ≤ id.slot)

-- `NoRecord` comes only if the transaction may know it of the record that the call names; other refusals tell nothing of records
abbrev pub MayRefuseInPlace : ℕ → List Hold → ℕ → Records → Call → Fault → Type 0
MayRefuseInPlace most held t R c NoRecord = IsSomeAnd (record_named_by c) (IsKnownAbsent most held t R)
MayRefuseInPlace most held t R c _ = Unit {0}

-- the reply may be given to a transaction with n savepoints: its locks permit it, and it is right on the records in place
abbrev pub MayReplyInPlace : ℕ → List Hold → ℕ → Records → ℕ → Call → Result Answer Fault → Type 0
MayReplyInPlace most held t R n c (Ok answer) = Permit held t c answer × IsRight R n c answer
MayReplyInPlace most held t R n c (Err fault) = MayRefuseInPlace most held t R c fault
