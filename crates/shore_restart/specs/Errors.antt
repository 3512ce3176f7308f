-- Why a restart ends without a core, and what each error says.
use Rattle.std.specs.Prelude.{◌≡◌, ◌≢◌, ◌⊎◌, ◌-◌, ◌<◌, ℕ, List, Result, Ok, Err, Some, slice_get, take}
use Rattle.shore_types.specs.Layout.{HasPage}
use Rattle.shore_types.specs.declared.faults.Device.TheVariants.{Volume}
use Rattle.shore_types.specs.declared.faults.Fault.{Fault}
use Rattle.shore_types.specs.declared.faults.Fault.TheVariants as fault
use Rattle.shore_types.specs.declared.ids.PageId.{PageId}
use Rattle.shore_types.specs.declared.layout.Geometry.{Geometry}
use Rattle.shore_types.specs.declared.versions.Version.{Version}
use Rattle.shore_model.specs.declared.log_records.LogRecord.{LogRecord}
use Rattle.shore_dwrite.specs.Volumes.{HasNoPage, page_number, page_offset}
use Rattle.laws_runs.specs.SlotCounts.{FitsBehind}
use Rattle.shore_restart.specs.declared.errors.RestartError.{RestartError}
use Rattle.shore_restart.specs.declared.errors.RestartError.TheVariants.{BadAnchor, BadRecord, Log, Memory, NoRoom, Page}

-- ---- which device an error tells of

-- what the volume answered, if an error is of a page
abbrev pub volume_answer : {A : Type 0} → Result A RestartError → Result (Unit {0}) Fault
volume_answer (Err (Page f)) = Err f
volume_answer (Err Memory) = Ok tt
volume_answer (Err NoRoom) = Ok tt
volume_answer (Err (BadRecord n)) = Ok tt
volume_answer (Err BadAnchor) = Ok tt
volume_answer (Err (Log f)) = Ok tt
volume_answer (Ok done) = Ok tt

-- what the log device answered, if an error is of a force
abbrev pub log_answer : {A : Type 0} → Result A RestartError → Result (Unit {0}) Fault
log_answer (Err (Log f)) = Err f
log_answer (Err Memory) = Ok tt
log_answer (Err NoRoom) = Ok tt
log_answer (Err (BadRecord n)) = Ok tt
log_answer (Err BadAnchor) = Ok tt
log_answer (Err (Page f)) = Ok tt
log_answer (Ok done) = Ok tt

-- the error that a fault of the volume gives: want of memory is none of its own
abbrev pub IsPageError : Fault → RestartError → Type 0
IsPageError f error = ((f ≡ fault.Memory) × (error ≡ Memory)) ⊎ ((f ≢ fault.Memory) × (error ≡ Page f))

-- .. and one of the log device
abbrev pub IsLogError : Fault → RestartError → Type 0
IsLogError f error = ((f ≡ fault.Memory) × (error ≡ Memory)) ⊎ ((f ≢ fault.Memory) × (error ≡ Log f))

-- ---- what an error says

-- a damaged page: its bytes are no text of it with a number up to the log's last
abbrev pub IsEarned : Geometry → (ℕ → List ℕ) → ℕ → RestartError → Type 0
IsEarned g disk last error = (offset : ℕ) → error ≡ Page (fault.Damaged Volume offset)
    → (id : PageId) × HasPage g id × (offset ≡ page_offset g.version (page_number g id)) × HasNoPage g.version (disk (page_number g id)) id last

-- the record of this number does not fit its page as the records before it leave that
abbrev pub DoesNotFit : Version → List LogRecord → ℕ → Type 0
DoesNotFit v log n = (0 < n) × ((r : LogRecord) × (slice_get log (n - 1) ≡ Some r) × (FitsBehind v (take (n - 1) log) r.payload → ⊥))
