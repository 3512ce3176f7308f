-- The tables of a whole log (ARIES: the transaction table and the dirty page table at the end of analysis).
use Rattle.std.specs.Prelude.{◌≡◌, ◌<◌, ◌≤◌, ℕ, List, [], ◌∷◌, Bool, true, false, Option, None, Some, All, Any, filter, map, reverse, if◌then◌else◌}
use Rattle.std.specs.Ordering.{eq_by_cmp}
use Rattle.std.specs.List.Sorted.{IsStrictlySortedBy}
use Rattle.shore_types.specs.Ids.{page_cmp}
use Rattle.shore_types.specs.declared.ids.PageId.{PageId}
use Rattle.shore_types.specs.declared.ids.Rid.{Rid}
use Rattle.shore_model.specs.declared.log_records.DirtyPage.{DirtyPage}
use Rattle.shore_model.specs.declared.log_records.LogRecord.{LogRecord}
use Rattle.shore_model.specs.declared.log_records.TxnState.{TxnState}
use Rattle.shore_model.specs.declared.log_records.TxnState.TheVariants.{Active, Prepared, RollingBack}
use Rattle.shore_model.specs.declared.log_records.Payload.{Payload}
use Rattle.shore_model.specs.declared.log_records.Payload.TheVariants.{Change, Compensation, Commit, End, Prepare, RollbackDecided, CheckpointBegin, CheckpointEnd, Anchor}
use Rattle.shore_model.specs.Logs.{IsTable, first_number, id_in, is_in_doubt, numbered, records_of}
use Rattle.shore_analysis.specs.declared.analysis.Tables.{Tables}

-- ---- transactions

-- by such a record its transaction goes back
abbrev pub is_undo : Payload → Bool
is_undo (Change id before image) = false
is_undo (Compensation id image undo_next) = true
is_undo Commit = false
is_undo End = false
is_undo (Prepare global granules) = false
is_undo RollbackDecided = true
is_undo CheckpointBegin = false
is_undo (CheckpointEnd begin next txns dirty) = false
is_undo (Anchor checkpoint tail) = false

-- the newest of some records, the newest first, is one by which its transaction goes back
abbrev pub newest_is_undo : List (ℕ × LogRecord) → Bool
newest_is_undo [] = false
newest_is_undo (r ∷ older) = is_undo r.1.payload

-- a transaction is prepared as long as it is in doubt; another rolls back if its last record says so
abbrev pub state_of : ℕ → List LogRecord → TxnState
state_of t rs = if is_in_doubt t rs then Prepared else (if newest_is_undo (reverse (records_of t rs)) then RollingBack else Active)

-- ---- pages

-- the record changes the page
abbrev pub is_on_page : PageId → Option Rid → Bool
is_on_page p None = false
is_on_page p (Some id) = eq_by_cmp page_cmp p id.page

-- the number of the first record that changes the page, 0 if none does
abbrev pub first_change : PageId → List LogRecord → ℕ
first_change p rs = first_number (filter (λ r. is_on_page p (id_in r.1.payload)) (numbered rs))

-- the pages that records change, rising by store and page, each with the number of the first record that changes it
pub record IsDirtyTable (rs : List LogRecord) (dirty : List DirtyPage) : Type 0 where
  pub rising : IsStrictlySortedBy page_cmp (map (λ d. d.page) dirty)
  pub each : All (λ d. (0 < d.recovery) × (d.recovery ≡ first_change d.page rs)) dirty
  pub every : (p : PageId) → 0 < first_change p rs → Any (λ d. d.page ≡ p) dirty

-- ---- all of them

-- 1 above the greatest number of a transaction, 1 if there is none
pub record IsNext (rs : List LogRecord) (next : ℕ) : Type 0 where
  pub some : 1 ≤ next
  pub above : All (λ r. r.txn < next) rs
  pub least : (n : ℕ) → 1 ≤ n → All (λ r. r.txn < n) rs → next ≤ n

pub record AreTables (rs : List LogRecord) (tables : Tables) : Type 0 where
  pub txns : IsTable rs tables.txns
  pub states : All (λ e. e.state ≡ state_of e.txn rs) tables.txns
  pub dirty : IsDirtyTable rs tables.dirty
  pub next : IsNext rs tables.next
