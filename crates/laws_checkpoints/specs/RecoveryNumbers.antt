-- The recovery number of each page (ARIES: RecLSN), and the table of dirty pages that a checkpoint takes of them.
use Rattle.std.specs.Prelude.{◌≡◌, ◌<◌, ◌⊎◌, ◌+◌, ◌-◌, ◌==◌, ◌&&◌, ℕ, List, [], ◌∷◌, Option, None, Some, IsSomeAnd, if◌then◌else◌, take, slice_get}
use Rattle.std.specs.List.{AllByRecursion}
use Rattle.std.specs.Ordering.{eq_by_cmp}
use Rattle.shore_types.specs.Ids.{page_cmp}
use Rattle.shore_types.specs.Images.{Image}
use Rattle.shore_types.specs.declared.ids.PageId.{PageId}
use Rattle.shore_types.specs.declared.ids.Rid.{Rid}
use Rattle.shore_model.specs.declared.log_records.DirtyPage.{DirtyPage}
use Rattle.shore_model.specs.declared.log_records.LogRecord.{LogRecord}
use Rattle.shore_model.specs.declared.log_records.Payload.TheVariants.{CheckpointEnd}
use Rattle.shore_model.specs.declared.log_records.LogTxn.{LogTxn}
use Rattle.shore_model.specs.Logs.{image_in}
use Rattle.laws_lives.specs.Pages.{LoggedPage, needs_redo}
use Rattle.laws_lives.specs.Recovery.{AppendRecord, FlushPage, ForceLog, LosePower, RecoveryEvent, RecoveryState, RedoRecord}

-- the number of the first record that changed the page in place since it was as on the volume, 0 if it is so now
abbrev pub RecoveryNumbers : Type 0
RecoveryNumbers = PageId → ℕ

-- once record n is done on the page: a page that was clean and is changed by it gets its number
abbrev pub noted_on : ℕ → Option (Rid × Image) → PageId → LoggedPage → ℕ → ℕ
noted_on n None p page old = old
noted_on n (Some e) p page old = if needs_redo n p page e.0 && (old == 0) then n else old

abbrev pub noted_next : ℕ → Option LogRecord → PageId → LoggedPage → ℕ → ℕ
noted_next n None p page old = old
noted_next n (Some r) p page old = noted_on n (image_in r.payload) p page old

abbrev pub recovery_after : RecoveryState → RecoveryEvent → RecoveryNumbers → RecoveryNumbers
recovery_after s (AppendRecord r) recovery = λ p. noted_on (s.redone + 1) (image_in r.payload) p (s.in_place p) (recovery p)
recovery_after s RedoRecord recovery = λ p. noted_next (s.redone + 1) (slice_get s.log s.redone) p (s.in_place p) (recovery p)
recovery_after s (FlushPage q) recovery = λ p. if eq_by_cmp page_cmp p q then 0 else recovery p
recovery_after s (ForceLog n) recovery = recovery
recovery_after s (LosePower n left begin) recovery = λ p. 0

-- ---- the table

abbrev pub ListsPage : PageId → List DirtyPage → Type 0
ListsPage p [] = ⊥
ListsPage p (d ∷ ds) = (d.page ≡ p) ⊎ ListsPage p ds

-- the table lists the dirty pages, each with its recovery number
pub record IsDirtyTableOf (recovery : RecoveryNumbers) (dirty : List DirtyPage) : Type 0 where
  pub each : AllByRecursion (λ d. (0 < d.recovery) × (d.recovery ≡ recovery d.page)) dirty
  pub every : (p : PageId) → 0 < recovery p → ListsPage p dirty

-- the record of this number changes the page
abbrev pub ChangesPage : List LogRecord → ℕ → PageId → Type 0
ChangesPage log n p = (0 < n) × IsSomeAnd (slice_get log (n - 1)) (λ r. IsSomeAnd (image_in r.payload) (λ e. e.0.page ≡ p))

-- each page stands in the table with the number of a record from before the checkpoint's begin, which changes it
abbrev pub ListsChanges : List LogRecord → ℕ → List DirtyPage → Type 0
ListsChanges log begin dirty = AllByRecursion (λ d. (d.recovery < begin) × ChangesPage log d.recovery d.page) dirty

-- so does each End list its pages, by the records before it
abbrev pub EndsListChanges : List LogRecord → Type 0
EndsListChanges log = (n : ℕ) (r : LogRecord) (begin next : ℕ) (txns : List LogTxn) (dirty : List DirtyPage) → slice_get log n ≡ Some r
    → r.payload ≡ CheckpointEnd begin next txns dirty → ListsChanges (take n log) begin dirty
