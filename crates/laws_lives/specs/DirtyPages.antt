-- The table of dirty pages that a checkpoint logs, and where redo may begin by it (ARIES: recovery LSNs and RedoLSN).
use Rattle.std.specs.Prelude.{◌≡◌, ◌<◌, ◌≤◌, ◌+◌, ◌-◌, ℕ, List, [], ◌∷◌, Some, true, min, slice_get, if◌then◌else◌}
use Rattle.std.specs.Ordering.{eq_by_cmp}
use Rattle.shore_types.specs.Ids.{page_cmp}
use Rattle.shore_types.specs.Images.{Image}
use Rattle.shore_types.specs.declared.ids.PageId.{PageId}
use Rattle.shore_types.specs.declared.ids.Rid.{Rid}
use Rattle.shore_model.specs.declared.log_records.DirtyPage.{DirtyPage}
use Rattle.shore_model.specs.declared.log_records.LogRecord.{LogRecord}
use Rattle.shore_model.specs.Logs.{image_in}
use Rattle.laws_lives.specs.Pages.{LoggedPage, LoggedPages, LacksNone}

-- How many first records the table says are on the page of the volume: those before its recovery number if it is listed, and in any case
-- none from the checkpoint's begin on.
abbrev pub surely_on_page : ℕ → List DirtyPage → PageId → ℕ
surely_on_page begin [] p = begin - 1
surely_on_page begin (d ∷ ds) p = if eq_by_cmp page_cmp p d.page then min (d.recovery - 1) (begin - 1) else surely_on_page begin ds p

-- the table is right of these pages
abbrev pub TableCovers : List LogRecord → ℕ → List DirtyPage → LoggedPages → Type 0
TableCovers log begin dirty pages = (p : PageId) → LacksNone log p (surely_on_page begin dirty p) (pages p)

-- redo begins behind this record: before the least recovery number, and before the checkpoint's begin
abbrev pub redo_begins_behind : ℕ → List DirtyPage → ℕ
redo_begins_behind begin [] = begin - 1
redo_begins_behind begin (d ∷ ds) = min (d.recovery - 1) (redo_begins_behind begin ds)

-- no record among the first n that changes the page has a number above the page's
abbrev pub HasAllUpTo : List LogRecord → PageId → LoggedPage → ℕ → Type 0
HasAllUpTo log p page n =
    (k : ℕ) (r : LogRecord) (e : Rid × Image) → k < n → slice_get log k ≡ Some r → image_in r.payload ≡ Some e
    → eq_by_cmp page_cmp p e.0.page ≡ true → k + 1 ≤ page.number
