-- The pages that a migration writes: each as redo of the whole log makes it of an empty one.
use Rattle.std.specs.Prelude.{◌+◌, ℕ, List, [], ◌∷◌}
use Rattle.shore_types.specs.declared.ids.PageId.{PageId}
use Rattle.shore_model.specs.declared.log_records.LogRecord.{LogRecord}
use Rattle.shore_model.specs.Logs.{image_in}
use Rattle.laws_lives.specs.Pages.{LoggedPage, LoggedPages, empty_page, redone_on}

-- redo of these records, numbered behind a number, on a page
abbrev pub redone_from : ℕ → List LogRecord → PageId → LoggedPage → LoggedPage
redone_from n [] p page = page
redone_from n (r ∷ rs) p page = redone_from (n + 1) rs p (redone_on (n + 1) (image_in r.payload) p page)

abbrev pub full_pages : List LogRecord → LoggedPages
full_pages log p = redone_from 0 log p empty_page
