-- How many records of a log are missing on pages: what redo has to do.
use Rattle.std.specs.Prelude.{if◌then◌else◌, ◌+◌, ℕ, List, [], ◌∷◌, Bool, false, Option, None, Some, nat_lt}
use Rattle.shore_types.specs.Images.{Image}
use Rattle.shore_types.specs.declared.ids.Rid.{Rid}
use Rattle.shore_model.specs.declared.log_records.LogRecord.{LogRecord}
use Rattle.shore_model.specs.Logs.{image_in}
use Rattle.laws_lives.specs.Pages.{LoggedPages}

-- record n, if it has this image, changes a page with a lower number
abbrev pub is_missing : LoggedPages → ℕ → Option (Rid × Image) → Bool
is_missing pages n None = false
is_missing pages n (Some e) = nat_lt (pages e.0.page).number n

-- how many are, of records behind so many others
abbrev pub missing_behind : ℕ → List LogRecord → LoggedPages → ℕ
missing_behind n [] pages = 0
missing_behind n (r ∷ rs) pages = (if is_missing pages (n + 1) (image_in r.payload) then 1 else 0) + missing_behind (n + 1) rs pages

-- .. and of a whole log
abbrev pub missing_on : List LogRecord → LoggedPages → ℕ
missing_on log pages = missing_behind 0 log pages
