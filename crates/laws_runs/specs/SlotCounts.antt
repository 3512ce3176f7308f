-- How many slots pages have by a log, and which changes fit a page as the records before them leave it.
use Rattle.std.specs.Prelude.{◌≡◌, ◌+◌, ℕ, List, [], ◌∷◌, Option, None, Some, max, take, slice_get, if◌then◌else◌}
use Rattle.std.specs.Option.{ForSome}
use Rattle.std.specs.Ordering.{eq_by_cmp}
use Rattle.shore_types.specs.Ids.{page_cmp}
use Rattle.shore_types.specs.Images.{Image, image_len}
use Rattle.shore_types.specs.declared.ids.PageId.{PageId}
use Rattle.shore_types.specs.declared.ids.Rid.{Rid}
use Rattle.shore_types.specs.declared.versions.Version.{Version}
use Rattle.shore_model.specs.declared.log_records.LogRecord.{LogRecord}
use Rattle.shore_model.specs.declared.log_records.Payload.{Payload}
use Rattle.shore_model.specs.Logs.{image_in, image_of_record}
use Rattle.shore_page.specs.Room.{Fits}
use Rattle.shore_page.specs.Slots.{Slot, settled}
use Rattle.laws_room.specs.Claims.{each_from, rid_on}

-- a change of a slot leaves its page with this slot at least
abbrev pub slots_behind : PageId → Option (Rid × Image) → ℕ → ℕ
slots_behind p None n = n
slots_behind p (Some e) n = if eq_by_cmp page_cmp p e.0.page then max n (e.0.slot + 1) else n

-- how many slots the page has by these records: a slot never goes away
abbrev pub slot_count : List LogRecord → PageId → ℕ
slot_count [] p = 0
slot_count (r ∷ rs) p = slots_behind p (image_in r.payload) (slot_count rs p)

-- the slots of the page as these records leave it, each with what its record takes
abbrev pub slots_left : List LogRecord → PageId → List Slot
slots_left log p = each_from (λ i. settled (image_of_record log (rid_on p i))) 0 (slot_count log p)

-- the image that a record leaves fits its page as the records before it leave that
abbrev pub FitsBehind : Version → List LogRecord → Payload → Type 0
FitsBehind v before payload = ForSome (image_in payload) (λ e. Fits v (slots_left before e.0.page) e.0.slot (image_len e.1))

-- so does that of each record of the log
abbrev pub EachFits : Version → List LogRecord → Type 0
EachFits v log = (n : ℕ) (r : LogRecord) → slice_get log n ≡ Some r → FitsBehind v (take n log) r.payload
