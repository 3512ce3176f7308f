-- What a page has of the log: as of which record it is, by the number that it carries (ARIES: page_LSN), and the redo of a record.
use Rattle.std.specs.Prelude.{◌≡◌, ◌≤◌, ℕ, List, Bool, Option, None, Some, max, nat_lt, length, take, if◌then◌else◌, ◌&&◌}
use Rattle.std.specs.Ordering.{eq_by_cmp}
use Rattle.shore_types.specs.Ids.{page_cmp, rid_cmp}
use Rattle.shore_types.specs.Images.{Image}
use Rattle.shore_types.specs.declared.ids.PageId.{PageId}
use Rattle.shore_types.specs.declared.ids.Rid.{Rid}
use Rattle.shore_model.specs.declared.log_records.LogRecord.{LogRecord}
use Rattle.shore_model.specs.Logs.{image_in, image_of_record}

-- a page as the log speaks of it: the number of the record last redone or made on it, and an image for each slot
pub record LoggedPage : Type 0 where
  pub number : ℕ
  pub slots : ℕ → Image

abbrev pub LoggedPages : Type 0
LoggedPages = PageId → LoggedPage

abbrev pub empty_page : LoggedPage
empty_page = record { number = 0; slots = λ i. None }

-- the id of a slot of the page
abbrev pub rid_on : PageId → ℕ → Rid
rid_on p i = record { page = p; slot = i }

-- the page is as the first n records leave it, and carries no higher number
pub record IsAsOf (log : List LogRecord) (p : PageId) (n : ℕ) (page : LoggedPage) : Type 0 where
  pub number : page.number ≤ n
  pub within : n ≤ length log
  pub slots : (i : ℕ) → page.slots i ≡ image_of_record (take n log) (rid_on p i)

abbrev pub IsAsOfOwnNumber : List LogRecord → PageId → LoggedPage → Type 0
IsAsOfOwnNumber log p page = IsAsOf log p page.number page

abbrev pub AreAsOfOwnNumbers : List LogRecord → LoggedPages → Type 0
AreAsOfOwnNumbers log pages = (p : PageId) → IsAsOfOwnNumber log p (pages p)

-- None of the first n records is missing on the page: it is as of its own number, and as of each number from there up to n. As of n
-- alone would be less: two records after its number may cancel out, and a crash may cut the log between them.
pub record LacksNone (log : List LogRecord) (p : PageId) (n : ℕ) (page : LoggedPage) : Type 0 where
  pub each : (m : ℕ) → page.number ≤ m → m ≤ max n page.number → IsAsOf log p m page

-- none of the first n records is missing on any page
abbrev pub PagesLackNone : List LogRecord → ℕ → LoggedPages → Type 0
PagesLackNone log n pages = (p : PageId) → LacksNone log p n (pages p)

-- ---- redo

-- the slots, with this image at the id if it is one of the page's
abbrev pub slots_with : PageId → (ℕ → Image) → Rid → Image → ℕ → Image
slots_with p slots id image = λ i. if eq_by_cmp rid_cmp (rid_on p i) id then image else slots i

-- record n changes a slot of this page, and the page does not have it yet
abbrev pub needs_redo : ℕ → PageId → LoggedPage → Rid → Bool
needs_redo n p page id = eq_by_cmp page_cmp p id.page && nat_lt page.number n

-- the page after redo of record n, whose image this is
abbrev pub redone_on : ℕ → Option (Rid × Image) → PageId → LoggedPage → LoggedPage
redone_on n None p page = page
redone_on n (Some e) p page = if needs_redo n p page e.0 then record { number = n; slots = slots_with p page.slots e.0 e.1 } else page

-- every page after redo of record n
abbrev pub redone_on_all : ℕ → LogRecord → LoggedPages → LoggedPages
redone_on_all n r pages = λ p. redone_on n (image_in r.payload) p (pages p)
