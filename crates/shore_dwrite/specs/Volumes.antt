-- Where things are on a volume, and the number of each page there.
use Rattle.std.specs.Prelude.{◌≡◌, ◌<◌, ℕ, ◌+◌, ◌*◌, List, [], drop, length, slice_index, sum, take}
use Rattle.shore_types.specs.declared.ids.PageId.{PageId}
use Rattle.shore_types.specs.declared.layout.Geometry.{Geometry}
use Rattle.shore_types.specs.Images.{Image}
use Rattle.shore_types.specs.Layout.{HasPage}
use Rattle.shore_types.specs.declared.versions.Version.{Version}
use Rattle.shore_types.specs.Versions.{page_bytes, pages_begin}
use Rattle.shore_page.specs.Text.{IsPageText}

-- so many bytes at an offset
abbrev pub part : ℕ → ℕ → List ℕ → List ℕ
part offset bytes image = take bytes (drop offset image)

-- where the page of a number is
abbrev pub page_offset : Version → ℕ → ℕ
page_offset v k = pages_begin v + page_bytes v * k

-- what is there
abbrev pub page_at : Version → List ℕ → ℕ → List ℕ
page_at v image k = part (page_offset v k) (page_bytes v) image

-- the number of a page on the volume: the pages of all stores below its own come before it
abbrev pub page_number : Geometry → PageId → ℕ
page_number g id = sum (take id.store g.stores) + id.page

-- for each store the number of its first page, behind which others may stand
abbrev pub AreFirsts : List ℕ → List ℕ → Type 0
AreFirsts stores firsts = (store : ℕ) → store < length stores → slice_index firsts store ≡ sum (take store stores)

-- how many pages there are
abbrev pub page_count : Geometry → ℕ
page_count g = sum g.stores

-- the bytes are the text of the page of this number
pub record IsImageOf (g : Geometry) (k : ℕ) (bytes : List ℕ) : Type 0 where
  pub id : PageId
  pub there : HasPage g id
  pub number : page_number g id ≡ k
  pub lsn : ℕ
  pub images : List Image
  pub text : IsPageText g.version bytes id lsn images

-- the bytes are no text of the page with a number up to this one
abbrev pub HasNoPage : Version → List ℕ → PageId → ℕ → Type 0
HasNoPage v bytes id last = (number : ℕ) (images : List Image) → IsPageText v bytes id number images → last < number

-- each page has number 0 and no slot
abbrev pub AreEmpty : Geometry → (ℕ → List ℕ) → Type 0
AreEmpty g pages = (id : PageId) → HasPage g id → IsPageText g.version (pages (page_number g id)) id 0 []
