-- The pages of a batch.
use Rattle.std.specs.Prelude.{◌*◌, ◌≤◌, ℕ, List, vec_capacity}
use Rattle.shore_types.specs.declared.versions.Version.{Version}
use Rattle.shore_types.specs.Versions.{page_bytes}
use Rattle.shore_dwrite.specs.declared.images.PageImages.{PageImages}

-- their numbers on the volume
abbrev pub numbers_of : PageImages → List ℕ
numbers_of images = images.numbers.items

-- their texts, one behind another
abbrev pub texts_of : PageImages → List ℕ
texts_of images = images.bytes.items

-- the version of the texts
abbrev pub version_of : PageImages → Version
version_of images = images.version

-- there is memory for so many pages in all
abbrev pub HasRoomFor : PageImages → ℕ → Type 0
HasRoomFor images most = (most ≤ vec_capacity images.numbers) × (page_bytes images.version * most ≤ vec_capacity images.bytes)
