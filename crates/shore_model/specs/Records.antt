-- The records of a volume, and what a transaction has written over them. This project's own.
use Rattle.std.specs.Prelude.{◌≡◌, ◌==◌, ◌&&◌, ◌≤◌, ℕ, List, [], ◌∷◌, Option, None, Some, length, filter, nat_le, nat_lt, unwrap_or}
use Rattle.std.specs.FinMap.{FinMap, get, insert, remove, entries}
use Rattle.shore_types.specs.Ids.{rid_cmp}
use Rattle.shore_types.specs.Layout.{HasSlot}
use Rattle.shore_types.specs.declared.ids.Rid.{Rid}
use Rattle.shore_types.specs.declared.layout.Geometry.{Geometry}
use Rattle.shore_types.specs.Versions.{record_limit}
use Rattle.shore_types.specs.Images.{Image}

-- a finite map from record ids to bytes
abbrev pub Records : Type 0
Records = FinMap rid_cmp (List ℕ)

-- what was written, at the ids that were written: bytes, or that the record is gone
abbrev pub WriteSet : Type 0
WriteSet = FinMap rid_cmp Image

-- an id inside the geometry, and no more bytes than the version allows
abbrev pub IsRecord : Geometry → Rid → List ℕ → Type 0
IsRecord g id bytes = HasSlot g id × (length bytes ≤ record_limit g.version)

-- each id lies inside the geometry, and no record is too long
abbrev pub AreRecords : Geometry → Records → Type 0
AreRecords g R = (id : Rid) (bytes : List ℕ) → get R id ≡ Some bytes → IsRecord g id bytes

-- the records with one image in its place
abbrev pub put_image : Records → Rid → Image → Records
put_image R id (Some bytes) = insert R id bytes
put_image R id None = remove R id

-- the records with each image in its place. At an id that comes twice the first image counts
abbrev pub laid_over : Records → List (Rid × Image) → Records
laid_over R [] = R
laid_over R (e ∷ es) = put_image (laid_over R es) e.0 e.1

-- the overlay of records by a write set
abbrev pub overlay : Records → WriteSet → Records
overlay R W = laid_over R (entries W)

-- the overlay by several write sets in turn
abbrev pub overlays : Records → List WriteSet → Records
overlays R [] = R
overlays R (W ∷ Ws) = overlays (overlay R W) Ws

-- the records of a store, in place order
abbrev pub scan_of : ℕ → Records → List (Rid × List ℕ)
scan_of s R = filter (λ e. e.0.page.store == s) (entries R)

-- the records on the pages of a store from one on and before another, in place order
abbrev pub part_of : ℕ → ℕ → ℕ → Records → List (Rid × List ℕ)
part_of s from to R = filter (λ e. (e.0.page.store == s) && nat_le from e.0.page.page && nat_lt e.0.page.page to) (entries R)

-- the overlay answers from the write set first
abbrev pub OverlayAnswers : Type 0
OverlayAnswers = (R : Records) (W : WriteSet) (id : Rid) → get (overlay R W) id ≡ unwrap_or (get W id) (get R id)
