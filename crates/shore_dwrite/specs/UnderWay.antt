-- What a volume holds amid a batch, between two of its four syncs.
use Rattle.std.specs.Prelude.{◌≡◌, ◌*◌, ◌<◌, ℕ, List, [], ◌∷◌, Contains, IsTrue, length, take}
use Rattle.shore_disk.specs.Device.{Stands}
use Rattle.shore_disk.specs.declared.device.Disk.{Ghosts}
use Rattle.shore_gate.specs.declared.gates.TheConstants.{OPEN}
use Rattle.shore_types.specs.declared.layout.Geometry.{Geometry}
use Rattle.shore_types.specs.Versions.{page_bytes}
use Rattle.shore_dwrite.specs.declared.places.TheConstants.{AREA_AT, GATE_AT, TABLE_AT, TABLE_BYTES}
use Rattle.shore_dwrite.specs.declared.device.PageDev.{PageDev}
use Rattle.shore_dwrite.specs.Shown.{AreInPlace, IsBatch, IsShut, overlaid}
use Rattle.shore_dwrite.specs.Tables.{IsTable}
use Rattle.shore_dwrite.specs.Volumes.{page_at, page_count, part}

-- The area has the images of a batch, whatever its gate says, and each page that is not of the batch is in place.
pub record IsLaid (g : Geometry) (front : List ℕ) (pages : ℕ → List ℕ) (numbers texts image : List ℕ) : Type 0 where
  pub front_is : take GATE_AT image ≡ front
  pub table : IsTable (part TABLE_AT TABLE_BYTES image) numbers
  pub texts_are : part AREA_AT (length texts) image ≡ texts
  pub others : (k : ℕ) → k < page_count g → (Contains numbers k → ⊥) → page_at g.version image k ≡ pages k

-- After the first sync: the area has the batch, its gate is shut, and each page is in place as it was.
pub record IsWritten {D : Type 0} {G : Ghosts D} (dev : PageDev D G) (front : List ℕ) (pages : ℕ → List ℕ) (numbers texts : List ℕ) : Type 0 where
  pub honest : IsTrue (G.is_honest dev.device)
  pub batch : IsBatch dev.geometry numbers texts
  pub long : length texts ≡ page_bytes dev.geometry.version * length numbers
  pub image : List ℕ
  pub stands : Stands (G.history dev.device) image
  pub laid : IsLaid dev.geometry front pages numbers texts image
  pub shut : IsShut image
  pub in_place : AreInPlace dev.geometry image pages

-- After the second: the gate is open, so the volume shows the batch's pages, wherever they are. What stands in their places is not said.
pub record IsOpened {D : Type 0} {G : Ghosts D} (dev : PageDev D G) (front : List ℕ) (pages : ℕ → List ℕ) (numbers texts : List ℕ) : Type 0 where
  pub honest : IsTrue (G.is_honest dev.device)
  pub batch : IsBatch dev.geometry numbers texts
  pub long : length texts ≡ page_bytes dev.geometry.version * length numbers
  pub image : List ℕ
  pub stands : Stands (G.history dev.device) image
  pub laid : IsLaid dev.geometry front pages numbers texts image
  pub is_open : part GATE_AT 1 image ≡ OPEN ∷ []

-- After the third: the batch's pages are in place, and the gate is open still.
pub record IsPlaced {D : Type 0} {G : Ghosts D} (dev : PageDev D G) (front : List ℕ) (pages : ℕ → List ℕ) (numbers texts : List ℕ) : Type 0 where
  pub opened : IsOpened dev front pages numbers texts
  pub in_place : AreInPlace dev.geometry opened.image (overlaid dev.geometry.version numbers texts pages)
