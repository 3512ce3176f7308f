-- What a volume holds between two batches.
use Rattle.std.specs.Prelude.{◌≡◌, ℕ, List, take, IsTrue}
use Rattle.shore_disk.specs.Device.{Stands}
use Rattle.shore_disk.specs.declared.device.Disk.{Ghosts}
use Rattle.shore_types.specs.declared.layout.Geometry.{Geometry}
use Rattle.shore_dwrite.specs.declared.places.TheConstants.{GATE_AT}
use Rattle.shore_dwrite.specs.declared.device.PageDev.{PageDev}
use Rattle.shore_dwrite.specs.Shown.{AreInPlace, IsShut, Shows}

-- the device that it stands on
abbrev pub device_of : {D : Type 0} {G : Ghosts D} → PageDev D G → D
device_of dev = dev.device

-- how its stores are laid out
abbrev pub geometry_of : {D : Type 0} {G : Ghosts D} → PageDev D G → Geometry
geometry_of dev = dev.geometry

-- The device is honest and holds this front and these pages in place behind a shut gate, all of it stable.
pub record IsSettled {D : Type 0} {G : Ghosts D} (dev : PageDev D G) (front : List ℕ) (pages : ℕ → List ℕ) : Type 0 where
  pub honest : IsTrue (G.is_honest dev.device)
  pub image : List ℕ
  pub stands : Stands (G.history dev.device) image
  pub front_is : take GATE_AT image ≡ front
  pub shut : IsShut image
  pub in_place : AreInPlace dev.geometry image pages

-- The device is honest and shows these pages behind this front, all of it stable: as after a loss of power and a sync.
pub record IsStable {D : Type 0} {G : Ghosts D} (dev : PageDev D G) (front : List ℕ) (pages : ℕ → List ℕ) : Type 0 where
  pub honest : IsTrue (G.is_honest dev.device)
  pub image : List ℕ
  pub stands : Stands (G.history dev.device) image
  pub front_is : take GATE_AT image ≡ front
  pub shows : Shows dev.geometry image pages
