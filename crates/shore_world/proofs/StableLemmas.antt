-- A page device that was made over a volume, and what a replay of it leaves.
use Rattle.std.proofs.Common.{◌≡◌, ℕ, List, IsTrue, take, refl, sym, subst}
use Rattle.shore_types.specs.declared.layout.Geometry.{Geometry}
use Rattle.shore_disk.specs.Device.{DeviceHistory, LeavesOnly, Stands}
use Rattle.shore_disk.specs.declared.device.Disk.{Ghosts}
use Rattle.shore_dwrite.specs.Settled.{IsStable, device_of, geometry_of}
use Rattle.shore_dwrite.specs.Shown.{Shows, ShowsBehind}
use Rattle.shore_dwrite.specs.declared.device.PageDev.{PageDev}
use Rattle.shore_dwrite.specs.declared.places.TheConstants.{GATE_AT}

module _ {D : Type 0} {G : Ghosts D} (volume : D) (dev : PageDev D G) (g : Geometry) (same : device_of dev ≡ volume) (geometry : geometry_of dev ≡ g)
    (honest : IsTrue (G.is_honest volume)) (image : List ℕ) (texts : ℕ → List ℕ) (stands : Stands (G.history volume) image) (shows : Shows g image texts) where
  -- it is stable as the volume is
  pub stable_on : IsStable dev (take GATE_AT image) texts
  stable_on = record {
    honest = subst (λ (d : D). IsTrue (G.is_honest d)) (sym same) honest;
    image = image;
    stands = subst (λ (d : D). Stands (G.history d) image) (sym same) stands;
    front_is = refl;
    shows = subst (λ (x : Geometry). Shows x image texts) (sym geometry) shows;
  }

  -- .. and so is what a replay leaves at any moment
  pub shown_on : (later : DeviceHistory) → LeavesOnly (G.history (device_of dev)) later (ShowsBehind (geometry_of dev) (take GATE_AT image) texts)
      → LeavesOnly (G.history volume) later (ShowsBehind g (take GATE_AT image) texts)
  shown_on later leaves =
      subst (λ (d : D). LeavesOnly (G.history d) later (ShowsBehind g (take GATE_AT image) texts)) same
      (subst (λ (x : Geometry). LeavesOnly (G.history (device_of dev)) later (ShowsBehind x (take GATE_AT image) texts)) geometry leaves)
