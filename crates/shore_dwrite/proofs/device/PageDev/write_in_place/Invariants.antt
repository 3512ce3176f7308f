use Rattle.std.proofs.Common.{◌≡◌, ℕ, List, IsTrue}
use Rattle.shore_disk.specs.Device.{Stands, size}
use Rattle.shore_dwrite.specs.Syncs.{syncs_of}
use Rattle.shore_dwrite.proofs.InPlace.{WroteFirst}
use Rattle.shore_dwrite.proofs.device.PageDev.write_in_place.Given as goal

abbrev pub invariant-loop-i : goal.invariant-loop-i
invariant-loop-i g l = record {
  honest : g.D.Disk.is_honest l.self.device ≡ g.D.Disk.is_honest l.initial.self.device;
  size : size (g.D.Disk.history l.self.device) ≡ size (g.D.Disk.history l.initial.self.device);
  faults : g.D.Disk.faults l.self.device ≡ g.D.Disk.faults l.initial.self.device;
  geometry : l.self.geometry ≡ l.initial.self.geometry;
  none : IsTrue (g.D.Disk.is_honest l.initial.self.device) → syncs_of (g.D.Disk.history l.self.device) ≡ syncs_of (g.D.Disk.history l.initial.self.device);
  wrote : IsTrue (g.D.Disk.is_honest l.initial.self.device) → (base : List ℕ) → Stands (g.D.Disk.history l.initial.self.device) base
      → WroteFirst l.initial.self.geometry.version (g.D.Disk.history l.initial.self.device) (g.D.Disk.history l.self.device) l.numbers l.bytes base l.i;
}
