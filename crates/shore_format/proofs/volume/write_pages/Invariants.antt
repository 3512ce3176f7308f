use Rattle.std.proofs.Common.{◌≡◌, IsTrue}
use Rattle.shore_disk.specs.Device.{size}
use Rattle.shore_format.proofs.VolumeLemmas.{WroteFirst}
use Rattle.shore_format.proofs.volume.write_pages.Given as goal

abbrev pub invariant-loop-number : goal.invariant-loop-number
invariant-loop-number g l = record {
  honest : g.D.Disk.is_honest l.volume ≡ g.D.Disk.is_honest l.initial.volume;
  size : size (g.D.Disk.history l.volume) ≡ size (g.D.Disk.history l.initial.volume);
  faults : g.D.Disk.faults l.volume ≡ g.D.Disk.faults l.initial.volume;
  wrote : IsTrue (g.D.Disk.is_honest l.initial.volume) → WroteFirst l.geometry (g.D.Disk.history l.initial.volume) (g.D.Disk.history l.volume) l.number;
}
