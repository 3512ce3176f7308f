use Rattle.std.proofs.Common.{◌≡◌, length, take}
use Rattle.shore_disk.specs.Memory.{with_noise}
use Rattle.shore_disk.proofs.memory.spoil.Given as goal

abbrev pub invariant-loop-place : goal.invariant-loop-place
invariant-loop-place l = record {
  so_far : l.image ≡ with_noise l.initial.image (take l.place-index l.places);
  room : length l.image ≡ length l.initial.image;
}
