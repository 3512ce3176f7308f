use Rattle.std.proofs.Common.{◌≡◌, length, take}
use Rattle.shore_disk.specs.Memory.{laid}
use Rattle.shore_disk.proofs.memory.lay.Given as goal

abbrev pub invariant-loop-place : goal.invariant-loop-place
invariant-loop-place l = record {
  so_far : l.image ≡ laid l.from l.initial.image (take l.place-index l.places);
  room : length l.image ≡ length l.from;
}
