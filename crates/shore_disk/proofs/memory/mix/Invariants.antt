use Rattle.std.proofs.Common.{◌≡◌, ◌+◌, length, drop}
use Rattle.std.specs.List.{sum_by}
use Rattle.shore_disk.specs.Memory.{mixed, place_len}
use Rattle.shore_disk.proofs.memory.mix.Given as goal

abbrev pub invariant-loop-index : goal.invariant-loop-index
invariant-loop-index l = record {
  left : mixed l.bits l.index l.image (drop l.from l.written) (drop l.index l.places) ≡ mixed l.bits 0 l.initial.image l.written l.places;
  kept : l.from + sum_by place_len (drop l.index l.places) ≡ length l.written;
  room : length l.image ≡ length l.initial.image;
}
