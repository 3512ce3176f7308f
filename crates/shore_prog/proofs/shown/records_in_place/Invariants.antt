use Rattle.std.proofs.Common.{◌≡◌, ◌≤◌, length, vec_len}
use Rattle.shore_world.specs.Worlds.{geometry_in}
use Rattle.shore_prog.proofs.shown.records_in_place.Given as goal

abbrev pub invariant-loop-number : goal.invariant-loop-number
invariant-loop-number l = record {
  count : vec_len l.found ≡ l.number;
  there : l.number ≤ length (geometry_in l.initial.world).stores;
  same : geometry_in l.world ≡ geometry_in l.initial.world;
}
