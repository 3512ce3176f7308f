use Rattle.std.proofs.Common.{◌≡◌, ◌+◌, ◌<◌, ◌≤◌, ◌++◌, length, drop, vec_capacity}
use Rattle.std.specs.List.{sum_by}
use Rattle.shore_types.specs.Images.{image_len}
use Rattle.shore_types.specs.Runs.{ends_from, slotted_images}
use Rattle.shore_types.proofs.pairs.push_ends.Given as goal

abbrev pub invariant-loop-slot : goal.invariant-loop-slot
invariant-loop-slot g l = record {
  ends : l.ends.items ++ ends_from l.id l.slot l.end (drop l.slot (slotted_images g.S.Slotted l.slots)) ≡ l.initial.ends.items ++ ends_from l.id 0 l.from (slotted_images g.S.Slotted l.slots);
  room : l.end + sum_by image_len (drop l.slot (slotted_images g.S.Slotted l.slots)) < 18446744073709551616;
  capacity : length l.ends.items + length (drop l.slot (slotted_images g.S.Slotted l.slots)) ≤ vec_capacity l.ends;
}
