use Rattle.std.proofs.Common.{◌≡◌, length, map, take, vec_capacity}
use Rattle.shore_heap.proofs.Bounds.{unknown}
use Rattle.shore_heap.proofs.maps.unknown_maps.Given as goal

abbrev pub invariant-loop-i : goal.invariant-loop-i
invariant-loop-i l = (l.maps.items ≡ map unknown (take l.i l.geometry.stores)) × (vec_capacity l.maps ≡ length l.geometry.stores)
