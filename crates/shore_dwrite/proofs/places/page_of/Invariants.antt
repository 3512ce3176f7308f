use Rattle.std.proofs.Common.{◌≡◌, ◌+◌, ◌-◌, ◌<◌, ◌≤◌, take, sum, length}
use Rattle.shore_dwrite.proofs.places.page_of.Given as goal

abbrev pub invariant-loop-store : goal.invariant-loop-store
invariant-loop-store l = record {
  number_is : l.fn.number ≡ sum (take l.store l.stores) + l.page;
  within : l.fn.number < sum l.stores;
  inside : l.store ≤ length l.stores;
}

abbrev pub decreases-loop-store : goal.decreases-loop-store
decreases-loop-store l = length l.stores - l.store
