use Rattle.std.proofs.Common.{◌≡◌, ◌≤◌, length}
use Rattle.shore_keys.specs.Exchanges.{GoesOn}
use Rattle.shore_keys.specs.Ranges.{Gathers, last_key}
use Rattle.shore_keys.proofs.ranges.range.Given as goal

abbrev pub invariant-loop-item : goal.invariant-loop-item
invariant-loop-item g l =
    GoesOn (Gathers l.fn.map l.fn.above l.fn.below l.items.items) (g.C.Caller.trail l.fn.client) (g.C.Caller.trail l.client)
    × (l.at ≡ last_key l.fn.above l.items.items) × (length l.items.items ≡ l._item) × (l._item ≤ l.fn.most)
