use Rattle.std.proofs.Common.{◌≤◌, ◌<◌, ◌-◌, ℕ, [], length}
use Rattle.shore_rings.specs.Rings.{IsRing}
use Rattle.shore_nodes.proofs.nodes.lone_rings.Given as goal

abbrev pub invariant-loop-rings : goal.invariant-loop-rings
invariant-loop-rings l = (length l.rings ≤ l.count) × ((head : ℕ) → head < length l.rings → IsRing l.rings head [])

abbrev pub decreases-loop-rings : goal.decreases-loop-rings
decreases-loop-rings l = l.count - length l.rings
