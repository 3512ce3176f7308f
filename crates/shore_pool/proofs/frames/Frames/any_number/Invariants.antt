use Rattle.std.proofs.Common.{◌≡◌, ◌<◌, ℕ, None}
use Rattle.slab.specs.Slab.{get}
use Rattle.shore_pool.proofs.frames.Frames.any_number.Given as goal

abbrev pub invariant-loop-key : goal.invariant-loop-key
invariant-loop-key l = (key : ℕ) → key < l.key → get l.self.slots key ≡ None
