use Rattle.std.proofs.Common.{◌≡◌, ℕ, take}
use Rattle.shore_pool.specs.Changes.{settled_at}
use Rattle.shore_pool.specs.FrameMaps.{frame_at, KeepsShape}
use Rattle.shore_pool.proofs.frames.Frames.settle_all.Given as goal

abbrev pub invariant-loop-i : goal.invariant-loop-i
invariant-loop-i l = ((k : ℕ) → frame_at l.self k ≡ settled_at (take l.i l.numbers) (frame_at l.initial.self) k) × KeepsShape l.initial.self l.self
