use Rattle.std.proofs.Common.{◌<◌, ℕ}
use Rattle.shore_pool.specs.FrameMaps.{IsNotClean}
use Rattle.shore_pool.proofs.frames.Frames.first_clean.Given as goal

abbrev pub invariant-loop-key : goal.invariant-loop-key
invariant-loop-key l = (key : ℕ) → key < l.key → IsNotClean l.self key
