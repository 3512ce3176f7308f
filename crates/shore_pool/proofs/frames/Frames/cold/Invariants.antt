use Rattle.shore_pool.specs.FrameMaps.{KeepsShape, SameFrames}
use Rattle.shore_pool.proofs.frames.Frames.cold.Given as goal

abbrev pub invariant-loop : goal.invariant-loop
invariant-loop l = SameFrames l.initial.self l.self × KeepsShape l.initial.self l.self
