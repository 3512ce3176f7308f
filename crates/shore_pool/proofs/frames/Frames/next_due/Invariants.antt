use Rattle.shore_pool.specs.FrameMaps.{NoneDueIn}
use Rattle.shore_pool.proofs.frames.Frames.next_due.Given as goal

abbrev pub invariant-loop-place : goal.invariant-loop-place
invariant-loop-place l = NoneDueIn l.self l.durable l.from l.place
