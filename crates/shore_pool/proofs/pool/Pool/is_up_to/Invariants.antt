use Rattle.std.proofs.Common.{take}
use Rattle.shore_pool.specs.FrameMaps as maps
use Rattle.shore_pool.specs.Pages.{AreUpTo}
use Rattle.shore_pool.proofs.pool.Pool.is_up_to.Given as goal

abbrev pub invariant-loop-i : goal.invariant-loop-i
invariant-loop-i g l = AreUpTo (maps.frame_at l.self.frames) l.durable (take l.i l.numbers)
