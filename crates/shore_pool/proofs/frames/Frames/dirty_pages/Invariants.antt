use Rattle.std.proofs.Common.{◌≡◌}
use Rattle.shore_pool.specs.FrameMaps.{dirty_below, frame_at}
use Rattle.shore_pool.proofs.frames.Frames.dirty_pages.Given as goal

abbrev pub invariant-loop-place : goal.invariant-loop-place
invariant-loop-place l = l.list.items ≡ dirty_below (frame_at l.self) l.place
