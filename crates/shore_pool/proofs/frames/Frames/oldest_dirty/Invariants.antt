use Rattle.std.proofs.Common.{IfNone, IfSome}
use Rattle.shore_pool.specs.FrameMaps.{IsDirtyFirstBelow, IsDirtyPage, NoneDirtyBelow}
use Rattle.shore_pool.proofs.frames.Frames.oldest_dirty.Given as goal

abbrev pub invariant-loop-place : goal.invariant-loop-place
invariant-loop-place l = record {
  some : IfSome l.oldest (IsDirtyPage l.self);
  least : IfSome l.oldest (IsDirtyFirstBelow l.self l.place);
  none : IfNone l.oldest (NoneDirtyBelow l.self l.place);
}
