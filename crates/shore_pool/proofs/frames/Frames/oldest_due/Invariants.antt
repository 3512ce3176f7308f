use Rattle.std.proofs.Common.{◌≡◌, ◌<◌, ℕ, IfNone, IfSome, IsSomeAnd, Some}
use Rattle.shore_pool.specs.FrameMaps.{IsDue, IsNotBefore, IsNotDue, frame_at}
use Rattle.shore_pool.proofs.frames.Frames.oldest_due.Given as goal

abbrev pub invariant-loop-key : goal.invariant-loop-key
invariant-loop-key l = record {
  due : IfSome l.oldest (λ due. IsSomeAnd (frame_at l.self due.number) (IsDue l.durable));
  there : IfSome l.oldest (λ due. IsSomeAnd (frame_at l.self due.number) (λ f. f.recovery ≡ Some due.recovery));
  first : IfSome l.oldest (λ due. (key : ℕ) → key < l.key → IsNotBefore l.self l.durable due.recovery key);
  none : IfNone l.oldest ((key : ℕ) → key < l.key → IsNotDue l.self l.durable key);
}
