use Rattle.std.proofs.Common.{◌≡◌, ◌<◌, ℕ, IfNone, IfSome, Option, None, Some, IsSomeAnd, arith, ap, subst, unwrap_or}
use Rattle.shore_pool.specs.declared.frame.Frame.{Frame}
use Rattle.shore_pool.specs.declared.frames.Due.{Due}
use Rattle.shore_pool.specs.FrameMaps.{IsNotBefore, IsNotDue, frame_at, recovery_of}
use Rattle.shore_pool.proofs.Indexes.{key_of_frame}
use Rattle.shore_pool.proofs.frames.Frames.oldest_due.Goals as goal

pub returns-in-None-clause-none : goal.returns-in-None-clause-none
returns-in-None-clause-none c k f is due =
    let old = c.args.self.now in
    let at = key_of_frame old.slots old.table.items k f is in
    let all : (key : ℕ) → key < c.loop-key.key → IsNotDue old c.args.durable key = subst (λ o. IfNone o ((key : ℕ) → key < c.loop-key.key → IsNotDue old c.args.durable key)) c.in-None.is c.loop-key.invariant.none in
    all at.0 (omega (arith, at.3, c.capacity-key-end.ensures.slots, c.loop-key-test.false)) f at.2 due

of_all : {P Q : Frame → Type 0} (slot : Option Frame) → IsSomeAnd slot P → ((f : Frame) → P f → Q f) → IsSomeAnd slot Q
of_all None has to = has
of_all (Some f) has to = to f has

pub returns-in-Some-oldest-clause-first : goal.returns-in-Some-oldest-clause-first
returns-in-Some-oldest-clause-first c =
    let old = c.args.self.now in
    let due = c.in-Some-oldest.due in
    let there : IsSomeAnd (frame_at old due.number) (λ f. f.recovery ≡ Some due.recovery) =
    subst (λ (o : Option Due). IfSome o (λ d. IsSomeAnd (frame_at old d.number) (λ f. f.recovery ≡ Some d.recovery))) c.in-Some-oldest.is c.loop-key.invariant.there in
    let first : (key : ℕ) → key < c.loop-key.key → IsNotBefore old c.args.durable due.recovery key =
    subst (λ (o : Option Due). IfSome o (λ d. (key : ℕ) → key < c.loop-key.key → IsNotBefore old c.args.durable d.recovery key)) c.in-Some-oldest.is c.loop-key.invariant.first in
    of_all (frame_at old due.number) there (λ f is k later at is_due.
    let place = key_of_frame old.slots old.table.items k later at in
    let number : recovery_of f ≡ due.recovery = ap (λ (o : Option ℕ). unwrap_or o 0) is in
    let below = first place.0 (omega (arith, place.3, c.capacity-key-end.ensures.slots, c.loop-key-test.false)) later place.2 is_due in
    omega (arith, number, below))
