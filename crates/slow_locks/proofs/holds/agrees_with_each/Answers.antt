use Rattle.std.proofs.Common.{◌≡◌, ◌<◌, ◌≤◌, length, arith, refl, true, false}
use Rattle.shore_model.specs.Locks.{Agree}
use Rattle.shore_model.proofs.Scans.{All-more_at, All-whole, All-spoiled}
use Rattle.slow_locks.proofs.holds.agrees_with_each.Goals as goal

pub loop-other-preserved : goal.loop-other-preserved
loop-other-preserved c =
    let within : c.loop-other.other-index < length c.args.held.now = omega arith in
    All-more_at (Agree c.args.hold.now) c.args.held.now c.loop-other.other-index c.other-item.result within c.other-item.is c.loop-other.invariant (c.agree.ensures.0 c.if-not-agree.false)

pub returns : goal.returns
returns c =
    let done : length c.args.held.now ≤ c.loop-other.other-index = omega arith in
    (λ _. All-whole (Agree c.args.hold.now) c.args.held.now c.loop-other.other-index done c.loop-other.invariant, λ _. refl)

pub returns-then-not-agree : goal.returns-then-not-agree
returns-then-not-agree c =
    let within : c.loop-other.other-index < length c.args.held.now = omega arith in
    let refused : c.agree.result ≡ false = c.if-not-agree.true in
    (λ h. cc, λ h. let yes : c.agree.result ≡ true = c.agree.ensures.1 (All-spoiled (Agree c.args.hold.now) c.args.held.now c.loop-other.other-index c.other-item.result within c.other-item.is h) in cc)
