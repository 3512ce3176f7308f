use Rattle.std.proofs.Common.{◌≡◌, ◌<◌, ◌≤◌, length, arith, refl, true, false}
use Rattle.std.specs.Prelude.{All}
use Rattle.shore_model.specs.Locks.{Agree}
use Rattle.shore_model.proofs.Scans.{All-more_at, All-whole, All-spoiled}
use Rattle.slow_locks.proofs.holds.stand_together.Goals as goal

pub loop-hold-preserved : goal.loop-hold-preserved
loop-hold-preserved c =
    let within : c.loop-hold.hold-index < length c.args.held.now = omega arith in
    All-more_at (λ h. All (Agree h) c.args.held.now) c.args.held.now c.loop-hold.hold-index c.hold-item.result within c.hold-item.is c.loop-hold.invariant (c.agrees_with_each.ensures.0 c.if-not-agrees_with_each.false)

pub returns : goal.returns
returns c =
    let done : length c.args.held.now ≤ c.loop-hold.hold-index = omega arith in
    (λ _. All-whole (λ h. All (Agree h) c.args.held.now) c.args.held.now c.loop-hold.hold-index done c.loop-hold.invariant, λ _. refl)

pub returns-then-not-agrees_with_each : goal.returns-then-not-agrees_with_each
returns-then-not-agrees_with_each c =
    let within : c.loop-hold.hold-index < length c.args.held.now = omega arith in
    let refused : c.agrees_with_each.result ≡ false = c.if-not-agrees_with_each.true in
    (λ h. cc, λ h. let yes : c.agrees_with_each.result ≡ true = c.agrees_with_each.ensures.1 (All-spoiled (λ h. All (Agree h) c.args.held.now) c.args.held.now c.loop-hold.hold-index c.hold-item.result within c.hold-item.is h) in cc)
