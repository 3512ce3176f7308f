use Rattle.std.proofs.Common.{◌≡◌, ◌<◌, ◌≤◌, length, arith, refl, true, false}
use Rattle.std.specs.Prelude.{All}
use Rattle.shore_model.specs.Locks.{KeepApart}
use Rattle.shore_model.proofs.Scans.{All-more_at, All-whole, All-spoiled}
use Rattle.slow_locks.proofs.holds.none_interferes.Goals as goal

pub loop-hold-preserved : goal.loop-hold-preserved
loop-hold-preserved c =
    let within : c.loop-hold.hold-index < length c.args.held.now = omega arith in
    All-more_at (λ h. All (KeepApart h) c.args.held.now) c.args.held.now c.loop-hold.hold-index c.hold-item.result within c.hold-item.is c.loop-hold.invariant (c.keeps_apart_from_each.ensures.0 c.if-not-keeps_apart_from_each.false)

pub returns : goal.returns
returns c =
    let done : length c.args.held.now ≤ c.loop-hold.hold-index = omega arith in
    (λ _. All-whole (λ h. All (KeepApart h) c.args.held.now) c.args.held.now c.loop-hold.hold-index done c.loop-hold.invariant, λ _. refl)

pub returns-then-not-keeps_apart_from_each : goal.returns-then-not-keeps_apart_from_each
returns-then-not-keeps_apart_from_each c =
    let within : c.loop-hold.hold-index < length c.args.held.now = omega arith in
    let refused : c.keeps_apart_from_each.result ≡ false = c.if-not-keeps_apart_from_each.true in
    (λ h. cc, λ h. let yes : c.keeps_apart_from_each.result ≡ true = c.keeps_apart_from_each.ensures.1 (All-spoiled (λ h. All (KeepApart h) c.args.held.now) c.args.held.now c.loop-hold.hold-index c.hold-item.result within c.hold-item.is h) in cc)
