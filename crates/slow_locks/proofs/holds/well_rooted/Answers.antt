use Rattle.std.proofs.Common.{◌≡◌, ◌<◌, ◌≤◌, length, arith, refl, true, false}
use Rattle.shore_model.specs.Locks.{IsRooted}
use Rattle.shore_model.proofs.Scans.{All-more_at, All-whole, All-spoiled}
use Rattle.slow_locks.proofs.holds.well_rooted.Goals as goal

pub loop-hold-preserved : goal.loop-hold-preserved
loop-hold-preserved c =
    let within : c.loop-hold.hold-index < length c.args.held.now = omega arith in
    All-more_at (IsRooted c.args.held.now) c.args.held.now c.loop-hold.hold-index c.hold-item.result within c.hold-item.is c.loop-hold.invariant (c.is_rooted.ensures.0 c.if-not-is_rooted.false)

pub returns : goal.returns
returns c =
    let done : length c.args.held.now ≤ c.loop-hold.hold-index = omega arith in
    (λ _. All-whole (IsRooted c.args.held.now) c.args.held.now c.loop-hold.hold-index done c.loop-hold.invariant, λ _. refl)

pub returns-then-not-is_rooted : goal.returns-then-not-is_rooted
returns-then-not-is_rooted c =
    let within : c.loop-hold.hold-index < length c.args.held.now = omega arith in
    let refused : c.is_rooted.result ≡ false = c.if-not-is_rooted.true in
    (λ h. cc, λ h. let yes : c.is_rooted.result ≡ true = c.is_rooted.ensures.1 (All-spoiled (IsRooted c.args.held.now) c.args.held.now c.loop-hold.hold-index c.hold-item.result within c.hold-item.is h) in cc)
