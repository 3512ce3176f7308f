use Rattle.std.proofs.Common.{◌≡◌, ◌<◌, ◌≤◌, length, arith, refl, true, false}
use Rattle.shore_model.specs.Locks.{KeepApart}
use Rattle.shore_model.proofs.Scans.{All-more_at, All-whole, All-spoiled}
use Rattle.slow_locks.proofs.holds.keeps_apart_from_each.Goals as goal

pub loop-other-preserved : goal.loop-other-preserved
loop-other-preserved c =
    let within : c.loop-other.other-index < length c.args.held.now = omega arith in
    All-more_at (KeepApart c.args.hold.now) c.args.held.now c.loop-other.other-index c.other-item.result within c.other-item.is c.loop-other.invariant (c.keep_apart.ensures.0 c.if-not-keep_apart.false)

pub returns : goal.returns
returns c =
    let done : length c.args.held.now ≤ c.loop-other.other-index = omega arith in
    (λ _. All-whole (KeepApart c.args.hold.now) c.args.held.now c.loop-other.other-index done c.loop-other.invariant, λ _. refl)

pub returns-then-not-keep_apart : goal.returns-then-not-keep_apart
returns-then-not-keep_apart c =
    let within : c.loop-other.other-index < length c.args.held.now = omega arith in
    let refused : c.keep_apart.result ≡ false = c.if-not-keep_apart.true in
    (λ h. cc, λ h. let yes : c.keep_apart.result ≡ true = c.keep_apart.ensures.1 (All-spoiled (KeepApart c.args.hold.now) c.args.held.now c.loop-other.other-index c.other-item.result within c.other-item.is h) in cc)
