use Rattle.std.proofs.Common.{◌≡◌, ◌<◌, ◌≤◌, length, arith, refl, true, false}
use Rattle.std.specs.Prelude.{Contains}
use Rattle.shore_model.proofs.Scans.{All-more_at, All-whole, All-spoiled}
use Rattle.slow_histories.proofs.decisions.holds_each.Goals as goal

pub loop-decision-preserved : goal.loop-decision-preserved
loop-decision-preserved c =
    let within : c.loop-decision.decision-index < length c.args.answered.now = omega arith in
    All-more_at (Contains c.args.kept.now) c.args.answered.now c.loop-decision.decision-index c.decision-item.result within c.decision-item.is c.loop-decision.invariant (c.holds.ensures.0 c.if-not-holds.false)

pub returns : goal.returns
returns c =
    let done : length c.args.answered.now ≤ c.loop-decision.decision-index = omega arith in
    (λ _. All-whole (Contains c.args.kept.now) c.args.answered.now c.loop-decision.decision-index done c.loop-decision.invariant, λ _. refl)

pub returns-then-not-holds : goal.returns-then-not-holds
returns-then-not-holds c =
    let within : c.loop-decision.decision-index < length c.args.answered.now = omega arith in
    let refused : c.holds.result ≡ false = c.if-not-holds.true in
    (λ h. cc, λ h. let yes : c.holds.result ≡ true = c.holds.ensures.1 (All-spoiled (Contains c.args.kept.now) c.args.answered.now c.loop-decision.decision-index c.decision-item.result within c.decision-item.is h) in cc)
