use Rattle.std.proofs.Common.{◌≡◌, ◌<◌, length, arith, true, false}
use Rattle.slow_locks.proofs.WaitLemmas.{WalksOn-more, WalksOn-stop}
use Rattle.slow_locks.proofs.requests.walks.Goals as goal

pub loop-to-preserved : goal.loop-to-preserved
loop-to-preserved c =
    let within : c.loop-to.to-index < length c.args.steps.now = omega arith in
    WalksOn-more c.args.requests.now c.args.end c.args.start c.args.steps.now c.loop-to.to-index c.loop-to.from c.to-item.result within c.to-item.is
    c.loop-to.invariant (c.in_ok-waits_for.ensures.0 c.if-not-branch.false)

pub returns-then-not-branch : goal.returns-then-not-branch
returns-then-not-branch c =
    let within : c.loop-to.to-index < length c.args.steps.now = omega arith in
    let refused : c.in_ok-waits_for.field-0 ≡ false = c.if-not-branch.true in (
      λ h. cc,
      λ w. absurd (WalksOn-stop c.args.requests.now c.args.end c.args.start c.args.steps.now c.loop-to.to-index c.loop-to.from c.to-item.result within c.to-item.is
          c.loop-to.invariant (λ waits. let found : c.in_ok-waits_for.field-0 ≡ true = c.in_ok-waits_for.ensures.1 waits in cc) w),
    )
