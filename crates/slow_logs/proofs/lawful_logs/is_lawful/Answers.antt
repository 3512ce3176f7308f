use Rattle.std.proofs.Common.{◌≡◌, ◌<◌, length, arith, refl, true, false}
use Rattle.slow_logs.proofs.LawfulScans.{LawfulBelow-more, LawfulBelow-whole, Lawful-at}
use Rattle.slow_logs.proofs.lawful_logs.is_lawful.Goals as goal

pub loop-index-preserved : goal.loop-index-preserved
loop-index-preserved c =
    LawfulBelow-more c.args.records.now c.loop-index.index c.index-records-index.result c.index-records-index.is c.loop-index.invariant
    (c.in_ok-may_follow.ensures.0 c.if-not-branch.false)

pub returns : goal.returns
returns c = (λ _. LawfulBelow-whole c.args.records.now c.loop-index.index c.loop-index-test.false c.loop-index.invariant, λ _. refl)

pub returns-then-not-branch : goal.returns-then-not-branch
returns-then-not-branch c =
    let within : c.loop-index.index < length c.args.records.now = omega arith in
    let refused : c.in_ok-may_follow.field-0 ≡ false = c.if-not-branch.true in
    (λ h. cc, λ lawful. let yes : c.in_ok-may_follow.field-0 ≡ true = c.in_ok-may_follow.ensures.1 (Lawful-at c.args.records.now c.loop-index.index c.index-records-index.result within c.index-records-index.is lawful) in cc)
