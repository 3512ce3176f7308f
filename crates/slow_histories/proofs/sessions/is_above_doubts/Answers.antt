use Rattle.std.proofs.Common.{◌≡◌, ◌<◌, ◌≤◌, length, arith, refl, true, false}
use Rattle.shore_model.specs.declared.histories.InDoubt.{InDoubt}
use Rattle.shore_model.proofs.Scans.{All-more_at, All-whole, All-spoiled}
use Rattle.slow_histories.proofs.sessions.is_above_doubts.Goals as goal

pub loop-doubt-preserved : goal.loop-doubt-preserved
loop-doubt-preserved c =
    let within : c.loop-doubt.doubt-index < length c.args.in_doubt.now = omega arith in
    All-more_at (λ (d : InDoubt). d.txn < c.args.txn) c.args.in_doubt.now c.loop-doubt.doubt-index c.doubt-item.result within c.doubt-item.is c.loop-doubt.invariant (c.is_below.ensures.0 c.if-not-is_below.false)

pub returns : goal.returns
returns c =
    let done : length c.args.in_doubt.now ≤ c.loop-doubt.doubt-index = omega arith in
    (λ _. All-whole (λ (d : InDoubt). d.txn < c.args.txn) c.args.in_doubt.now c.loop-doubt.doubt-index done c.loop-doubt.invariant, λ _. refl)

pub returns-then-not-is_below : goal.returns-then-not-is_below
returns-then-not-is_below c =
    let within : c.loop-doubt.doubt-index < length c.args.in_doubt.now = omega arith in
    let refused : c.is_below.result ≡ false = c.if-not-is_below.true in
    (λ h. cc, λ h. let found : c.is_below.result ≡ true = c.is_below.ensures.1 (All-spoiled (λ (d : InDoubt). d.txn < c.args.txn) c.args.in_doubt.now c.loop-doubt.doubt-index c.doubt-item.result within c.doubt-item.is h) in cc)
