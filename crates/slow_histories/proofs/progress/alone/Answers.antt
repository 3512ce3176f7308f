use Rattle.std.proofs.Common.{◌≡◌, ◌<◌, length, arith, false, true}
use Rattle.slow_histories.proofs.Runs.{ComesTo-none, ComesTo-more, ComesTo-stop}
use Rattle.slow_histories.proofs.progress.alone.Goals as goal

pub loop-entry-init : goal.loop-entry-init
loop-entry-init c = ComesTo-none _ _ _ _ c.start-progress.ensures

pub loop-entry-preserved : goal.loop-entry-preserved
loop-entry-preserved c =
    let within : c.loop-entry.entry-index < length c.args.entries.now = omega arith in
    ComesTo-more _ _ c.args.txn c.args.entries.now c.loop-entry.entry-index c.loop-entry.progress c.entry-item.result within c.entry-item.is
    c.loop-entry.invariant (c.in_ok-may_enter.ensures.0 c.if-not-branch.false) c.enter.new.progress c.in_ok-enter.ensures

pub returns-then-not-branch-clause-none : goal.returns-then-not-branch-clause-none
returns-then-not-branch-clause-none c =
    let within : c.loop-entry.entry-index < length c.args.entries.now = omega arith in
    let refused : c.in_ok-may_enter.field-0 ≡ false = c.if-not-branch.true in
    ComesTo-stop _ _ c.args.txn c.args.entries.now c.loop-entry.entry-index c.loop-entry.progress c.entry-item.result within c.entry-item.is
    c.loop-entry.invariant (λ may. let yes : c.in_ok-may_enter.field-0 ≡ true = c.in_ok-may_enter.ensures.1 may in cc)
