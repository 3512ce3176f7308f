use Rattle.std.proofs.Common.{◌+◌, ◌∙◌, ap, drop, sym}
use Rattle.laws_checkpoints.specs.Checkpoints.{least_recovery}
use Rattle.shore_check.proofs.Least.{recovery_first, next_in_front}
use Rattle.shore_check.proofs.cut.least_recovery.Goals as goal

pub loop-entry-preserved : goal.loop-entry-preserved
loop-entry-preserved c =
    let i = c.loop-entry.entry-index in
    let entry = c.entry-item.result in
    let behind = drop (i + 1) c.args.dirty.now in
    ap (λ n. least_recovery n behind) c.lesser-least.ensures ∙ recovery_first c.loop-entry.least entry.recovery behind
    ∙ sym (ap (least_recovery c.loop-entry.least) (next_in_front c.args.dirty.now i entry c.loop-entry-test.true c.entry-item.is)) ∙ c.loop-entry.invariant
