use Rattle.std.proofs.Common.{◌+◌, ◌∙◌, ap, drop, sym}
use Rattle.laws_checkpoints.specs.Checkpoints.{least_first}
use Rattle.shore_check.proofs.Least.{first_first, next_in_front}
use Rattle.shore_check.proofs.cut.least_first.Goals as goal

pub loop-entry-preserved : goal.loop-entry-preserved
loop-entry-preserved c =
    let i = c.loop-entry.entry-index in
    let entry = c.entry-item.result in
    let behind = drop (i + 1) c.args.txns.now in
    ap (λ n. least_first n behind) c.lesser-least.ensures ∙ first_first c.loop-entry.least entry.first behind
    ∙ sym (ap (least_first c.loop-entry.least) (next_in_front c.args.txns.now i entry c.loop-entry-test.true c.entry-item.is)) ∙ c.loop-entry.invariant
