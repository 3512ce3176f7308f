use Rattle.std.proofs.Common.{◌<◌, length, arith, sym, ◌∙◌}
use Rattle.shore_model.proofs.LogSteps.{last_of-more, last_of-same}
use Rattle.slow_logs.proofs.transaction_records.last_of.Goals as goal
use Rattle.slow_logs.proofs.transaction_records.last_of.Goals.{then-eq, else-eq}

pub loop-index-preserved : goal.loop-index-preserved
loop-index-preserved c =
    let rs = c.args.records.now in
    let within : c.loop-index.index < length rs = omega arith in
    let next = c.index-records-index.result in
    elim c.if-eq.branch [
      | then-eq w ↦ w.last-is ∙ sym (last_of-more rs c.loop-index.index next within c.index-records-index.is c.args.txn (sym c.eq.ensures ∙ w.if-eq.true))
      | else-eq w ↦ w.last-is ∙ c.loop-index.invariant ∙ sym (last_of-same rs c.loop-index.index next within c.index-records-index.is c.args.txn (sym c.eq.ensures ∙ w.if-eq.false))
    ]
