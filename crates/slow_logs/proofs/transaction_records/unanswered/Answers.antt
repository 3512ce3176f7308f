use Rattle.std.proofs.Common.{◌<◌, ◌+◌, length, reverse, arith, sym, ap, ◌∙◌}
use Rattle.shore_model.specs.Logs.{answered_by}
use Rattle.shore_model.proofs.LogSteps.{unanswered-more, unanswered-same}
use Rattle.slow_logs.proofs.transaction_records.unanswered.Goals as goal
use Rattle.slow_logs.proofs.transaction_records.unanswered.Goals.{then-eq+in_ok-answer, else-eq}

pub loop-index-preserved : goal.loop-index-preserved
loop-index-preserved c =
    let rs = c.args.records.now in
    let i = c.loop-index.index in
    let within : i < length rs = omega arith in
    let next = c.index-records-index in
    elim c.if-eq.branch [
      | then-eq+in_ok-answer w ↦
          ap (λ v. reverse v.items) w.changes-is ∙ w.in_ok-answer.ensures ∙ ap (answered_by (i + 1) next.result.payload) c.loop-index.invariant
          ∙ sym (unanswered-more rs i next.result within next.is c.args.txn (sym c.eq.ensures ∙ w.if-eq.true))
      | else-eq w ↦
          ap (λ v. reverse v.items) w.changes-is ∙ c.loop-index.invariant
          ∙ sym (unanswered-same rs i next.result within next.is c.args.txn (sym c.eq.ensures ∙ w.if-eq.false))
    ]
