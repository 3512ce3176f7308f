use Rattle.std.proofs.Common.{◌<◌, length, arith, sym, ap, ◌∙◌}
use Rattle.shore_model.specs.Logs.{with_image, image_in}
use Rattle.shore_model.proofs.LogSteps.{logged_writes-more, logged_writes-same}
use Rattle.slow_logs.proofs.recovered_records.logged_writes.Goals as goal
use Rattle.slow_logs.proofs.recovered_records.logged_writes.Goals.{then-eq+in_ok-put_image, else-eq}

pub loop-record-preserved : goal.loop-record-preserved
loop-record-preserved c =
    let rs = c.args.records.now in
    let within : c.loop-record.record-index < length rs = omega arith in
    let next = c.record-item.result in
    elim c.if-eq.branch [
      | then-eq+in_ok-put_image w ↦
          w.writes-is ∙ w.in_ok-put_image.ensures ∙ ap (λ images. with_image images (image_in next.payload)) c.loop-record.invariant
          ∙ sym (logged_writes-more rs c.loop-record.record-index next within c.record-item.is c.args.txn (sym c.eq.ensures ∙ w.if-eq.true))
      | else-eq w ↦
          w.writes-is ∙ c.loop-record.invariant
          ∙ sym (logged_writes-same rs c.loop-record.record-index next within c.record-item.is c.args.txn (sym c.eq.ensures ∙ w.if-eq.false))
    ]
