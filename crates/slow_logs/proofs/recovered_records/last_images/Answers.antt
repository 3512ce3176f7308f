use Rattle.std.proofs.Common.{◌<◌, length, arith, sym, ap, ◌∙◌}
use Rattle.shore_model.specs.Logs.{with_image, image_in}
use Rattle.shore_model.proofs.LogSteps.{last_images-more}
use Rattle.slow_logs.proofs.recovered_records.last_images.Goals as goal

pub loop-record-preserved : goal.loop-record-preserved
loop-record-preserved c =
    let rs = c.args.records.now in
    let within : c.loop-record.record-index < length rs = omega arith in
    let next = c.record-item.result in
    c.in_ok-put_image.ensures ∙ ap (λ images. with_image images (image_in next.payload)) c.loop-record.invariant
    ∙ sym (last_images-more rs c.loop-record.record-index next within c.record-item.is)
