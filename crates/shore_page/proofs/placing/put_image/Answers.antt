use Rattle.shore_page.proofs.LayoutLemmas.{put_done}
use Rattle.shore_page.proofs.placing.put_image.Goals as goal

pub returns-clause-laid_out : goal.returns-clause-laid_out
returns-clause-laid_out c =
    let place = c.place_for-place.ensures in
    rw c.max.ensures (put_done c.args.version c.args.bytes.now c.place_for-place.new.bytes c.put_record.new.out c.args.slots c.args.slot c.place_for-place.result.offset c.place_for-place.result.end c.args.image.now
    place.laid_out place.free place.others place.header c.put_record.ensures c.requires.there c.requires.most).laid_out

pub returns-clause-images : goal.returns-clause-images
returns-clause-images c =
    let place = c.place_for-place.ensures in
    (put_done c.args.version c.args.bytes.now c.place_for-place.new.bytes c.put_record.new.out c.args.slots c.args.slot c.place_for-place.result.offset c.place_for-place.result.end c.args.image.now
    place.laid_out place.free place.others place.header c.put_record.ensures c.requires.there c.requires.most).images

pub returns-clause-header : goal.returns-clause-header
returns-clause-header c =
    let place = c.place_for-place.ensures in
    (put_done c.args.version c.args.bytes.now c.place_for-place.new.bytes c.put_record.new.out c.args.slots c.args.slot c.place_for-place.result.offset c.place_for-place.result.end c.args.image.now
    place.laid_out place.free place.others place.header c.put_record.ensures c.requires.there c.requires.most).header
