use Rattle.std.proofs.Common.{inr, [], arith}
use Rattle.shore_page.proofs.WritingLemmas.{puts_nothing}
use Rattle.shore_page.proofs.LayoutLemmas.{none_laid_out, none_images, puts_header}
use Rattle.shore_page.proofs.placing.clear_slot.Goals as goal

pub returns-clause-laid_out : goal.returns-clause-laid_out
returns-clause-laid_out c end laid_out =
    let puts = puts_nothing c.args.version c.args.bytes.now c.put_entry.new.out c.args.slots c.args.slot c.requires.whole c.requires.few c.requires.there c.put_entry.ensures.offset c.put_entry.ensures.length c.put_entry.ensures.beside in
    none_laid_out c.args.version c.args.bytes.now c.put_entry.new.out c.args.slots c.args.slot end laid_out c.requires.there puts

pub returns-clause-images : goal.returns-clause-images
returns-clause-images c end laid_out =
    let puts = puts_nothing c.args.version c.args.bytes.now c.put_entry.new.out c.args.slots c.args.slot c.requires.whole c.requires.few c.requires.there c.put_entry.ensures.offset c.put_entry.ensures.length c.put_entry.ensures.beside in
    none_images c.args.version c.args.bytes.now c.put_entry.new.out c.args.slots c.args.slot end laid_out c.requires.there puts

pub returns-clause-header : goal.returns-clause-header
returns-clause-header c =
    let puts = puts_nothing c.args.version c.args.bytes.now c.put_entry.new.out c.args.slots c.args.slot c.requires.whole c.requires.few c.requires.there c.put_entry.ensures.offset c.put_entry.ensures.length c.put_entry.ensures.beside in
    puts_header c.args.version c.args.bytes.now c.put_entry.new.out c.args.slots c.args.slot 0 [] c.requires.few puts (inr (omega arith))
