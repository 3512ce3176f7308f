use Rattle.shore_page.proofs.WritingLemmas.{puts_record}
use Rattle.shore_page.proofs.writing.put_record.Goals as goal

pub returns : goal.returns
returns c =
    puts_record c.args.version c.args.out.now c.put_entry.new.out c.put.new.out c.args.slots c.args.slot c.args.offset c.args.bytes.now c.requires.whole c.requires.few c.requires.there c.requires.room
    c.put_entry.ensures.offset c.put_entry.ensures.length c.put_entry.ensures.beside c.put.ensures
