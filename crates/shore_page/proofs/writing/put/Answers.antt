use Rattle.std.proofs.Common.{◌+◌, ◌-◌, length, arith}
use Rattle.shore_page.proofs.WritingLemmas.{write_is}
use Rattle.shore_page.proofs.writing.put.Goals as goal

pub returns : goal.returns
returns c =
    write_is c.args.position (c.args.position + length c.args.bytes.now - c.args.position) c.args.out.now c.copy_from_slice.new.self c.args.bytes.now (omega arith) c.copy_from_slice.ensures.after (omega arith)
