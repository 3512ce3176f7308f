use Rattle.std.proofs.Common.{◌∙◌}
use Rattle.shore_page.proofs.WritingLemmas.{header_number}
use Rattle.shore_page.proofs.writing.put_number.Goals as goal

pub returns-clause-header : goal.returns-clause-header
returns-clause-header c id before slots header =
    header_number c.args.version c.args.out.now c.put_u64.new.out id before c.args.number slots c.requires.whole c.put_u64.ensures.beside (c.put_u64.ensures.here ∙ c.number.view_is) header
