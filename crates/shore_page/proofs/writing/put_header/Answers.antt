use Rattle.std.proofs.Common.{◌∙◌, ap, arith}
use Rattle.shore_types.specs.declared.ids.PageId.{PageId}
use Rattle.shore_page.proofs.WritingLemmas.{header_written}
use Rattle.shore_page.proofs.writing.put_header.Goals as goal

pub returns-clause-header : goal.returns-clause-header
returns-clause-header c =
    header_written c.args.version c.args.out.now c.put_u32.new.out c.put_u32-2.new.out c.put_u64.new.out c.put_u16.new.out c.put_u16-2.new.out c.put_u32-3.new.out
    c.args.id.now 0 0 c.requires.whole
    (c.put_u32.ensures.here ∙ ap (λ (id : PageId). id.store) c.id.view_is) c.put_u32.ensures.beside
    (c.put_u32-2.ensures.here ∙ ap (λ (id : PageId). id.page) c.id.view_is) c.put_u32-2.ensures.beside
    c.put_u64.ensures.here c.put_u64.ensures.beside
    c.put_u16.ensures.here c.put_u16.ensures.beside (c.put_u16-2.ensures.here ∙ omega (arith, c.page_bytes-size.ensures.is)) c.put_u16-2.ensures.beside c.put_u32-3.ensures.here c.put_u32-3.ensures.beside
    (omega arith)
