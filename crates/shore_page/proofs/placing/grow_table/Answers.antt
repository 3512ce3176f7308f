use Rattle.std.proofs.Common.{◌∙◌, ◌++◌, ◌-◌, List, None, replicate, ap, arith}
use Rattle.shore_types.specs.Images.{Image}
use Rattle.shore_page.proofs.WritingLemmas.{header_same}
use Rattle.shore_page.proofs.LayoutLemmas.{grow_done}
use Rattle.shore_page.proofs.placing.grow_table.Goals as goal

pub returns-clause-laid_out : goal.returns-clause-laid_out
returns-clause-laid_out c =
    let mid = c.make_way-end.ensures in
    let put = c.put_table.ensures in
    (grow_done c.args.version c.make_way-end.new.bytes c.put_table.new.out c.args.slots c.args.more c.make_way-end.result mid.laid_out c.requires.order c.requires.few (omega (arith, mid.end, c.page_bytes.ensures.is)) put.len put.below put.above put.empty).laid_out

pub returns-clause-images : goal.returns-clause-images
returns-clause-images c =
    let mid = c.make_way-end.ensures in
    let put = c.put_table.ensures in
    (grow_done c.args.version c.make_way-end.new.bytes c.put_table.new.out c.args.slots c.args.more c.make_way-end.result mid.laid_out c.requires.order c.requires.few (omega (arith, mid.end, c.page_bytes.ensures.is)) put.len put.below put.above put.empty).images
    ∙ ap (λ (l : List Image). l ++ replicate (c.args.more - c.args.slots) None) mid.images

pub returns-clause-header : goal.returns-clause-header
returns-clause-header c id number header =
    c.put_table.ensures.header id number (header_same c.args.version c.args.bytes.now c.make_way-end.new.bytes id number c.args.slots c.requires.laid_out.whole c.make_way-end.ensures.header header)
