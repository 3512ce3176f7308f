use Rattle.std.proofs.Common.{◌+◌, ◌++◌, ◌∷◌, ◌∙◌, [], List, Some, ap, arith}
use Rattle.shore_types.specs.Images.{Image}
use Rattle.shore_page.proofs.AppendLemmas.{append_done, append_header}
use Rattle.shore_page.proofs.LayoutLemmas.{grow_done}
use Rattle.shore_page.proofs.WritingLemmas.{header_same}
use Rattle.shore_page.proofs.placing.append_image.Goals as goal

pub returns-clause-laid_out : goal.returns-clause-laid_out
returns-clause-laid_out c =
    let mid = c.make_way-end.ensures in
    let put = c.put_table.ensures in
    let grown = grow_done c.args.version c.make_way-end.new.bytes c.put_table.new.out c.args.slots (c.args.slots + 1) c.make_way-end.result mid.laid_out (omega arith) (omega (arith, c.requires.few)) (omega (arith, mid.end)) put.len put.below put.above put.empty in
    (append_done c.args.version c.make_way-end.new.bytes c.put_table.new.out c.put_record.new.out c.args.slots c.make_way-end.result c.args.image.now grown (omega (arith, mid.end, c.requires.room)) c.requires.most c.put_record.ensures).laid_out

pub returns-clause-images : goal.returns-clause-images
returns-clause-images c =
    let mid = c.make_way-end.ensures in
    let put = c.put_table.ensures in
    let grown = grow_done c.args.version c.make_way-end.new.bytes c.put_table.new.out c.args.slots (c.args.slots + 1) c.make_way-end.result mid.laid_out (omega arith) (omega (arith, c.requires.few)) (omega (arith, mid.end)) put.len put.below put.above put.empty in
    (append_done c.args.version c.make_way-end.new.bytes c.put_table.new.out c.put_record.new.out c.args.slots c.make_way-end.result c.args.image.now grown (omega (arith, mid.end, c.requires.room)) c.requires.most c.put_record.ensures).images
    ∙ ap (λ (l : List Image). l ++ Some c.args.image.now ∷ []) mid.images

pub returns-clause-header : goal.returns-clause-header
returns-clause-header c id number header =
    let mid = c.make_way-end.ensures in
    append_header c.args.version c.put_table.new.out c.put_record.new.out c.args.slots c.make_way-end.result c.args.image.now id number (omega (arith, c.requires.few)) mid.laid_out.front c.put_table.ensures.len c.put_record.ensures
    (c.put_table.ensures.header id number (header_same c.args.version c.args.bytes.now c.make_way-end.new.bytes id number c.args.slots c.requires.laid_out.whole mid.header header))
