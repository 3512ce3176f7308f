use Rattle.std.proofs.Common.{arith}
use Rattle.std.proofs.lemmas.Option.{slice_get-get_or}
use Rattle.shore_dwrite.proofs.TableLemmas.{first_none, first_more, first_all}
use Rattle.shore_dwrite.proofs.table.table_of.Goals as goal

pub loop-i-init : goal.loop-i-init
loop-i-init c = first_none _ _ c.put_cell.ensures.len c.put_cell.ensures.here c.put_cell.ensures.others

pub loop-i-preserved : goal.loop-i-preserved
loop-i-preserved c =
    first_more _ _ c.args.numbers.now c.loop-i.i _ c.loop-i.invariant (slice_get-get_or c.args.numbers.now c.loop-i.i 0 c.loop-i-test.true)
    c.put_cell-in-loop-i.ensures.len c.put_cell-in-loop-i.ensures.here c.put_cell-in-loop-i.ensures.others

pub returns : goal.returns
returns c = first_all _ _ c.loop-i.i (omega arith) c.loop-i.invariant
