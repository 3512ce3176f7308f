use Rattle.std.proofs.Common.{ap, arith}
use Rattle.std.proofs.lemmas.Bool.{ltb-true}
use Rattle.shore_analysis.specs.declared.kept_tables.RedoTable.{RedoTable}
use Rattle.shore_restart.proofs.RedoStart.{sure_below}
use Rattle.shore_restart.proofs.redo.is_passed_over.Goals as goal

pub returns-else-number-table : goal.returns-else-number-table
returns-else-number-table c =
    let table = c.args.table.now in
    let sure = sure_below table.begin table.dirty c.args.id.now.page in
    let some = c.requires in
    let no = c.if-number-table.false in
    let number = c.number.view_is in
    let begin = ap (λ (t : RedoTable). t.begin) c.table.view_is in
    (λ yes. absurd (let less = ltb-true c.number.inside.0 c.table.inside.0.0.0 yes in omega (arith, less, no)), λ le. absurd (omega (arith, sure, some, le, no, number, begin)))
