use Rattle.std.proofs.Common.{◌<◌, length, ap, sym, ◌∙◌, arith}
use Rattle.std.specs.Prelude.{slice_set}
use Rattle.std.proofs.lemmas.List.Edits.{map_over_more}
use Rattle.shore_analysis.specs.Losers.{with_numbers}
use Rattle.shore_analysis.proofs.losers.renumber.Goals as goal

pub loop-entry-preserved : goal.loop-entry-preserved
loop-entry-preserved c =
    let xs = c.args.entries.now.items in
    let i = c.loop-entry.entry-index in
    let within : i < length xs = omega arith in
    let f = with_numbers c.args.txn c.args.last c.args.undo_next in
    ap (slice_set c.loop-entry.entry-items i) (c.with_numbers.ensures ∙ ap f (sym c.entry-item.is))
    ∙ map_over_more f xs c.loop-entry.entry-items i c.entry-item.result within c.loop-entry.invariant c.entry-item.is
