use Rattle.std.proofs.Common.{◌<◌, ◌++◌, [], length, arith, ap, ◌∙◌}
use Rattle.std.specs.List.{cons_option, filter_map}
use Rattle.shore_model.specs.Histories.{decision_of}
use Rattle.shore_model.proofs.Steps.{one_part, found_parts}
use Rattle.slow_histories.proofs.decisions.decisions.Goals as goal

pub loop-entry-preserved : goal.loop-entry-preserved
loop-entry-preserved c =
    let within : c.loop-entry.entry-index < length c.args.entries.now = omega arith in
    one_part (filter_map decision_of) (found_parts decision_of) c.args.entries.now c.loop-entry.entry-index c.entry-item.result within c.entry-item.is
    c.loop-entry.found c.push_some.new.found _ c.loop-entry.invariant
    (c.in_ok-push_some.ensures ∙ ap (λ o. c.loop-entry.found ++ cons_option o []) c.in_ok-decided.ensures)
