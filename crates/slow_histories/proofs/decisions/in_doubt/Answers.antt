use Rattle.std.proofs.Common.{◌<◌, ℕ, List, length, arith}
use Rattle.std.specs.Prelude.{filter}
use Rattle.shore_model.specs.Histories.{is_undecided}
use Rattle.shore_model.proofs.Steps.{one_part, kept_parts}
use Rattle.slow_histories.proofs.decisions.in_doubt.Goals as goal

pub loop-pair-preserved : goal.loop-pair-preserved
loop-pair-preserved c =
    let live = λ (p : ℕ × List ℕ). is_undecided c.args.decisions.now p.0 in
    let items = c.as_slice-pair-items.result.now in
    let within : c.loop-pair.pair-index < length items = omega arith in
    one_part (filter live) (kept_parts live) items c.loop-pair.pair-index c.pair-item.result within c.pair-item.is
    c.loop-pair.found c.push_undecided.new.found _ c.loop-pair.invariant c.in_ok-push_undecided.ensures
