use Rattle.std.proofs.Common.{◌∙◌}
use Rattle.slow_histories.proofs.Beginnings.{kept_iff}
use Rattle.slow_histories.proofs.decisions.is_kept.Goals as goal

pub returns : goal.returns
returns c =
    kept_iff c.args.entries.now c.args.kept.now c.as_slice.result.now c.as_slice-2.result.now c.keeps.result
    (c.as_slice.ensures ∙ c.in_ok-made.ensures) (c.as_slice-2.ensures ∙ c.in_ok-answered.ensures) c.keeps.ensures
