use Rattle.std.proofs.Common.{◌∙◌, ap}
use Rattle.laws_lives.specs.Doubts.{doubts_in}
use Rattle.laws_checkpoints.specs.KeptRestarts.{KeptStore}
use Rattle.laws_checkpoints.proofs.Kept.{losers_kept}
use Rattle.laws_checkpoints.proofs.KeptDoubts.{doubts_kept}
use Rattle.laws_checkpoints.proofs.KeptRestarts.{all_steps}
use Rattle.laws_checkpoints.proofs.cut_logs.kept_records_are_enough.Goals as goal

pub returns-clause-steps : goal.returns-clause-steps
returns-clause-steps c cut s events last k lawful may behind h =
    let w = all_steps cut s events last (record { recoverable = k; lawful = lawful; may = may; behind = behind }) h in
    (w.whole, w.restarts, w.seen, w.goes.lawful, w.goes.may)

pub returns-clause-ends : goal.returns-clause-ends
returns-clause-ends c log volume cut lawful may none t loser = none t (losers_kept log lawful volume cut may t loser)

pub returns-clause-doubts : goal.returns-clause-doubts
returns-clause-doubts c cut s events last k lawful may behind h =
    let w = all_steps cut s events last (record { recoverable = k; lawful = lawful; may = may; behind = behind }) h in
    ap (λ (x : KeptStore). doubts_in x.kept) w.seen ∙ doubts_kept w.whole.log w.goes.lawful w.whole.volume cut w.goes.may ∙ w.doubts
