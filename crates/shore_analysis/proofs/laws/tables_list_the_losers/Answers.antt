use Rattle.std.specs.Prelude.{filter}
use Rattle.shore_model.specs.Logs.{is_prepared}
use Rattle.shore_analysis.specs.Losers.{is_of_loser}
use Rattle.shore_analysis.proofs.Counted.{among_listed, doubt_listed, listed_among, listed_doubt, listed_loser, loser_listed}
use Rattle.shore_analysis.proofs.Phases.{in_doubt_runs}
use Rattle.shore_analysis.proofs.laws.tables_list_the_losers.Goals as goal

pub returns-clause-losers : goal.returns-clause-losers
returns-clause-losers c g rs tables meant are t =
    let picked = filter is_of_loser tables.txns in
    (λ h. listed_loser rs tables.txns are.txns t (listed_among t picked h), λ loser. among_listed t picked (loser_listed rs tables.txns are.txns t loser))

pub returns-clause-doubts : goal.returns-clause-doubts
returns-clause-doubts c g rs tables meant are t =
    let picked = filter (λ e. is_prepared e.state) tables.txns in (
      λ h. listed_doubt rs tables.txns are.txns t (listed_among t picked h),
      λ doubts. let runs = in_doubt_runs g rs meant t doubts in among_listed t picked (doubt_listed rs tables.txns are.txns t runs.some runs.known runs.runs doubts),
    )
