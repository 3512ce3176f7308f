use Rattle.std.proofs.Common.{◌++◌, sym, subst}
use Rattle.shore_fronts.specs.Volumes.{volume_bytes}
use Rattle.laws_runs.specs.CheckpointedStates.{IsAtCheckpoints}
use Rattle.laws_threads.specs.Amid.{IsLeftThen}
use Rattle.laws_threads.proofs.Pairs.{whole_pair}
use Rattle.shore_held.proofs.Comings.{under_way}
use Rattle.shore_held.proofs.Moments.{forced_to, left_then}
use Rattle.shore_held.proofs.laws.pairs_stand_at_each_moment.Goals as goal

pub returns : goal.returns
returns g c start cut kept old later stage anchored trail h plain last held log_later log_bytes seen log_left volume_left bytes step at_once low aims leaves log_since since =
    let stable = forced_to cut kept old later stage anchored trail h plain last step held at_once in
    let way = subst (λ n. IsAtCheckpoints h.geometry n start.opening start.found (start.earlier ++ h.made) h.last) bytes (under_way cut kept old stage anchored trail h) in
    let there =
    left_then cut kept old later stage anchored trail h plain last step held at_once log_bytes seen low leaves.0 leaves.1 leaves.3 log_left volume_left (step.amid.each volume_left since) leaves.2 aims (leaves.4.each log_left log_since) in
    let pair =
    whole_pair h.geometry log_bytes (volume_bytes h.geometry) start.opening start.found (start.earlier ++ h.made) h.last way plain last there.0 stable seen there.2.moment h.front h.labelled.label log_left volume_left
    (subst (λ f. IsLeftThen h.geometry log_bytes f h.last last there.0 stable log_left volume_left) (sym h.labelled.whole) there.2.left) in
    (there.0, there.1, pair.0, pair.1, pair.2, pair.3, pair.4)
