use Rattle.std.proofs.Common.{[], ◌++◌, sym, subst}
use Rattle.shore_fronts.specs.Volumes.{volume_bytes}
use Rattle.laws_runs.specs.CheckpointSteps.{Goes}
use Rattle.laws_runs.specs.CheckpointedStates.{IsAtCheckpoints}
use Rattle.laws_runs.specs.StoredRuns.{Tend}
use Rattle.laws_threads.specs.Amid.{IsLeftThen}
use Rattle.laws_threads.proofs.Pairs.{whole_pair}
use Rattle.shore_held.proofs.Comings.{under_way}
use Rattle.shore_held.proofs.Moments.{forced_to, left_amid}
use Rattle.shore_held.proofs.Steps.{rests}
use Rattle.shore_held.proofs.laws.pairs_stand_amid_a_move.Goals as goal

pub returns : goal.returns
returns g c start cut kept core stage anchored trail h held aim log_later log_bytes seen log_left volume_left bytes at_once low is leaves log_since may =
    let step = rests cut kept core stage anchored trail h in
    let stable = forced_to cut kept core core stage anchored trail h (Goes (Tend [])) h.last step held at_once in
    let way = subst (λ n. IsAtCheckpoints h.geometry n start.opening start.found (start.earlier ++ h.made) h.last) bytes (under_way cut kept core stage anchored trail h) in
    let there =
    left_amid cut kept core core stage anchored trail h (Goes (Tend [])) h.last step held at_once log_bytes seen low leaves.0 leaves.1 leaves.3 log_left volume_left (h.volume volume_left may) leaves.2 aim is leaves.4.0 leaves.4.1
    (leaves.4.2.each log_left log_since) in
    let pair =
    whole_pair h.geometry log_bytes (volume_bytes h.geometry) start.opening start.found (start.earlier ++ h.made) h.last way (Goes (Tend [])) h.last there.0 stable seen there.1.moment h.front h.labelled.label log_left volume_left
    (subst (λ f. IsLeftThen h.geometry log_bytes f h.last h.last there.0 stable log_left volume_left) (sym h.labelled.whole) there.1.left) in
    (there.0, pair.0, pair.1, pair.2, pair.3, pair.4)
