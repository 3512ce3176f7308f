use Rattle.std.proofs.Common.{sym, subst}
use Rattle.shore_model.specs.Logs.{MayFollow}
use Rattle.shore_model.proofs.Beginnings.{slice_get_of_take, take_of_take}
use Rattle.slow_logs.proofs.laws.prefix_is_lawful.Goals as goal

pub returns : goal.returns
returns c rs n lawful k r h =
    subst (λ front. MayFollow front r) (sym (take_of_take rs n k r h)) (lawful k r (slice_get_of_take rs n k r h))
