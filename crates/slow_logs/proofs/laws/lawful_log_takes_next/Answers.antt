use Rattle.std.proofs.Common.{sym, subst, ⊎_elim}
use Rattle.shore_model.specs.Logs.{MayFollow}
use Rattle.shore_model.proofs.Beginnings.{slice_get-push}
use Rattle.slow_logs.proofs.laws.lawful_log_takes_next.Goals as goal

pub returns : goal.returns
returns c rs r lawful may k x h =
    ⊎_elim (λ old. subst (λ front. MayFollow front x) (sym old.1) (lawful k x old.0))
    (λ new. subst (λ front. MayFollow front x) (sym new.1) (subst (MayFollow rs) new.0 may))
    (slice_get-push rs r k x h)
