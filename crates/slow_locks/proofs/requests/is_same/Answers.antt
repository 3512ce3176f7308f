use Rattle.std.proofs.Common.{◌≡◌, sym, subst}
use Rattle.std.specs.Bool.{Decides}
use Rattle.shore_model.proofs.Equalities.{request_eq-Decides}
use Rattle.slow_locks.proofs.requests.is_same.Goals as goal

pub returns : goal.returns
returns c = subst (λ r. Decides r (c.args.a.now ≡ c.args.b.now)) (sym c.eq.ensures) (request_eq-Decides c.args.a.now c.args.b.now)
