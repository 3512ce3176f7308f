use Rattle.std.proofs.Common.{ℕ, map}
use Rattle.shore_model.specs.declared.requests.Request.{Request}
use Rattle.shore_locks.proofs.Buckets.{request_for_same}
use Rattle.shore_locks.proofs.searches.own_hold.Goals as goal

pub loop-request-init : goal.loop-request-init
loop-request-init c = request_for_same c.args.txn c.args.granule.now (map (λ (p : ℕ × Request). p.1) c.owned-walk.result) c.args.nodes.now.requests c.owned-walk.ensures
