use Rattle.std.proofs.Common.{ℕ, map}
use Rattle.shore_model.specs.declared.requests.Request.{Request}
use Rattle.shore_locks.proofs.Buckets.{waiting_same}
use Rattle.std.proofs.Common.{sym, ◌∙◌}
use Rattle.shore_locks.proofs.Lasts.{newest_tells}
use Rattle.shore_locks.proofs.searches.waiting_request.Goals as goal

pub loop-request-init : goal.loop-request-init
loop-request-init c = waiting_same c.args.txn (map (λ (p : ℕ × Request). p.1) c.list-walk.result) c.args.nodes.now.requests c.list-walk.ensures

pub returns-in-Some : goal.returns-in-Some
returns-in-Some c = c.if_waiting.ensures ∙ sym (newest_tells c.args.txn c.args.nodes.now.requests c.in-Some.newest.now c.requires c.in-Some.ensures)
