use Rattle.std.proofs.Common.{ap, sym, subst, ◌∙◌}
use Rattle.shore_model.specs.Requests.{AreRequests}
use Rattle.shore_nodes.specs.LetThrough.{TellsFirst, TellsOthers}
use Rattle.shore_nodes.proofs.Counts.{AreRequests-stopped}
use Rattle.shore_locks.specs.Grants.{passed}
use Rattle.shore_locks.proofs.Tellings.{taken_back_tells}
use Rattle.shore_locks.proofs.changes.take_back.Goals as goal

pub pass-requires : goal.pass-requires
pass-requires c = subst AreRequests (sym c.stop_waiting.ensures.items) (AreRequests-stopped c.args.request.now c.args.nodes.now.requests c.requires)

pub returns-clause-told : goal.returns-clause-told
returns-clause-told c = λ orderly is.
    let r = c.args.request.now in
    let mid = c.stop_waiting.ensures.items in
    let made = c.pass.ensures.items ∙ ap (passed r.granule) mid in
    subst (λ rs. TellsOthers r.txn c.args.nodes.now.requests rs c.args.let_through.now c.pass.new.let_through) (sym made)
    (taken_back_tells r.txn r c.args.nodes.now.requests c.args.let_through.now c.pass.new.let_through orderly is
    (subst (λ rs. TellsFirst r.granule rs (passed r.granule rs) c.args.let_through.now c.pass.new.let_through) mid
    (subst (λ rs. TellsFirst r.granule c.stop_waiting.new.nodes.requests rs c.args.let_through.now c.pass.new.let_through) c.pass.ensures.items c.pass.ensures.told)))
