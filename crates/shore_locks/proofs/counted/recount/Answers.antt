use Rattle.std.proofs.Common.{ℕ, ap, arith, length, subst}
use Rattle.std.specs.Prelude.{◌==◌}
use Rattle.std.proofs.lemmas.List.{length-map}
use Rattle.shore_model.specs.declared.requests.Request.{Request}
use Rattle.shore_nodes.specs.Nodes.{queue_head}
use Rattle.shore_nodes.specs.Tallies.{Counts}
use Rattle.shore_nodes.proofs.Counts.{length-filter_most}
use Rattle.shore_locks.proofs.counted.recount.Goals as goal

pub returns : goal.returns
returns c =
    let most = length-filter_most (λ (r : Request). queue_head c.args.nodes.now.heads r.granule == c.args.head) c.args.nodes.now.requests in
    let long = ap length c.crowd.ensures in
    let same = length-map c.crowd.result (λ (p : ℕ × Request). p.1) in
    let few = c.len.ensures.fits in
    subst (Counts c.tally_of.result) c.crowd.ensures (c.tally_of.ensures (omega (arith, most, long, same, few)))
