use Rattle.shore_model.specs.declared.calls.Call.TheVariants as Call
use Rattle.turmoil.proofs.Commits.{if_ok, left_by, nothing_by, nothing_then}
use Rattle.turmoil.proofs.Counts.{counted_then}
use Rattle.turmoil.proofs.kinds.begin_and_give.Goals as goal

pub returns-clause-nothing : goal.returns-clause-nothing
returns-clause-nothing g c =
    let told = g.C.Client.told c.args.client.now in
    nothing_then told (nothing_by told (record { call = Call.Begin; reply = c.call.result }) tt c.call.ensures.told) c.give.ensures.nothing

pub returns-clause-counts : goal.returns-clause-counts
returns-clause-counts g c =
    let told = g.C.Client.told c.args.client.now in
    if_ok c.give.result c.give.ensures.counts (λ x w. counted_then c.args.number told (left_by told (record { call = Call.Begin; reply = c.call.result }) tt tt c.call.ensures.told) w)
