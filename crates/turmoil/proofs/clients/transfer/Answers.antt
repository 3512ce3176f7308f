use Rattle.shore_model.specs.declared.calls.Call.TheVariants as Call
use Rattle.turmoil.proofs.Commits.{if_ok, left_by, left_by_account, left_then, nothing_by, nothing_then}
use Rattle.turmoil.proofs.clients.transfer.Goals as goal

pub returns-in_err-change_and_go_back-clause-nothing : goal.returns-in_err-change_and_go_back-clause-nothing
returns-in_err-change_and_go_back-clause-nothing g c = nothing_then (g.C.Client.told c.args.client.now) (nothing_then (g.C.Client.told c.args.client.now) (nothing_by (g.C.Client.told c.args.client.now) (record { call = Call.Begin; reply = c.call.result }) tt c.call.ensures.told) c.add.ensures.nothing)
    c.change_and_go_back.ensures.nothing

pub returns-clause-nothing : goal.returns-clause-nothing
returns-clause-nothing g c = nothing_then (g.C.Client.told c.args.client.now) (nothing_then (g.C.Client.told c.args.client.now) (nothing_then (g.C.Client.told c.args.client.now) (nothing_by (g.C.Client.told c.args.client.now) (record { call = Call.Begin; reply = c.call.result }) tt c.call.ensures.told) c.add.ensures.nothing)
    c.change_and_go_back.ensures.nothing) c.add-2.ensures.nothing

pub returns-clause-left : goal.returns-clause-left
returns-clause-left g c =
    let told = g.C.Client.told c.args.client.now in
    let begun = left_by told (record { call = Call.Begin; reply = c.call.result }) tt tt c.call.ensures.told in
    let one = left_then told begun (left_by_account _ _ (g.C.Client.told c.call.new.self) c.account.result c.account.ensures c.in_ok-add.ensures.adds) in
    let other = left_then told one c.in_ok-change_and_go_back.ensures.left in
    if_ok c.add-2.result c.add-2.ensures.adds (λ x w. left_then told other (left_by_account _ _ (g.C.Client.told c.change_and_go_back.new.client) c.account-2.result c.account-2.ensures w))
