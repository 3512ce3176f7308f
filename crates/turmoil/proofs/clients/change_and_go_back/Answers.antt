use Rattle.shore_model.specs.declared.calls.Call.TheVariants as Call
use Rattle.turmoil.proofs.Commits.{left_by, left_by_account, left_then, nothing_by, nothing_then}
use Rattle.turmoil.proofs.clients.change_and_go_back.Goals as goal

pub returns-in_err-call-2-clause-nothing : goal.returns-in_err-call-2-clause-nothing
returns-in_err-call-2-clause-nothing g c = nothing_then (g.C.Client.told c.args.client.now) (nothing_then (g.C.Client.told c.args.client.now) (nothing_by (g.C.Client.told c.args.client.now) (record { call = Call.Savepoint; reply = c.call.result }) tt c.call.ensures.told) c.add.ensures.nothing)
    (nothing_by (g.C.Client.told c.add.new.client) (record { call = Call.BackTo 0; reply = c.call-2.result }) tt c.call-2.ensures.told)

pub returns-clause-nothing : goal.returns-clause-nothing
returns-clause-nothing g c = nothing_then (g.C.Client.told c.args.client.now) (nothing_then (g.C.Client.told c.args.client.now) (nothing_by (g.C.Client.told c.args.client.now) (record { call = Call.Savepoint; reply = c.call.result }) tt c.call.ensures.told) c.add.ensures.nothing)
    (nothing_by (g.C.Client.told c.add.new.client) (record { call = Call.BackTo 0; reply = c.call-2.result }) tt c.call-2.ensures.told)

pub returns-clause-left : goal.returns-clause-left
returns-clause-left g c =
    let told = g.C.Client.told c.args.client.now in
    let one = left_by told (record { call = Call.Savepoint; reply = c.call.result }) tt tt c.call.ensures.told in
    let other = left_then told one (left_by_account _ _ (g.C.Client.told c.call.new.self) c.account.result c.account.ensures c.in_ok-add.ensures.adds) in
    left_then told other (left_by (g.C.Client.told c.add.new.client) (record { call = Call.BackTo 0; reply = c.call-2.result }) tt tt c.call-2.ensures.told)
