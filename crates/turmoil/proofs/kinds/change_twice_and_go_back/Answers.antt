use Rattle.shore_model.specs.declared.calls.Call.TheVariants as Call
use Rattle.turmoil.proofs.Commits.{left_by, left_by_account, left_then, nothing_by, nothing_then}
use Rattle.turmoil.proofs.kinds.change_twice_and_go_back.Goals as goal

pub returns-in_err-call-2-clause-nothing : goal.returns-in_err-call-2-clause-nothing
returns-in_err-call-2-clause-nothing g c =
    let told = g.C.Client.told c.args.client.now in
    let one = nothing_then told (nothing_by told (record { call = Call.Savepoint; reply = c.call.result }) tt c.call.ensures.told) c.add.ensures.nothing in
    nothing_then told one (nothing_by (g.C.Client.told c.add.new.client) (record { call = Call.Savepoint; reply = c.call-2.result }) tt c.call-2.ensures.told)

pub returns-in_err-add-2-clause-nothing : goal.returns-in_err-add-2-clause-nothing
returns-in_err-add-2-clause-nothing g c =
    let told = g.C.Client.told c.args.client.now in
    let one = nothing_then told (nothing_by told (record { call = Call.Savepoint; reply = c.call.result }) tt c.call.ensures.told) c.add.ensures.nothing in
    let other = nothing_then told one (nothing_by (g.C.Client.told c.add.new.client) (record { call = Call.Savepoint; reply = c.call-2.result }) tt c.call-2.ensures.told) in
    nothing_then told other c.add-2.ensures.nothing

pub returns-in_err-call-3-clause-nothing : goal.returns-in_err-call-3-clause-nothing
returns-in_err-call-3-clause-nothing g c =
    let told = g.C.Client.told c.args.client.now in
    let one = nothing_then told (nothing_by told (record { call = Call.Savepoint; reply = c.call.result }) tt c.call.ensures.told) c.add.ensures.nothing in
    let other = nothing_then told one (nothing_by (g.C.Client.told c.add.new.client) (record { call = Call.Savepoint; reply = c.call-2.result }) tt c.call-2.ensures.told) in
    let both = nothing_then told other c.add-2.ensures.nothing in
    nothing_then told both (nothing_by (g.C.Client.told c.add-2.new.client) (record { call = Call.BackTo 1; reply = c.call-3.result }) tt c.call-3.ensures.told)

pub returns-in_err-call-4-clause-nothing : goal.returns-in_err-call-4-clause-nothing
returns-in_err-call-4-clause-nothing g c =
    let told = g.C.Client.told c.args.client.now in
    let one = nothing_then told (nothing_by told (record { call = Call.Savepoint; reply = c.call.result }) tt c.call.ensures.told) c.add.ensures.nothing in
    let other = nothing_then told one (nothing_by (g.C.Client.told c.add.new.client) (record { call = Call.Savepoint; reply = c.call-2.result }) tt c.call-2.ensures.told) in
    let both = nothing_then told other c.add-2.ensures.nothing in
    let back = nothing_then told both (nothing_by (g.C.Client.told c.add-2.new.client) (record { call = Call.BackTo 1; reply = c.call-3.result }) tt c.call-3.ensures.told) in
    nothing_then told back (nothing_by (g.C.Client.told c.call-3.new.self) (record { call = Call.BackTo 0; reply = c.call-4.result }) tt c.call-4.ensures.told)

pub returns-clause-nothing : goal.returns-clause-nothing
returns-clause-nothing g c =
    let told = g.C.Client.told c.args.client.now in
    let one = nothing_then told (nothing_by told (record { call = Call.Savepoint; reply = c.call.result }) tt c.call.ensures.told) c.add.ensures.nothing in
    let other = nothing_then told one (nothing_by (g.C.Client.told c.add.new.client) (record { call = Call.Savepoint; reply = c.call-2.result }) tt c.call-2.ensures.told) in
    let both = nothing_then told other c.add-2.ensures.nothing in
    let back = nothing_then told both (nothing_by (g.C.Client.told c.add-2.new.client) (record { call = Call.BackTo 1; reply = c.call-3.result }) tt c.call-3.ensures.told) in
    nothing_then told back (nothing_by (g.C.Client.told c.call-3.new.self) (record { call = Call.BackTo 0; reply = c.call-4.result }) tt c.call-4.ensures.told)

pub returns-clause-left : goal.returns-clause-left
returns-clause-left g c =
    let told = g.C.Client.told c.args.client.now in
    let at = g.C.Client.told in
    let one = left_then told (left_by told (record { call = Call.Savepoint; reply = c.call.result }) tt tt c.call.ensures.told) (left_by_account _ _ (at c.call.new.self) c.account.result c.account.ensures c.in_ok-add.ensures.adds) in
    let other = left_then told one (left_by (at c.add.new.client) (record { call = Call.Savepoint; reply = c.call-2.result }) tt tt c.call-2.ensures.told) in
    let both = left_then told other (left_by_account _ _ (at c.call-2.new.self) c.account-2.result c.account-2.ensures c.in_ok-add-2.ensures.adds) in
    let back = left_then told both (left_by (at c.add-2.new.client) (record { call = Call.BackTo 1; reply = c.call-3.result }) tt tt c.call-3.ensures.told) in
    left_then told back (left_by (at c.call-3.new.self) (record { call = Call.BackTo 0; reply = c.call-4.result }) tt tt c.call-4.ensures.told)
