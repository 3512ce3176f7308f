use Rattle.shore_model.specs.declared.calls.Call.TheVariants as Call
use Rattle.turmoil.proofs.Commits.{added_one, got_number, nothing_by, nothing_then}
use Rattle.turmoil.proofs.clients.add.Goals as goal

pub returns-in_err-call-clause-nothing : goal.returns-in_err-call-clause-nothing
returns-in_err-call-clause-nothing g c = nothing_then (g.C.Client.told c.args.client.now) (nothing_by (g.C.Client.told c.args.client.now) (record { call = Call.GetForUpdate c.args.id; reply = c.call.result }) tt c.call.ensures.told)
    (nothing_by (g.C.Client.told c.call.new.self) (record { call = Call.Update c.args.id c.in_ok-bytes_of.field-0; reply = c.call-2.result }) tt c.call-2.ensures.told)

pub returns-clause-nothing : goal.returns-clause-nothing
returns-clause-nothing g c = nothing_then (g.C.Client.told c.args.client.now) (nothing_by (g.C.Client.told c.args.client.now) (record { call = Call.GetForUpdate c.args.id; reply = c.call.result }) tt c.call.ensures.told)
    (nothing_by (g.C.Client.told c.call.new.self) (record { call = Call.Update c.args.id c.in_ok-bytes_of.field-0; reply = c.call-2.result }) tt c.call-2.ensures.told)

pub returns-clause-adds : goal.returns-clause-adds
returns-clause-adds g c = added_one c.args.id c.args.amount c.in-Some.has (g.C.Client.told c.args.client.now) c.in-Some.ensures.0 c.call.ensures.told c.call-2.ensures.told
    (got_number c.in-Some.has c.in_ok-bytes.was c.in-Got.is c.as_slice.ensures c.in-Some.ensures.1) c.in_ok-bytes_of.ensures c.in_ok-call.was
