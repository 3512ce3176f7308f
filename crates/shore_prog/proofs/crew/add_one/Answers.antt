use Rattle.std.proofs.Common.{◌∙◌, Ok, ap}
use Rattle.shore_model.specs.declared.calls.Call.TheVariants as Call
use Rattle.shore_prog.proofs.Counted.{counting, counts_up, four_calls, got_number}
use Rattle.shore_prog.proofs.crew.add_one.Goals as goal

pub returns-clause-counted : goal.returns-clause-counted
returns-clause-counted g c =
    let id = c.args.id.now in
    let text = c.in_ok-after.after in
    let k = c.in_ok-commit_durable.ensures.told in (
      counting id c.call.result c.call-2.result text c.call-3.result k.0,
      four_calls (g.C.Client.told c.args.client.now) (record { call = Call.Begin; reply = c.call.result }) (record { call = Call.GetForUpdate id; reply = c.call-2.result })
          (record { call = Call.Update id text; reply = c.call-3.result }) (record { call = Call.Commit; reply = k.0 }) c.call.ensures.told c.call-2.ensures.told c.call-3.ensures.told k.1,
      counts_up (g.C.Client.known c.commit_durable.new.self).durable c.in-Began.field-0 c.in-Some.before c.in_ok-commit_durable.field-0 id c.in-Some.ensures.0 c.in_ok-commit_durable.ensures.durable
          (c.in_ok-call.was ∙ ap Ok c.in-Began.is) (got_number c.in-Some.before c.in_ok-bytes.was c.in-Got.is c.as_slice.ensures c.in-Some.ensures.1) c.in_ok-after.ensures
          (c.in_ok-call-2.was ∙ ap Ok c.in-Updated.is) k.2,
    )
