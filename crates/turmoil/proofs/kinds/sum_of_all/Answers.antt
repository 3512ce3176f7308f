use Rattle.std.proofs.Common.{arith}
use Rattle.shore_model.specs.declared.calls.Call.TheVariants as Call
use Rattle.turmoil.proofs.Commits.{left_by, left_then}
use Rattle.turmoil.proofs.kinds.sum_of_all.Goals as goal

pub returns-in_err-pairs-clause-left : goal.returns-in_err-pairs-clause-left
returns-in_err-pairs-clause-left g c =
    let told = g.C.Client.told c.args.client.now in
    left_then told (left_by told (record { call = Call.Begin; reply = c.call.result }) tt tt c.call.ensures.told) (left_by (g.C.Client.told c.call.new.self) (record { call = Call.Scan 0; reply = c.call-2.result }) tt tt c.call-2.ensures.told)

pub returns-clause-left : goal.returns-clause-left
returns-clause-left g c =
    let told = g.C.Client.told c.args.client.now in
    left_then told (left_by told (record { call = Call.Begin; reply = c.call.result }) tt tt c.call.ensures.told) (left_by (g.C.Client.told c.call.new.self) (record { call = Call.Scan 0; reply = c.call-2.result }) tt tt c.call-2.ensures.told)

pub returns-in_default : goal.returns-in_default
returns-in_default g c =
    let told = g.C.Client.told c.args.client.now in record {
      left = left_then told (left_by told (record { call = Call.Begin; reply = c.call.result }) tt tt c.call.ensures.told)
          (left_by (g.C.Client.told c.call.new.self) (record { call = Call.Scan 0; reply = c.call-2.result }) tt tt c.call-2.ensures.told);
      known = omega (arith, c.call.ensures.known.0, c.call-2.ensures.known.0);
    }
