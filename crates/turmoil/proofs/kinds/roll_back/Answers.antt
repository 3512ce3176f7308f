use Rattle.std.proofs.Common.{[], sym, append-nil, arith}
use Rattle.shore_model.specs.declared.calls.Call.TheVariants as Call
use Rattle.turmoil.proofs.Commits.{nothing_by, nothing_then}
use Rattle.turmoil.proofs.kinds.roll_back.Goals as goal

pub loop-init : goal.loop-init
loop-init g c = (([], sym (append-nil (g.C.Client.told c.args.client.now)), tt), omega (arith))

pub loop-preserved : goal.loop-preserved
loop-preserved g c = (
  nothing_then (g.C.Client.told c.args.client.now) c.loop.invariant.0 (nothing_by (g.C.Client.told c.loop.client) (record { call = Call.Abort; reply = c.call.result }) tt c.call.ensures.told),
  omega (arith, c.loop.invariant.1, c.call.ensures.known.0),
)

pub returns-in_default-clause-nothing : goal.returns-in_default-clause-nothing
returns-in_default-clause-nothing g c =
    nothing_then (g.C.Client.told c.args.client.now) c.loop.invariant.0 (nothing_by (g.C.Client.told c.loop.client) (record { call = Call.Abort; reply = c.call.result }) tt c.call.ensures.told)
