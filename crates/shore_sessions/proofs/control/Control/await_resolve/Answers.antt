use Rattle.std.proofs.Common.{refl}
use Rattle.shore_sessions.specs.Controls.{locks_in}
use Rattle.shore_sessions.proofs.ResolveWaits.{control_awaited}
use Rattle.shore_sessions.proofs.control.Control.await_resolve.Goals as goal

pub returns-clause-stands : goal.returns-clause-stands
returns-clause-stands c s was outside = control_awaited c.args.self.now _ s c.args.session c.args.txn c.args.number c.args.global c.args.outcome was outside refl refl c.push.ensures.calls

pub invariant_of-self-clause-marked : goal.invariant_of-self-clause-marked
invariant_of-self-clause-marked c = c.push.ensures.marks (locks_in c.args.self.now).requests c.args.self.now.marked (λ lock gone. absurd cc)
