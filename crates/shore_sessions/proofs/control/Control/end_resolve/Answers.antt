use Rattle.std.proofs.Common.{refl}
use Rattle.shore_sessions.specs.Controls.{locks_in}
use Rattle.shore_sessions.proofs.ResolveWaits.{control_resolved}
use Rattle.shore_sessions.proofs.control.Control.end_resolve.Goals as goal

pub returns-clause-stands : goal.returns-clause-stands
returns-clause-stands c s w r was works m own is =
    control_resolved c.args.self.now _ s c.args.session w r was works c.args.self.now.waits.once m own is refl refl c.take.ensures.left

pub invariant_of-self-clause-marked : goal.invariant_of-self-clause-marked
invariant_of-self-clause-marked c = c.take.ensures.marks (locks_in c.args.self.now).requests c.args.self.now.marked
