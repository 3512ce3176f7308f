use Rattle.std.proofs.Common.{ap, refl, ◌∙◌}
use Rattle.std.specs.Prelude.{not}
use Rattle.shore_sessions.specs.Controls.{locks_in}
use Rattle.shore_sessions.proofs.ControlSteps.{control_asked}
use Rattle.shore_sessions.proofs.control.Control.wait.Goals as goal

pub returns-clause-stands : goal.returns-clause-stands
returns-clause-stands c s a was its number plain = control_asked c.args.self.now _ s was refl c.args.session c.args.txn c.args.call c.args.granule a its number plain refl c.push.ensures.calls

pub invariant_of-self-clause-marked : goal.invariant_of-self-clause-marked
invariant_of-self-clause-marked c = c.push.ensures.marks (locks_in c.args.self.now).requests c.args.self.now.marked (λ lock gone. ap not (c.is_waiting-is_let_through.ensures ∙ gone))
