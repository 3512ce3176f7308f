use Rattle.std.proofs.Common.{refl, sym, ◌∙◌}
use Rattle.shore_sessions.specs.Controls.{locks_in, waits_in}
use Rattle.shore_sessions.proofs.Answered.{none_so, some_so}
use Rattle.shore_sessions.proofs.ControlSteps.{control_refused, control_same}
use Rattle.shore_sessions.proofs.Taking.{none_removed}
use Rattle.shore_sessions.proofs.WaitSteps.{free_waits_not}
use Rattle.shore_sessions.proofs.control.Control.take_wait.Goals as goal

pub returns-clause-none : goal.returns-clause-none
returns-clause-none c = none_so c.take.result (λ none. (none, c.take.ensures.left ∙ sym (none_removed c.args.session (waits_in c.args.self.now) none))) c.take.ensures.none

pub returns-clause-stands : goal.returns-clause-stands
returns-clause-stands c = some_so c.take.result
    (λ w found s was asked. control_refused c.args.self.now _ s was refl c.args.session w c.args.self.now.waits.once found.0 found.1 asked refl c.take.ensures.left) c.take.ensures.some

pub returns-clause-same : goal.returns-clause-same
returns-clause-same c = none_so c.take.result
    (λ none s was. (
      free_waits_not (waits_in c.args.self.now) s was.waits c.args.session none,
      control_same c.args.self.now _ s was refl refl (c.take.ensures.left ∙ sym (none_removed c.args.session (waits_in c.args.self.now) none)),
    )) c.take.ensures.none

pub invariant_of-self-clause-marked : goal.invariant_of-self-clause-marked
invariant_of-self-clause-marked c = c.take.ensures.marks (locks_in c.args.self.now).requests c.args.self.now.marked
