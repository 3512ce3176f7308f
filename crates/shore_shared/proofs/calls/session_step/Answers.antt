use Rattle.std.proofs.Common.{◌≡◌, Option, Some, None, ap, subst, sym, ◌∙◌}
use Rattle.shore_model.specs.declared.calls.Call.{Call}
use Rattle.shore_core.specs.Replies.{InEach, Stepped}
use Rattle.shore_shared.proofs.calls.session_step.Goals as goal

-- the call that is there
abbrev the_call : Call → Option Call → Call
the_call other (Some c) = c
the_call other None = other

pub returns-in-Some-clause-call : goal.returns-in-Some-clause-call
returns-in-Some-clause-call g c call is =
    let same : c.in-Some.call ≡ call = ap (the_call call) (sym c.in-Some.is ∙ is) in
    subst (λ (x : Call). InEach (λ front disk before s store. Stepped c.args.session.now.number x c.call.result c.args.core.now.core c.call.new.self.core front before s store) c.args.core.now.core)
    same c.call.ensures.step
