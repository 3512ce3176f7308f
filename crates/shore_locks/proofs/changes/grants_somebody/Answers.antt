use Rattle.std.proofs.Common.{◌≡◌, ap, subst, sym, true, ◌∙◌}
use Rattle.std.specs.Prelude.{IsSomeAnd}
use Rattle.shore_locks.specs.Grants.{can_be_granted}
use Rattle.shore_model.specs.Requests.{requests_at}
use Rattle.shore_nodes.proofs.Passes.{pass_ends, pass_stops}
use Rattle.shore_locks.proofs.changes.grants_somebody.Goals as goal

pub returns-in-Some-clause-none : goal.returns-in-Some-clause-none
returns-in-Some-clause-none c = λ none.
    pass_stops c.args.granule.now c.args.nodes.now.requests c.in-Some.waiter c.in-Some.ensures
    (ap (λ rs. can_be_granted c.in-Some.waiter (requests_at c.in-Some.waiter.granule rs)) (sym c.nodes.ensures.requests) ∙ sym c.can_be_granted.ensures ∙ none)

pub returns-in-None-clause-none : goal.returns-in-None-clause-none
returns-in-None-clause-none c = λ none. pass_ends c.args.granule.now c.args.nodes.now.requests c.in-None.ensures

pub returns-in-Some-clause-some : goal.returns-in-Some-clause-some
returns-in-Some-clause-some c = λ granted.
    subst (λ o. IsSomeAnd o (λ w. can_be_granted w (requests_at w.granule c.args.nodes.now.requests) ≡ true)) c.in-Some.ensures
    (ap (λ rs. can_be_granted c.in-Some.waiter (requests_at c.in-Some.waiter.granule rs)) (sym c.nodes.ensures.requests) ∙ sym c.can_be_granted.ensures ∙ granted)
