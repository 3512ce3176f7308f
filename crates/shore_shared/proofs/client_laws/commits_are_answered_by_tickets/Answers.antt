use Rattle.std.proofs.Common.{◌≡◌, ◌≢◌, ◌⊎◌, ◌∙◌, ◌+◌, ℕ, Bool, List, Result, Err, Ok, Some, Contains, inl, inr, ap, subst, sym}
use Rattle.shore_types.specs.declared.faults.Fault.{Fault}
use Rattle.shore_types.specs.declared.faults.Fault.TheVariants as fault
use Rattle.shore_model.specs.declared.calls.Answer.{Answer}
use Rattle.shore_model.specs.declared.calls.Call.TheVariants as call
use Rattle.shore_model.specs.declared.step.Step.{Step}
use Rattle.laws_calls.specs.Events.{Called}
use Rattle.shore_world.specs.EventMoves.{OfManager, PlainMove}
use Rattle.shore_held.specs.Trails.{noted_in}
use Rattle.shore_shared.specs.Clients.{ComesOfCommit, IsReplyToCommit, StandsIn}
use Rattle.shore_shared.specs.Heard.{IsOfCommit}
use Rattle.shore_shared.proofs.Commits.{all_replied, trail_comes}
use Rattle.shore_shared.proofs.NotedSteps.{call_is_made}
use Rattle.shore_shared.proofs.Standing.{stands}
use Rattle.shore_shared.proofs.client_laws.commits_are_answered_by_tickets.Goals as goal

pub returns-clause-steps : goal.returns-clause-steps
returns-clause-steps g c start cut kept asked stepped w ended session step is =
    let h = ended.come_by in
    trail_comes h.geometry start.first h.plain h.last h.made h.moves session step
    (subst (λ (ms : List PlainMove). Contains ms (OfManager (Called session call.Commit step))) (sym h.are) (call_is_made asked stepped session call.Commit step is))

pub returns-clause-replies : goal.returns-clause-replies
returns-clause-replies g c start cut kept asked stepped w ended so client jobs done told life =
    let h = ended.come_by in
    all_replied (noted_in asked stepped) (client + 1)
    (λ step is. trail_comes h.geometry start.first h.plain h.last h.made h.moves (client + 1) step
    (subst (λ (ms : List PlainMove). Contains ms (OfManager (Called (client + 1) call.Commit step))) (sym h.are) (call_is_made asked stepped (client + 1) call.Commit step is)))
    so.failed _ _ (stands (client + 1) (noted_in asked stepped)) life.trail

-- a refusal of what was answered so
refused_so : (failed : Bool) (reply : Result Answer Fault) (f : Fault) → IsReplyToCommit reply → IsOfCommit failed reply (Err f) → f ≢ fault.NotQuiet
refused_so failed (Ok a) f is (inl same) = absurd (cc same)
refused_so failed (Err g) f is (inl same) = λ e. is (ap (the_fault g) same ∙ e)
  where
    the_fault : Fault → Result Answer Fault → Fault
    the_fault other (Ok a) = other
    the_fault other (Err x) = x
refused_so failed reply f is (inr (inl (ticket, same, device, found))) = λ e. absurd (cc (device, e))
refused_so failed reply f is (inr (inr (other, same, never, quiet))) = let it = subst IsReplyToCommit same is in absurd (never it.0 it.1)

pub returns-clause-awaited : goal.returns-clause-awaited
returns-clause-awaited g c = refused_so
