use Rattle.std.proofs.Common.{◌≡◌, ◌⊎◌, ◌≤◌, ◌<◌}
use Rattle.shore_types.specs.declared.faults.Fault.TheVariants as fault
use Rattle.shore_model.specs.declared.step.Step.TheVariants as made
use Rattle.shore_shared.specs.Heard.{HasLooked}
use Rattle.shore_shared.proofs.Hearing.{HasMade}
use Rattle.shore_shared.proofs.session.Session.call_within.Given as goal

abbrev pub invariant-loop : goal.invariant-loop
invariant-loop g l = (goal.iterator-loop g).can_next l.iterator' × (goal.iterator-loop g).is_finite l.iterator' × (l.self.number ≡ l.fn.self.number)
    × HasLooked l.fn.self.seat l.self.seat × (l.fn.self.share.amount ≤ l.self.share.amount)
    × ((l.step ≡ made.Refused fault.Memory) ⊎ (l.fn.self.share.amount < l.self.share.amount)) × HasMade l.fn.call l.fn.self.ear l.self.ear l.step × (l.call ≡ l.fn.call)
