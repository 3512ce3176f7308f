use Rattle.laws_calls.proofs.VictimLaws.{victim_among}
use Rattle.laws_calls.proofs.cycles.victims_are_on_cycles.Goals as goal

pub returns : goal.returns
returns c = record { on_a_cycle = λ s new t v h. (h.victim.stands.closed, h.victim.passes, victim_among h, h.victim.greatest) }
