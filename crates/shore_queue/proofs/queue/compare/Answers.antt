use Rattle.std.proofs.Common.{ap, ◌∙◌}
use Rattle.shore_queue.proofs.Relays.{merges, forks, totals}
use Rattle.shore_queue.proofs.queue.compare.Goals as goal

pub absorb-requires-clause-rule : goal.absorb-requires-clause-rule
absorb-requires-clause-rule g c = merges _ _ _ _ _ (ap (λ v. v.sends) c.requires.sender.1) (ap (λ v. v.receives) (c.handed_on-whole.ensures.1 ∙ c.requires.receiver.1))

pub len_as-requires-clause-rule : goal.len_as-requires-clause-rule
len_as-requires-clause-rule g c =
    let both = c.absorb.ensures.rule in
    totals _ _ _ (ap (λ v. v.sends) both) (ap (λ v. v.receives) both)

pub another-requires-clause-rule : goal.another-requires-clause-rule
another-requires-clause-rule g c =
    let both = c.len_as.ensures.queue.2 ∙ c.absorb.ensures.rule in
    forks _ _ _ (ap (λ v. v.sends) both) (ap (λ v. v.receives) both)
