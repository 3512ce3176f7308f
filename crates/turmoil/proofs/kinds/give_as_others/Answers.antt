use Rattle.turmoil.proofs.Commits.{at_result}
use Rattle.turmoil.proofs.Counts.{comes_to_counts, nothing_added}
use Rattle.turmoil.proofs.kinds.give_as_others.Goals as goal

pub returns-clause-told : goal.returns-clause-told
returns-clause-told g c =
    let known = (g.C.Client.known c.transaction.new.client).durable in
    let t = c.transaction.ensures.told in
    (t.0, t.1, at_result c.transaction.result t.2 (λ x w. comes_to_counts c.args.number known c.args.notes.now.commits c.transaction.new.notes.commits t.0 w) (λ f w. (w.0, λ p q. nothing_added t.0 (w.1 p q))))
