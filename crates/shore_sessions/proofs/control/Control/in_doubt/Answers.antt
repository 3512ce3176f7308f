use Rattle.std.proofs.Common.{List, ℕ, subst, ◌∙◌}
use Rattle.std.specs.List.Sorted.{IsPermutation}
use Rattle.shore_sessions.specs.Controls.{txns_in}
use Rattle.shore_sessions.proofs.DoubtsListed.{doubts_listed}
use Rattle.shore_sessions.proofs.control.Control.in_doubt.Goals as goal

pub returns-clause-listed : goal.returns-clause-listed
returns-clause-listed c s was differ =
    let txns = txns_in c.args.self.now in
    c.from_vec.ensures
    ∙ doubts_listed txns s was.txns differ c.put_in_order.new.found.items
    (subst (λ (l : List (List ℕ × ℕ)). IsPermutation l c.put_in_order.new.found.items) c.in_ok-found.ensures c.put_in_order.ensures.same)
    c.put_in_order.ensures.order
