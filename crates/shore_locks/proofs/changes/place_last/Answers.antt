use Rattle.std.proofs.Common.{◌++◌, ◌∷◌, [], ap, ◌∙◌}
use Rattle.shore_nodes.proofs.Entering.{placed_new}
use Rattle.shore_locks.proofs.changes.place_last.Goals as goal

pub returns-then-not-move_last-clause-items : goal.returns-then-not-move_last-clause-items
returns-then-not-move_last-clause-items c =
    let gone = c.if-not-move_last.ensures.items in
    c.push.ensures.items ∙ ap (λ rs. rs ++ c.args.request.now ∷ []) gone.1 ∙ placed_new c.args.request.now c.args.nodes.now.requests gone.0
