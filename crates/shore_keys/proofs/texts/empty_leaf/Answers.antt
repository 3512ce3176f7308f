use Rattle.std.proofs.Common.{rules, ◌≡◌, ◌≤◌, ◌-◌, length, arith, ◌++◌, ◌∷◌, [], List, ℕ, ap, ◌∙◌}
use Rattle.shore_keys.specs.Nodes.{node_at}
use Rattle.shore_keys.proofs.NewNodes.{empty-leaf}
use Rattle.shore_keys.proofs.texts.empty_leaf.Goals as goal

pub returns : goal.returns
returns c =
    let rest : (rest : List ℕ) × (c.from_vec.result ≡ (0 ∷ 0 ∷ 0 ∷ 0 ∷ []) ++ rest) =
    (c.in_ok-padded.ensures.0, c.from_vec.ensures ∙ c.in_ok-padded.ensures.1 ∙ ap (λ x. x ++ c.in_ok-padded.ensures.0) c.in_ok-text.ensures.items) in
    let fill : length rest.0 ≡ c.args.len - 4 = c.in_ok-padded.ensures.2 ∙ ap (λ (l : List ℕ). c.args.len - length l) c.in_ok-text.ensures.items in
    let whole = ap length rest.1 in
    (ap node_at rest.1 ∙ empty-leaf rest.0, λ room. omega (arith, room, fill, whole))
