use Rattle.std.proofs.Common.{rules, ◌≡◌, ◌≤◌, ◌+◌, ◌-◌, length, arith, ◌++◌, ◌∷◌, [], List, ℕ, ap, ◌∙◌}
use Rattle.shore_keys.specs.Nodes.{Entry as Pair}
use Rattle.shore_keys.specs.Nodes.{entry_text, node_at}
use Rattle.std.proofs.lemmas.List.{length-append}
use Rattle.shore_keys.proofs.Written.{entry-length}
use Rattle.shore_keys.proofs.NewNodes.{one-entry}
use Rattle.shore_keys.proofs.texts.one_entry.Goals as goal

pub returns : goal.returns
returns c =
    let e : Pair = (c.args.key.now, c.args.spot.0, c.args.spot.1) in
    let before : List ℕ = (c.args.level ∷ 0 ∷ 1 ∷ 0 ∷ []) ++ entry_text e in
    let put = c.in_ok-put_entry.ensures ∙ ap (λ x. x ++ entry_text e) c.in_ok-text.ensures.items in
    let rest : (rest : List ℕ) × (c.from_vec.result ≡ before ++ rest) = (
      c.in_ok-padded.ensures.0,
      c.from_vec.ensures ∙ c.in_ok-padded.ensures.1 ∙ ap (λ x. x ++ c.in_ok-padded.ensures.0) put,
    ) in
    let fill : length rest.0 ≡ c.args.len - length before = c.in_ok-padded.ensures.2 ∙ ap (λ (l : List ℕ). c.args.len - length l) put in
    let long : length before ≡ length c.args.key.now + 11 = let a = entry-length c.args.key.now c.args.spot in let b = length-append (c.args.level ∷ 0 ∷ 1 ∷ 0 ∷ []) (entry_text e) in omega arith in
    let whole = ap length rest.1 ∙ length-append before rest.0 in (
      ap node_at rest.1 ∙ one-entry c.args.level e rest.0 (record { key = c.requires; page = search rules; slot = search rules }),
      λ room. omega (arith, room, fill, long, whole),
    )
