use Rattle.std.proofs.Common.{◌≡◌, ◌-◌, ◌++◌, ℕ, length, replicate, ap, ◌∙◌, arith}
use Rattle.shore_page.proofs.claims.add_claims.Goals as goal

pub returns-clause-claims : goal.returns-clause-claims
returns-clause-claims c =
    let items = c.args.claims.now.items in
    let count : c.loop.counter - length items ≡ c.args.slots - length items = omega (arith, c.requires.order) in
    c.loop.invariant.claims ∙ ap (λ (n : ℕ). items ++ replicate n 0) count
