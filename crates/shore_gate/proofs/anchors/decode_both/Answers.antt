use Rattle.std.proofs.Common.{◌∙◌, arith}
use Rattle.shore_gate.proofs.ChoiceLemmas.{found_of, verdict_chosen}
use Rattle.shore_gate.proofs.anchors.decode_both.Goals as goal

pub returns-clause-found : goal.returns-clause-found
returns-clause-found c image at_a at_b =
    found_of c.args.a.now c.args.b.now image c.choose.result c.requires.a (λ i. omega (arith, c.type_inv.a i)) c.requires.b (λ i. omega (arith, c.type_inv.b i))
    (c.choose.ensures ∙ verdict_chosen c.args.a.now c.args.b.now c.in_ok-a.a c.in_ok-b.b c.in_ok-a.ensures c.in_ok-b.ensures) at_a at_b
