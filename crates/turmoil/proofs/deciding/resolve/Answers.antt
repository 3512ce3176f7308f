use Rattle.std.proofs.Common.{◌++◌, [], sym, append-nil, arith}
use Rattle.turmoil.proofs.Commits.{at_result, told_both}
use Rattle.turmoil.proofs.Counts.{decided_later, refused_both}
use Rattle.turmoil.specs.Counts.{name_of}
use Rattle.turmoil.proofs.deciding.resolve.Goals as goal

pub loop-init : goal.loop-init
loop-init g c = (([], sym (append-nil (g.C.Client.told c.args.client.now)), tt), omega (arith))

pub loop-preserved : goal.loop-preserved
loop-preserved g c =
    let inv = c.loop.invariant in
    let t = c.in-Err-Memory.ensures.told in
    let is = c.in-Err-Memory.field-0-is in (
      (inv.0.0 ++ t.0, told_both (g.C.Client.told c.args.client.now) inv.0.0 t.0 inv.0.1 t.1, refused_both (name_of c.args.number c.args.turn) c.args.outcome inv.0.0 t.0 inv.0.2 (t.2 (λ e. cc (e, is)) (λ e. cc (e, is)))),
      omega (arith, inv.1, c.in-Err-Memory.ensures.known),
    )

pub returns-in_default : goal.returns-in_default
returns-in_default g c =
    let inv = c.loop.invariant in
    let t = c.in_default.ensures.told in record {
      told = (inv.0.0 ++ t.0, told_both (g.C.Client.told c.args.client.now) inv.0.0 t.0 inv.0.1 t.1, λ p q. refused_both (name_of c.args.number c.args.turn) c.args.outcome inv.0.0 t.0 inv.0.2 (t.2 p q));
      known = omega (arith, inv.1, c.in_default.ensures.known);
    }

pub returns-in_default-2-clause-told : goal.returns-in_default-2-clause-told
returns-in_default-2-clause-told g c =
    let inv = c.loop.invariant in
    let t = c.ask_to_resolve.ensures.told in
    let name = name_of c.args.number c.args.turn in (
      inv.0.0 ++ t.0,
      told_both (g.C.Client.told c.args.client.now) inv.0.0 t.0 inv.0.1 t.1,
      at_result c.ask_to_resolve.result t.2 (λ x w. decided_later name c.args.outcome inv.0.0 t.0 inv.0.2 w) (λ f w p q. refused_both name c.args.outcome inv.0.0 t.0 inv.0.2 (w p q)),
    )
