use Rattle.std.proofs.Common.{◌++◌, ◌∙◌, [], refl, sym, append-nil, arith}
use Rattle.turmoil.proofs.Commits.{told_both}
use Rattle.turmoil.proofs.Counts.{added_last, none_both, nothing_added}
use Rattle.turmoil.proofs.kinds.follow.Goals as goal

pub loop-init : goal.loop-init
loop-init g c = (([], sym (append-nil (g.C.Client.told c.args.client.now)), tt), omega (arith), refl)

pub loop-preserved : goal.loop-preserved
loop-preserved g c =
    let first = g.C.Client.told c.args.client.now in
    let inv = c.loop.invariant in
    let t = c.in-Err.ensures.told in
    let n = c.give_up.ensures.nothing in
    let w = c.in_ok-give_up-in-Err.ensures.goes_on in (
      (
        inv.0.0 ++ t.0 ++ n.0,
        told_both first (inv.0.0 ++ t.0) n.0 (told_both first inv.0.0 t.0 inv.0.1 t.1) n.1,
        none_both (inv.0.0 ++ t.0) n.0 (none_both inv.0.0 t.0 inv.0.2 (t.2 w)) (nothing_added n.0 n.2),
      ),
      omega (arith, inv.1, c.in-Err.ensures.known, c.give_up.ensures.known),
      c.give_up.ensures.same ∙ inv.2,
    )

pub returns-in-Ok-clause-told : goal.returns-in-Ok-clause-told
returns-in-Ok-clause-told g c =
    let inv = c.loop.invariant in
    let t = c.in-Ok.ensures.told in
    let known = (g.C.Client.known c.give_durably.new.client).durable in (
      inv.0.0 ++ t.0,
      told_both (g.C.Client.told c.args.client.now) inv.0.0 t.0 inv.0.1 t.1,
      (omega (arith, inv.2), omega (arith, t.2.0, c.if-number.false), added_last c.args.number known inv.0.0 t.0 inv.0.2 t.2.1),
    )
