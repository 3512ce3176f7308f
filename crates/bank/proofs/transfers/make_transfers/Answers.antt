use Rattle.std.proofs.Common.{arith}
use Rattle.bank.proofs.Claims.{after_full, after_made, after_victim}
use Rattle.bank.proofs.transfers.make_transfers.Goals as goal
use Rattle.bank.proofs.transfers.make_transfers.Goals.{in-Made, in-Victim, in-Full}

pub loop-preserved : goal.loop-preserved
loop-preserved g c =
    let inv = c.loop.invariant in
    let t = c.in_ok-take_turn.ensures.told in
    let told = g.C.Client.told in
    let next = c.take_turn.new.client in
    let made = c.match-branch-2.made in
    let turn = c.in_ok-take_turn.field-0 in
    elim c.match-branch-2.branch [
      | in-Made w ↦ (
        omega (arith, inv.0, c.if-made-eq-TRANSFERS.false, w.made-is),
        after_made (g.C.Client.known c.loop.client).durable (g.C.Client.known next).durable c.args.account c.loop.made made (told c.loop.client) (told next) t.0 turn c.in_ok-take_turn.ensures.known inv.1 t.1 t.2 w.in-Made.is w.made-is,
      )
      | in-Victim w ↦ (
        omega (arith, inv.0, w.made-is),
        after_victim (g.C.Client.known c.loop.client).durable (g.C.Client.known next).durable c.args.account c.loop.made made (told c.loop.client) (told next) t.0 turn c.in_ok-take_turn.ensures.known inv.1 t.1 t.2 w.in-Victim.is w.made-is,
      )
      | in-Full w ↦ (
        omega (arith, inv.0, w.made-is),
        after_full (g.C.Client.known c.loop.client).durable (g.C.Client.known next).durable c.args.account c.loop.made made (told c.loop.client) (told next) t.0 turn c.in_ok-take_turn.ensures.known inv.1 t.1 t.2 w.in-Full.is w.made-is,
      )
    ]
