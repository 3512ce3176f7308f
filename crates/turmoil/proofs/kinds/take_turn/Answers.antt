use Rattle.std.proofs.Common.{◌++◌}
use Rattle.turmoil.proofs.Commits.{if_ok, told_both}
use Rattle.turmoil.proofs.Counts.{given_up}
use Rattle.turmoil.proofs.kinds.take_turn.Goals as goal

pub returns-in-Err-clause-told : goal.returns-in-Err-clause-told
returns-in-Err-clause-told g c =
    let t = c.in-Err.ensures.told in
    let n = c.give_up.ensures.nothing in
    let known = (g.C.Client.known c.give_up.new.client).durable in (
      t.0 ++ n.0,
      told_both (g.C.Client.told c.args.client.now) t.0 n.0 t.1 n.1,
      if_ok c.give_up.result c.give_up.ensures.goes_on (λ x w. given_up c.args.number known c.args.notes.now.commits c.one_transaction.new.notes.commits c.give_up.new.notes.commits c.in-Err.fault t.0 n.0 t.2 w.0 w.1 n.2 c.give_up.ensures.same),
    )
