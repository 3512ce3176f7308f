use Rattle.std.proofs.Common.{◌++◌, zero, [], arith}
use Rattle.turmoil.proofs.Commits.{if_ok, told_both}
use Rattle.turmoil.proofs.Counts.{added_both, added_last, none_both, nothing_added}
use Rattle.turmoil.proofs.kinds.commit_lazily.Goals as goal

pub returns-in-Ok-clause-told : goal.returns-in-Ok-clause-told
returns-in-Ok-clause-told g c =
    let t = c.in-Ok.ensures.told in
    let f = c.follow.ensures.told in
    let known = (g.C.Client.known c.follow.new.client).durable in
    let of = c.args.number in
    (t.0 ++ f.0, told_both (g.C.Client.told c.args.client.now) t.0 f.0 t.1 f.1, if_ok c.follow.result f.2 (λ x w. (2, w.0, added_both of known 1 1 t.0 f.0 (added_last of known [] t.0 tt (t.2 known w.1)) w.2)))

pub returns-in-Err-clause-told : goal.returns-in-Err-clause-told
returns-in-Err-clause-told g c =
    let t = c.in-Err.ensures.told in
    let n = c.give_up.ensures.nothing in (
      t.0 ++ n.0,
      told_both (g.C.Client.told c.args.client.now) t.0 n.0 t.1 n.1,
      if_ok c.give_up.result c.give_up.ensures.goes_on (λ x w. (zero, omega (arith, c.give_up.ensures.same), none_both t.0 n.0 (t.2 w) (nothing_added n.0 n.2))),
    )
