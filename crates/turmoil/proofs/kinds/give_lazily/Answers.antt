use Rattle.std.proofs.Common.{◌++◌, refl, inl}
use Rattle.turmoil.proofs.Commits.{at_err, at_result, told_both}
use Rattle.turmoil.proofs.Counts.{counted_none, none_both, nothing_added}
use Rattle.turmoil.proofs.kinds.give_lazily.Goals as goal

pub returns-in_err-begin_and_give-clause-told : goal.returns-in_err-begin_and_give-clause-told
returns-in_err-begin_and_give-clause-told g c =
    let n = c.begin_and_give.ensures.nothing in
    (n.0, n.1, at_err c.from_residual.result _ _ c.from_residual.ensures.0 (λ f p. nothing_added n.0 n.2))

pub returns-clause-told : goal.returns-clause-told
returns-clause-told g c =
    let told = g.C.Client.told c.args.client.now in
    let h = c.in_ok-begin_and_give.ensures.counts in
    let u = c.ask_to_commit.ensures.told in (
      (h.0 ++ h.1) ++ u.0,
      told_both told (h.0 ++ h.1) u.0 h.2 u.1,
      at_result c.ask_to_commit.result u.2 (λ first w known le. (h.0, h.1, u.0, h.3, h.4, h.5, inl (w known le), refl)) (λ f w p. none_both (h.0 ++ h.1) u.0 (counted_none c.args.number told (g.C.Client.told c.begin_and_give.new.client) h) (w p)),
    )
