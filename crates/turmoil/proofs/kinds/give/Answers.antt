use Rattle.std.proofs.Common.{◌<◌, ◌%◌, arith}
use Rattle.turmoil.proofs.Commits.{if_ok, left_by_account, left_then, nothing_then}
use Rattle.turmoil.proofs.Counts.{counted_by}
use Rattle.turmoil.proofs.kinds.give.Goals as goal

pub returns-clause-nothing : goal.returns-clause-nothing
returns-clause-nothing g c =
    let told = g.C.Client.told c.args.client.now in
    nothing_then told (nothing_then told c.add.ensures.nothing c.add-2.ensures.nothing) c.add-3.ensures.nothing

pub returns-clause-counts : goal.returns-clause-counts
returns-clause-counts g c =
    let told = g.C.Client.told c.args.client.now in
    let left = left_then told (left_by_account _ _ told c.account.result c.account.ensures c.in_ok-add.ensures.adds) (left_by_account _ _ (g.C.Client.told c.add.new.client) c.account-2.result c.account-2.ensures c.in_ok-add-2.ensures.adds) in
    let small : c.args.turn % 8 < 8 = omega (arith) in
    if_ok c.add-3.result c.add-3.ensures.adds (λ x w. counted_by c.args.number (c.args.turn % 8) told c.counter.result left c.counter.ensures small w)
