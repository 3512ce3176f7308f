use Rattle.std.proofs.Common.{sym, ◌∙◌, arith}
use Rattle.shore_txn.proofs.ChainLemmas.{walked_past, walked_to}
use Rattle.shore_txn.proofs.chains.newest_among.Goals as goal

pub loop-place-preserved : goal.loop-place-preserved
loop-place-preserved c =
    let within = c.loop-place.invariant.0 in
    (omega (arith, within), walked_past c.args.links.now c.loop-place.place c.args.bucket c.loop-place-test.true within c.if-links-place.true ∙ c.loop-place.invariant.1)

pub returns-else-links-place : goal.returns-else-links-place
returns-else-links-place c =
    sym (walked_to c.args.links.now c.loop-place.place c.args.bucket c.loop-place-test.true c.loop-place.invariant.0 c.if-links-place.false) ∙ c.loop-place.invariant.1
