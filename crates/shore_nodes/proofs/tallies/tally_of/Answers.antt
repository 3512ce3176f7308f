use Rattle.std.proofs.Common.{[], refl}
use Rattle.shore_nodes.proofs.Tallying.{tally_ends, tally_goes_on}
use Rattle.shore_nodes.proofs.tallies.tally_of.Goals as goal

pub loop-request-init : goal.loop-request-init
loop-request-init c = λ few. ([], c.none-tally.ensures, refl)

pub loop-request-preserved : goal.loop-request-preserved
loop-request-preserved c = λ few.
    let before = c.loop-request.invariant few in
    tally_goes_on c.loop-request.tally c.add.new.self c.in-Some.field-0-0 c.in-Some.request.now c.args.walk c.loop-request.walk c.advance.new.self before.0 c.add.ensures.holding c.add.ensures.waiting c.add.ensures.converting before.1 before.2 c.in-Some.ensures few

pub returns : goal.returns
returns c = λ few. let before = c.loop-request.invariant few in tally_ends c.loop-request.tally c.args.walk c.loop-request.walk before.0 before.1 before.2 c.in_default.ensures.0
