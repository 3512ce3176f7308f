use Rattle.std.proofs.Common.{◌≡◌, Option, Some, IsSomeAnd, sym, subst, arith}
use Rattle.slab.specs.Slab.{get}
use Rattle.shore_pool.specs.declared.frame.Frame.{Frame}
use Rattle.shore_pool.proofs.Indexes.{frame_of_key, none_kept}
use Rattle.shore_pool.proofs.frames.Frames.any_number.Goals as goal

pub returns-in-Some-clause-some : goal.returns-in-Some-clause-some
returns-in-Some-clause-some c =
    let old = c.args.self.now in
    let f = c.in-Some.frame.now in
    let there : get old.slots c.loop-key.key ≡ Some f = sym c.in-Some.ensures in
    (f.number, subst (λ (o : Option Frame). IsSomeAnd o (λ g. g.page.number ≡ c.number.result)) (sym (frame_of_key old.slots old.table.items old.indexed c.loop-key.key f there)) (sym c.number.ensures))

pub returns-clause-none : goal.returns-clause-none
returns-clause-none c = none_kept c.args.self.now.slots.slots (λ key inside. c.loop-key.invariant key (omega (arith, inside, c.capacity-key-end.ensures.slots, c.loop-key-test.false)))
