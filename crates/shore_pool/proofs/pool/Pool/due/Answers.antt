use Rattle.std.proofs.Common.{◌+◌, ℕ, List, sym, subst, arith}
use Rattle.shore_pool.specs.Batches.{IsChosen}
use Rattle.shore_pool.proofs.Choices.{chosen_more, cut_batch}
use Rattle.shore_pool.proofs.pool.Pool.due.Goals as goal

pub loop-preserved : goal.loop-preserved
loop-preserved g c =
    let n = c.in-Some.number in
    subst (λ (pages : List ℕ). IsChosen c.args.self.now c.args.from c.args.durable pages (n + 1) (c.loop.counter + 1)) (sym c.push.ensures.items)
    (chosen_more c.args.self.now c.args.from c.args.durable c.loop.pages.items c.loop.next c.loop.counter n c.loop.invariant c.in-Some.ensures.rises c.in-Some.ensures.due c.in-Some.ensures.least)

pub returns-clause-first : goal.returns-clause-first
returns-clause-first g c = cut_batch c.args.self.now c.args.from c.args.durable c.loop.pages.items c.loop.next c.loop.counter c.loop.invariant (omega (arith, c.loop-test.false, c.loop.auto.counter-end))
