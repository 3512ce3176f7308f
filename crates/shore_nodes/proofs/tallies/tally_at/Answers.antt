use Rattle.std.proofs.Common.{ℕ, map, sym, ◌∙◌}
use Rattle.shore_model.specs.declared.requests.Request.{Request}
use Rattle.shore_nodes.proofs.Tallying.{queue_goes_on}
use Rattle.shore_nodes.proofs.tallies.tally_at.Goals as goal

pub loop-one-preserved-then-is_at : goal.loop-one-preserved-then-is_at
loop-one-preserved-then-is_at c = λ few.
    let before = c.loop-one.invariant few in
    queue_goes_on c.loop-one.tally c.add.new.self c.args.granule.now c.in-Some.field-0-0 c.in-Some.one.now (map (λ (p : ℕ × Request). p.1) c.args.walk) c.loop-one.walk c.advance.new.self before.0 c.add.ensures.holding c.add.ensures.waiting c.add.ensures.converting before.1 before.2 c.in-Some.ensures
    (sym c.is_at.ensures ∙ c.if-is_at.true) few
