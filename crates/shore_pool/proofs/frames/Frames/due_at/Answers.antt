use Rattle.std.proofs.Common.{◌≡◌, Option, Some, None, IsSomeAnd, sym, subst, arith, ◌∙◌}
use Rattle.slab.specs.Slab.{get}
use Rattle.shore_pool.specs.declared.frame.Frame.{Frame}
use Rattle.shore_pool.specs.FrameMaps.{IsDue}
use Rattle.shore_pool.proofs.Indexes.{frame_of_key}
use Rattle.shore_pool.proofs.frames.Frames.due_at.Goals as goal

pub returns-clause-due : goal.returns-clause-due
returns-clause-due c =
    let old = c.args.self.now in
    let f = c.in_ok-frame.frame.now in
    let there : get old.slots c.args.key ≡ Some f = sym c.in_ok-frame.ensures in
    let dirty : f.recovery ≡ None → ⊥ = λ none. let clash : Some c.in_ok-recovery.recovery ≡ None = sym c.in_ok-recovery.was ∙ none in cc in
    subst (λ (o : Option Frame). IsSomeAnd o (IsDue c.args.durable)) (sym (frame_of_key old.slots old.table.items old.indexed c.args.key f there)) (dirty, omega (arith, c.if-number-durable.false, c.number-2.view_is, c.durable.view_is, c.number.ensures))

pub returns-clause-there : goal.returns-clause-there
returns-clause-there c =
    let old = c.args.self.now in
    let f = c.in_ok-frame.frame.now in
    let there : get old.slots c.args.key ≡ Some f = sym c.in_ok-frame.ensures in
    subst (λ (o : Option Frame). IsSomeAnd o (λ g. g.recovery ≡ Some c.in_ok-recovery.recovery)) (sym (frame_of_key old.slots old.table.items old.indexed c.args.key f there)) c.in_ok-recovery.was
