use Rattle.std.proofs.Common.{◌≡◌, Option, Some, None, IsSomeAnd, is_some, false, refl, sym, subst, ◌∙◌}
use Rattle.slab.specs.Slab.{get}
use Rattle.shore_pool.specs.declared.frame.Frame.{Frame}
use Rattle.shore_pool.proofs.Indexes.{frame_of_key}
use Rattle.shore_pool.proofs.frames.Frames.clean_at.Goals as goal

none_of : {A : Type 0} (o : Option A) → is_some o ≡ false → o ≡ None
none_of None is = refl
none_of (Some x) is = cc

pub returns-clause-clean : goal.returns-clause-clean
returns-clause-clean c =
    let old = c.args.self.now in
    let f = c.in_ok-frame.frame.now in
    let there : get old.slots c.args.key ≡ Some f = sym c.in_ok-frame.ensures in
    subst (λ (o : Option Frame). IsSomeAnd o (λ g. g.recovery ≡ None)) (sym (frame_of_key old.slots old.table.items old.indexed c.args.key f there)) (none_of f.recovery (sym c.is_some.ensures ∙ c.if-is_some.false))
