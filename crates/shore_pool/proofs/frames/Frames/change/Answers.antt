use Rattle.std.proofs.Common.{sym, ap, ◌∙◌}
use Rattle.shore_pool.specs.declared.frame.Frame.{Frame}
use Rattle.shore_pool.proofs.Contents.{content_changes}
use Rattle.shore_pool.proofs.frames.Frames.change.Goals as goal

pub invariant_of-self-clause-indexed : goal.invariant_of-self-clause-indexed
invariant_of-self-clause-indexed c =
    let old = c.args.self.now in
    (content_changes old.slots old.table.items old.limit c.args.number c.in-Some.key c.in-Some-get_mut.frame.now c.change.new.self old.indexed old.within (sym c.key.ensures.key ∙ c.in-Some.is)
    c.in-Some.ensures.within (sym c.in-Some-get_mut.ensures.value) (ap (λ (f : Frame). f.number) c.change.ensures)).indexed

pub invariant_of-self-clause-within : goal.invariant_of-self-clause-within
invariant_of-self-clause-within c =
    let old = c.args.self.now in
    (content_changes old.slots old.table.items old.limit c.args.number c.in-Some.key c.in-Some-get_mut.frame.now c.change.new.self old.indexed old.within (sym c.key.ensures.key ∙ c.in-Some.is)
    c.in-Some.ensures.within (sym c.in-Some-get_mut.ensures.value) (ap (λ (f : Frame). f.number) c.change.ensures)).within

pub returns-in-Some-get_mut-clause-others : goal.returns-in-Some-get_mut-clause-others
returns-in-Some-get_mut-clause-others c =
    let old = c.args.self.now in
    (content_changes old.slots old.table.items old.limit c.args.number c.in-Some.key c.in-Some-get_mut.frame.now c.change.new.self old.indexed old.within (sym c.key.ensures.key ∙ c.in-Some.is)
    c.in-Some.ensures.within (sym c.in-Some-get_mut.ensures.value) (ap (λ (f : Frame). f.number) c.change.ensures)).others
