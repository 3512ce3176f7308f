use Rattle.std.proofs.Common.{◌≡◌, ◌+◌, IfNone, IfSome, None, Some, refl, sym, ap, subst, ◌∙◌, arith}
use Rattle.shore_pool.specs.FrameMaps.{IsDirtyFirstBelow, IsDirtyPage, NoneDirtyBelow, dirty_entry, frame_at}
use Rattle.shore_pool.proofs.OldestDirty.{first_further, first_of_all, no_further, none_of_all, none_further, page_further}
use Rattle.shore_pool.proofs.frames.Frames.oldest_dirty.Goals as goal
use Rattle.shore_pool.proofs.frames.Frames.oldest_dirty.Goals.{in-Some, in_default}

pub loop-place-preserved : goal.loop-place-preserved
loop-place-preserved c =
    let old = c.args.self.now in
    let place = c.loop-place.place in
    let was = c.loop-place.invariant in
    elim c.match-dirty_in.branch [
      | in-Some w ↦
          let is : Some w.in-Some.entry ≡ dirty_entry (frame_at old place) = sym w.in-Some.is ∙ c.dirty_in.ensures in
          let r = w.earlier.result in
          record {
            some = subst (λ o. IfSome o (IsDirtyPage old)) (sym w.oldest-is) (page_further old place c.loop-place.oldest w.in-Some.entry r is w.earlier.ensures.one was.some);
            least = subst (λ o. IfSome o (IsDirtyFirstBelow old (place + 1))) (sym w.oldest-is) (first_further old place c.loop-place.oldest w.in-Some.entry r is w.earlier.ensures.first w.earlier.ensures.still was.least was.none);
            none = subst (λ o. IfNone o (NoneDirtyBelow old (place + 1))) (sym w.oldest-is) tt;
          }
      | in_default w ↦
          let none : dirty_entry (frame_at old place) ≡ None = sym c.dirty_in.ensures ∙ w.in_default.is in
          record {
            some = subst (λ o. IfSome o (IsDirtyPage old)) (sym w.oldest-is) was.some;
            least = subst (λ o. IfSome o (IsDirtyFirstBelow old (place + 1))) (sym w.oldest-is) (no_further old place c.loop-place.oldest none was.least);
            none = subst (λ o. IfNone o (NoneDirtyBelow old (place + 1))) (sym w.oldest-is) (none_further old place c.loop-place.oldest none was.none);
          }
    ]

pub returns-clause-least : goal.returns-clause-least
returns-clause-least c = first_of_all c.args.self.now c.loop-place.place (omega (arith, c.loop-place-test.false, c.len-place-end.ensures)) c.loop-place.oldest c.loop-place.invariant.least

pub returns-clause-none : goal.returns-clause-none
returns-clause-none c = none_of_all c.args.self.now c.loop-place.place (omega (arith, c.loop-place-test.false, c.len-place-end.ensures)) c.loop-place.oldest c.loop-place.invariant.none
