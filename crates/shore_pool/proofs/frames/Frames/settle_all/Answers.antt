use Rattle.std.proofs.Common.{ℕ, List, take, get_or, sym, ap, ◌∙◌}
use Rattle.std.proofs.lemmas.List.{take_more}
use Rattle.shore_pool.specs.Changes.{settled_at}
use Rattle.shore_pool.specs.FrameMaps.{frame_at}
use Rattle.shore_pool.proofs.Settling.{settled_more}
use Rattle.shore_pool.proofs.frames.Frames.settle_all.Goals as goal

pub loop-i-preserved : goal.loop-i-preserved
loop-i-preserved c =
    let at = frame_at c.args.self.now in
    let ns = c.args.numbers.now in
    let i = c.loop-i.i in
    let old = c.loop-i.invariant in
    let shape = c.settle.ensures.shape in (
      λ k. settled_more at (take i ns) (get_or ns i 0) (frame_at c.loop-i.self) (frame_at c.settle.new.self) old.0 c.settle.ensures.here c.settle.ensures.others k ∙ ap (λ (l : List ℕ). settled_at l at k) (sym (take_more ns i 0 c.loop-i-test.true)),
      record { count = shape.count ∙ old.1.count; limit = shape.limit ∙ old.1.limit; pages = shape.pages ∙ old.1.pages },
    )
