use Rattle.std.proofs.Common.{take, refl, sym, ◌∙◌, ap}
use Rattle.shore_heap.specs.Heaps as heaps
use Rattle.shore_world.specs.Worlds.{cut_in}
use Rattle.shore_world.proofs.LogParts.{gone_long, in_at}
use Rattle.shore_world.proofs.UnchangedLemmas.{unchanged_of}
use Rattle.shore_world.proofs.WorldLemmas.{handed, none_staged}
use Rattle.shore_world.proofs.world.World.hand_over.Goals as goal

pub returns-clause-unchanged : goal.returns-clause-unchanged
returns-clause-unchanged g c =
    let old = c.args.self.now in
    let none = none_staged old.log c.is_staged.result c.is_staged.ensures c.if-is_staged.false in
    let running = sym c.has_failed.ensures ∙ c.if-has_failed.false in
    let h = c.hand_over.ensures in
    let moves = handed old _ running h.still.0 h.list h.still.2 h.anchors none h.still.1 h.settled in
    unchanged_of old _ h.still.0 (ap heaps.pool_of h.heap) h.list h.durable h.running h.still.1 h.anchors refl refl moves.kept
    (λ front disk s is. in_at c.hand_over.new.log c.hand_over.new.self (cut_in old) h.cut front disk s (h.state front disk (take (cut_in old) s.log) s (gone_long old s is.beside) is)) h.over
