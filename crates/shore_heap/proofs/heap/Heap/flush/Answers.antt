use Rattle.std.proofs.Common.{refl}
use Rattle.shore_heap.proofs.Fetched.{moment_of}
use Rattle.shore_heap.proofs.Flushed.{flush_kept, flush_wrote}
use Rattle.shore_heap.proofs.heap.Heap.flush.Goals as goal

pub returns-clause-kept : goal.returns-clause-kept
returns-clause-kept g c K front disk S shows =
    let step = c.flush_step.ensures in
    flush_kept c.args.self.now _ c.args.durable c.flush_step.result step.geometry refl step.flushed step.refused K front disk S shows (step.kept front disk shows.holds)

pub returns-clause-wrote : goal.returns-clause-wrote
returns-clause-wrote g c front disk holds = flush_wrote c.args.self.now _ c.args.durable c.flush_step.result front disk (c.flush_step.ensures.kept front disk holds)

pub returns-clause-any_moment : goal.returns-clause-any_moment
returns-clause-any_moment g c front disk holds = moment_of c.args.self.now c.flush_step.new.pool c.args.durable _ front disk (c.flush_step.ensures.any_moment front disk holds)
