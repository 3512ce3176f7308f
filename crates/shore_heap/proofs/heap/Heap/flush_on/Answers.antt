use Rattle.std.proofs.Common.{refl}
use Rattle.shore_heap.proofs.Fetched.{moment_of}
use Rattle.shore_heap.proofs.Flushed.{settles_kept, settles_wrote}
use Rattle.shore_heap.proofs.heap.Heap.flush_on.Goals as goal

pub returns-clause-kept : goal.returns-clause-kept
returns-clause-kept g c K front disk S shows =
    let step = c.flush_on.ensures in
    settles_kept c.args.self.now _ c.args.durable c.flush_on.result step.geometry refl step.frames K front disk S shows (step.kept front disk shows.holds)

pub returns-clause-wrote : goal.returns-clause-wrote
returns-clause-wrote g c front disk holds = settles_wrote c.args.self.now _ c.args.durable c.flush_on.result front disk (c.flush_on.ensures.kept front disk holds)

pub returns-clause-any_moment : goal.returns-clause-any_moment
returns-clause-any_moment g c front disk holds = moment_of c.args.self.now c.flush_on.new.pool c.args.durable _ front disk (c.flush_on.ensures.any_moment front disk holds)
