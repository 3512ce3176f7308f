use Rattle.std.proofs.Math.Logic.{∥∥₁_map}
use Rattle.shore_shared.proofs.LegsOfThreads.{led}
use Rattle.shore_shared.proofs.promises.threads_are_legs.Goals as goal

pub returns : goal.returns
returns c d old w cut kept asked stepped geometry long ended opening found entries up =
    ∥∥₁_map (ended opening found entries up) (led old w cut kept asked stepped geometry long up)
