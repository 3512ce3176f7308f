use Rattle.shore_prog.proofs.ForceLemmas.{all_durable, then_on}
use Rattle.shore_prog.proofs.forcing.force.Goals as goal

pub returns : goal.returns
returns c = then_on c.force_frames.result (all_durable c.force_frames.new.world) c.force_frames.ensures
