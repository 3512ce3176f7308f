use Rattle.shore_heap.proofs.Showing.{shows_told}
use Rattle.shore_heap.proofs.laws.claims_count_out_of_frames.Goals as goal

pub returns : goal.returns
returns g c = shows_told c.args.heap.now
