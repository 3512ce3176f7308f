use Rattle.shore_heap.proofs.Showing.{shows_same}
use Rattle.shore_heap.proofs.laws.pages_of_the_volume_decide.Goals as goal

pub returns : goal.returns
returns g c K = shows_same c.args.heap.now K
