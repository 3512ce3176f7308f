use Rattle.slow_histories.proofs.Beginnings.{begins}
use Rattle.slow_histories.proofs.decisions.is_beginning.Goals as goal

pub returns : goal.returns
returns c = begins c.args.made.now c.args.kept.now c.starts_with.result c.starts_with.ensures.value
