use Rattle.shore_types.specs.Locking.{granules_total}
use Rattle.shore_types.proofs.locking.granules_are_in_order.Goals as goal

pub returns-clause-total : goal.returns-clause-total
returns-clause-total c = granules_total
