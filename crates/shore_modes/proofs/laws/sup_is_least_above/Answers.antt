use Rattle.shore_modes.proofs.ModeTables.{sup_least}
use Rattle.shore_modes.proofs.laws.sup_is_least_above.Goals as goal

pub returns : goal.returns
returns c = sup_least
