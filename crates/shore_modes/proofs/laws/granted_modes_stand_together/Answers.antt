use Rattle.shore_modes.proofs.ModeTables.{grants-coexist}
use Rattle.shore_modes.proofs.laws.granted_modes_stand_together.Goals as goal

pub returns : goal.returns
returns c = grants-coexist
