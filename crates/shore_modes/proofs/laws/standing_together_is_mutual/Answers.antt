use Rattle.shore_modes.proofs.ModeTables.{coexist-swap}
use Rattle.shore_modes.proofs.laws.standing_together_is_mutual.Goals as goal

pub returns : goal.returns
returns c = coexist-swap
