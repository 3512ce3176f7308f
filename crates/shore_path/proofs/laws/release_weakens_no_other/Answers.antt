use Rattle.shore_path.proofs.Freeing.{weaker_released}
use Rattle.shore_path.proofs.laws.release_weakens_no_other.Goals as goal

pub returns : goal.returns
returns c = λ rs t. weaker_released t rs
