use Rattle.shore_path.proofs.Freeing.{weaker_cancelled}
use Rattle.shore_path.proofs.laws.cancel_weakens_nobody.Goals as goal

pub returns : goal.returns
returns c = λ rs t. weaker_cancelled t rs
