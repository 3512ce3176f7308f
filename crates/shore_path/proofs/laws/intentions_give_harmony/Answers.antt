use Rattle.shore_path.proofs.Harmonies.{harmony_of}
use Rattle.shore_path.proofs.laws.intentions_give_harmony.Goals as goal

pub returns : goal.returns
returns c = harmony_of
