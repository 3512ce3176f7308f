use Rattle.shore_path.proofs.Harmonies.{grant_harmony}
use Rattle.shore_path.proofs.laws.grant_keeps_harmony.Goals as goal

pub returns : goal.returns
returns c = grant_harmony
