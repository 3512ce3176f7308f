use Rattle.shore_path.proofs.DoneAlike.{done_alike}
use Rattle.shore_path.proofs.laws.done_without_waiting.Goals as goal

pub returns : goal.returns
returns c = done_alike
