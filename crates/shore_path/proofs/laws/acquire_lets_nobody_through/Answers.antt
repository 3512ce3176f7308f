use Rattle.shore_path.proofs.LettingThrough.{acquire_lets_nobody_through}
use Rattle.shore_path.proofs.laws.acquire_lets_nobody_through.Goals as goal

pub returns : goal.returns
returns c = acquire_lets_nobody_through
