use Rattle.shore_world.proofs.PromiseLemmas.{seen}
use Rattle.shore_world.proofs.promises.states_are_seen.Goals as goal

pub returns : goal.returns
returns c d w o es ws k = seen w o es ws k
