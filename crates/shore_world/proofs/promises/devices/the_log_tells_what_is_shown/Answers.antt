use Rattle.shore_world.proofs.PromiseLemmas.{told_is_shown}
use Rattle.shore_world.proofs.promises.devices.the_log_tells_what_is_shown.Goals as goal

pub returns : goal.returns
returns c d w o es ws k = told_is_shown w o es ws k
