use Rattle.shore_world.proofs.PreparedLemmas.{lists_what_is_held}
use Rattle.shore_world.proofs.promises.calls.prepares_list_what_is_held.Goals as goal

pub returns : goal.returns
returns c d w new o es ws session n global k one = lists_what_is_held w o es ws k session n global new one
