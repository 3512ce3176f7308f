use Rattle.laws_orders.proofs.InPlace.{in_place_is_shown}
use Rattle.laws_orders.proofs.orders.records_in_place_are_left_by_turns.Goals as goal

pub returns : goal.returns
returns c o found es s k all = in_place_is_shown k.sessions.sound k.sessions.agree all
