use Rattle.laws_orders.proofs.WrongTurns.{lost_is_out_of_order, lost_is_sound}
use Rattle.laws_orders.proofs.worked.lost_updates_are_not_in_order.Goals as goal

pub returns-clause-sound : goal.returns-clause-sound
returns-clause-sound c = lost_is_sound

pub returns-clause-not : goal.returns-clause-not
returns-clause-not c = lost_is_out_of_order
