use Rattle.laws_orders.proofs.OneByOne.{order_is_sound}
use Rattle.laws_orders.proofs.serial.histories_in_order_are_sound.Goals as goal

pub returns : goal.returns
returns c = order_is_sound
