use Rattle.laws_room.proofs.Rooms.{turns_fit}
use Rattle.laws_room.proofs.laws.rollbacks_in_turns_fit.Goals as goal

pub returns : goal.returns
returns c v = turns_fit v
