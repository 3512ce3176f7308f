use Rattle.laws_room.proofs.LogRooms.{turns_take}
use Rattle.laws_room.proofs.laws.rollbacks_in_turns_have_log_room.Goals as goal

pub returns : goal.returns
returns c = turns_take
