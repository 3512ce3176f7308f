use Rattle.laws_room.proofs.Tables.{steps_keep}
use Rattle.laws_room.proofs.laws.steps_keep_room.Goals as goal

pub returns : goal.returns
returns c v spare doubts s steps within k may = steps_keep v spare doubts within s steps k may
