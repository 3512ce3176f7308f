use Rattle.laws_room.proofs.Tables.{from_open}
use Rattle.laws_room.proofs.laws.undo_is_never_refused.Goals as goal

pub returns : goal.returns
returns c v spare o first last counts c' room r events turns within opened k h by = from_open v spare within o first counts room events last c' r opened k h by turns
