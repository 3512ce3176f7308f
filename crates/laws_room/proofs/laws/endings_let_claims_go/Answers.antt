use Rattle.laws_room.proofs.Leaving.{left_keeps, left_slots}
use Rattle.laws_room.proofs.laws.endings_let_claims_go.Goals as goal

pub returns : goal.returns
returns c v R undos counts a k m = (left_keeps v R undos counts k a m, left_slots v R undos counts k a m)
