use Rattle.laws_room.proofs.Leaving.{begun_keeps, begun_slots, marked_keeps, marked_slots}
use Rattle.laws_room.proofs.laws.begins_and_savepoints_keep_claims.Goals as goal

pub returns-clause-begin : goal.returns-clause-begin
returns-clause-begin c v R undos counts a k empty new = (begun_keeps v R undos counts k a empty new, λ p. begun_slots R undos a empty p (counts p))

pub returns-clause-marks : goal.returns-clause-marks
returns-clause-marks c v R undos counts a undo k m same = (marked_keeps v R undos counts k a m undo same, λ p. marked_slots v R undos counts k a m undo same p (counts p))
