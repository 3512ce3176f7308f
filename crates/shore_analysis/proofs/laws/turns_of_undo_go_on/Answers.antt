use Rattle.laws_lives.proofs.UndoRecords.{undone_more}
use Rattle.shore_analysis.proofs.InTurn.{in_order_more, in_order_undone}
use Rattle.shore_analysis.proofs.laws.turns_of_undo_go_on.Goals as goal

pub returns-clause-in_order : goal.returns-clause-in_order
returns-clause-in_order c = in_order_more

pub returns-clause-undone : goal.returns-clause-undone
returns-clause-undone c = in_order_undone

pub returns-clause-goes_on : goal.returns-clause-goes_on
returns-clause-goes_on c found turns log t undone loser = undone_more found turns log t undone loser
