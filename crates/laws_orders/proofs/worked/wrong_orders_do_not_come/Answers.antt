use Rattle.laws_orders.proofs.WrongTurns.{late_is_out_of_order, over_leaves_other, soon_is_out_of_order, undone_is_out_of_order}
use Rattle.laws_orders.proofs.worked.wrong_orders_do_not_come.Goals as goal

pub returns-clause-too_soon : goal.returns-clause-too_soon
returns-clause-too_soon c = soon_is_out_of_order

pub returns-clause-too_late : goal.returns-clause-too_late
returns-clause-too_late c = late_is_out_of_order

pub returns-clause-undone : goal.returns-clause-undone
returns-clause-undone c = undone_is_out_of_order

pub returns-clause-written_over : goal.returns-clause-written_over
returns-clause-written_over c = over_leaves_other
