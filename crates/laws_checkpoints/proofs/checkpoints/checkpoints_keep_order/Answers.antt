use Rattle.laws_checkpoints.proofs.Orders.{order_first, orders_kept, store_moves}
use Rattle.laws_checkpoints.proofs.checkpoints.checkpoints_keep_order.Goals as goal

pub returns-clause-first : goal.returns-clause-first
returns-clause-first c = order_first

pub returns-clause-kept : goal.returns-clause-kept
returns-clause-kept c s events last k h = orders_kept s events last k h

pub returns-clause-moves : goal.returns-clause-moves
returns-clause-moves c s e new k h = store_moves s e new k h
