use Rattle.laws_orders.proofs.Moves.{manager_event_in_order, moves_in_order, opens_in_order}
use Rattle.laws_orders.proofs.Steps.{event_in_order}
use Rattle.laws_orders.proofs.orders.managers_keep_the_order_of_turns.Goals as goal

pub returns-clause-open : goal.returns-clause-open
returns-clause-open c = opens_in_order

pub returns-clause-sessions : goal.returns-clause-sessions
returns-clause-sessions c = event_in_order

pub returns-clause-event : goal.returns-clause-event
returns-clause-event c g o found es old new e k moves ordered = manager_event_in_order g o found es old new e k moves ordered

pub returns-clause-moves : goal.returns-clause-moves
returns-clause-moves c g ring_bytes o found es m last moves made k h ordered = moves_in_order g ring_bytes o found es m k moves last made h ordered
