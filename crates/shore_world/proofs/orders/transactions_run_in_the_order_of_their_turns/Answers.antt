use Rattle.shore_world.proofs.TurnLemmas.{committed_in_turns, dumps_shown, shown_in_turns}
use Rattle.shore_world.proofs.orders.transactions_run_in_the_order_of_their_turns.Goals as goal

pub returns-clause-sound : goal.returns-clause-sound
returns-clause-sound c d w o es ws k = k.in_order.sound

pub returns-clause-order : goal.returns-clause-order
returns-clause-order c d w o es ws k = k.in_order

pub returns-clause-committed : goal.returns-clause-committed
returns-clause-committed c d w o es ws k = committed_in_turns w o es ws k

pub returns-clause-shown : goal.returns-clause-shown
returns-clause-shown c d w o es ws k = (shown_in_turns w o es ws k, dumps_shown w o es ws k)
