use Rattle.laws_orders.proofs.Stays.{stays_in_order}
use Rattle.laws_orders.proofs.orders.stays_are_in_order.Goals as goal

pub returns : goal.returns
returns c g ring_bytes o a b rs last pages last_pages stays may opening h = stays_in_order g ring_bytes o a rs pages may opening stays b last last_pages h
