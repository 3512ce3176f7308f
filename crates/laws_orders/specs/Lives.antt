-- Lives in which the order of turns is a serial order.
use Rattle.std.specs.Prelude.{List, [], ◌∷◌}
use Rattle.shore_model.specs.declared.histories.Opening.{Opening}
use Rattle.shore_model.specs.Lives.{Span, history_of, next_opening}
use Rattle.laws_orders.specs.InTurns.{IsInOrder}

-- in each manager's history, each from what the one before it has left
abbrev pub AreInOrder : Opening → List Span → Type 0
AreInOrder o [] = Unit {0}
AreInOrder o (s ∷ ss) = IsInOrder (history_of o s) × AreInOrder (next_opening o s) ss
