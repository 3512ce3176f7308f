use Rattle.std.proofs.Common.{ap, ◌∙◌, arith}
use mathlib.Core.Option.{none}
use Rattle.shore_words.proofs.Keeps.{compares, looks, takes_anchor}
use Rattle.shore_words.proofs.words.Words.take_anchor.Goals as goal

pub join_seat-requires : goal.join_seat-requires
join_seat-requires c = (c.requires.teller.0.0, c.keeper-right.ensures.new.0.0, ap (λ x. x.1) c.keeper-right.ensures.new.1, omega (arith, c.requires.seat.0.1), takes_anchor _ _ _ _ (ap (λ x. x.0.keeps) c.keeper-right.ensures.new.1) (ap (λ x. x.0.asked) c.keeper-right.ensures.new.1))

pub load-requires : goal.load-requires
load-requires c = (c.join_seat.ensures.0 ∙ c.requires.teller.0.0, omega (arith, c.requires.seat.0.1), looks _ _ _ none)

pub load-requires-2 : goal.load-requires-2
load-requires-2 c = (c.load.ensures.0 ∙ c.join_seat.ensures.0 ∙ c.requires.teller.0.0, omega (arith, c.requires.seat.0.1), compares _ _ _ none)
