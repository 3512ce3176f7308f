use Rattle.std.proofs.Common.{ap, ◌∙◌, arith}
use mathlib.Core.Option.{none}
use Rattle.shore_words.proofs.Hears.{becomes, gives_own, shows}
use Rattle.shore_words.proofs.words.Words.show.Goals as goal

pub split_seat-own-requires : goal.split_seat-own-requires
split_seat-own-requires c = (c.requires.seat.0, omega (arith, c.requires.seat.1), gives_own _ _)

pub join_seat-requires : goal.join_seat-requires
join_seat-requires c =
    let own = c.split_seat-own.ensures in
    (c.requires.book.0.0, own.3 ∙ c.requires.seat.0, ap (λ x. x.1) own.4, omega (arith, c.requires.book.0.1), becomes _ _ _ _ (ap (λ x. x.0.asked) own.4))

pub load-requires : goal.load-requires
load-requires c = (c.join_seat.ensures.0 ∙ c.requires.book.0.0, omega (arith, c.requires.book.0.1), shows _ _ _ none)
