use Rattle.std.proofs.Common.{ap, arith, rules}
use mathlib.Core.Option.{none}
use Rattle.shore_words.proofs.Keeps.{looks, claims}
use Rattle.shore_words.proofs.words.Words.compare.Goals as goal

pub join_seat-requires : goal.join_seat-requires
join_seat-requires c = (search rules, c.reader-claim.ensures.new.0.0, ap (λ x. x.1) c.reader-claim.ensures.new.1, omega (arith, c.requires.seat.1), claims _ _ _ _ (ap (λ x. x.0.asked) c.reader-claim.ensures.new.1))

pub load-requires : goal.load-requires
load-requires c = (search rules, omega (arith, c.requires.seat.1), looks _ _ _ none)
