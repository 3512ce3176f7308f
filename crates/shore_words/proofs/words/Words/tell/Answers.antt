use Rattle.std.proofs.Common.{arith}
use mathlib.Core.Option.{none}
use Rattle.shore_words.proofs.Keeps.{tells}
use Rattle.shore_words.proofs.words.Words.tell.Goals as goal

pub store-requires : goal.store-requires
store-requires c = (c.requires.seat.0.0, omega (arith, c.requires.seat.0.1), tells _ _ _ _ none c.requires.seat.1 (omega (arith, c.requires.no_lower)))
