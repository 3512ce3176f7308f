use Rattle.std.proofs.Common.{arith}
use mathlib.Core.Option.{none}
use Rattle.shore_words.proofs.Keeps.{asks}
use Rattle.shore_words.proofs.words.Words.ask_stop.Goals as goal

pub store-requires : goal.store-requires
store-requires c = (c.requires.0, omega (arith, c.requires.1), asks _ _ _ _ none (omega arith))
