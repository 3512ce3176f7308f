use Rattle.std.proofs.Common.{arith}
use mathlib.Core.Option.{none}
use Rattle.shore_words.proofs.Keeps.{stops}
use Rattle.shore_words.proofs.words.Words.stopping.Goals as goal

pub load-requires : goal.load-requires
load-requires c = (c.requires.0, omega (arith, c.requires.1), stops _ _ _ none)
