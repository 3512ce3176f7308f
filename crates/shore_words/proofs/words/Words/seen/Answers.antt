use Rattle.std.proofs.Common.{arith}
use mathlib.Core.Option.{none}
use Rattle.shore_words.proofs.Keeps.{looks}
use Rattle.shore_words.proofs.words.Words.seen.Goals as goal

pub load-requires : goal.load-requires
load-requires c = (c.requires.0, omega (arith, c.requires.1), looks _ _ _ none)
