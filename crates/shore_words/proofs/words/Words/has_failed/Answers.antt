use Rattle.std.proofs.Common.{arith}
use mathlib.Core.Option.{none}
use Rattle.shore_words.proofs.Keeps.{looks_for_failure}
use Rattle.shore_words.proofs.words.Words.has_failed.Goals as goal

pub load-requires : goal.load-requires
load-requires c = (c.requires.0, omega (arith, c.requires.1), looks_for_failure _ _ _ none)
