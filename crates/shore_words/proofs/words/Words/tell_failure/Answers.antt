use Rattle.std.proofs.Common.{arith}
use mathlib.Core.Option.{none}
use Rattle.shore_words.proofs.Keeps.{tells_failure}
use Rattle.shore_words.proofs.words.Words.tell_failure.Goals as goal

pub store-requires : goal.store-requires
store-requires c = (c.requires.0.0, omega (arith, c.requires.0.1), tells_failure _ _ _ _ none (omega arith) c.requires.1)
