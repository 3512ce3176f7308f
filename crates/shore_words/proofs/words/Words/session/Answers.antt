use Rattle.std.proofs.Common.{arith}
use Rattle.shore_words.proofs.Hears.{begins}
use Rattle.shore_words.proofs.words.Words.session.Goals as goal

pub split_seat-requires : goal.split_seat-requires
split_seat-requires c = (c.requires.0.0, omega (arith, c.requires.0.1), begins _ _ c.requires.1)
