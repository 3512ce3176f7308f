use Rattle.std.proofs.Common.{arith}
use Rattle.shore_words.proofs.Keeps.{hands_on}
use Rattle.shore_words.proofs.words.Words.keeper.Goals as goal

pub split_seat-requires : goal.split_seat-requires
split_seat-requires c = (c.requires.0.0, omega (arith, c.requires.0.1), hands_on _ _ c.requires.1)
