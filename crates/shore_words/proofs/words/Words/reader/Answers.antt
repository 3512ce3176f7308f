use Rattle.std.proofs.Common.{arith}
use Rattle.shore_words.proofs.Keeps.{splits}
use Rattle.shore_words.proofs.words.Words.reader.Goals as goal

pub split_seat-requires : goal.split_seat-requires
split_seat-requires c = (c.requires.0, omega (arith, c.requires.1), splits _ _)
