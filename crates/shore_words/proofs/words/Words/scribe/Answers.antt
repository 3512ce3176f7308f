use Rattle.std.proofs.Common.{arith}
use Rattle.shore_words.proofs.Hears.{notes_on}
use Rattle.shore_words.proofs.words.Words.scribe.Goals as goal

pub split_seat-requires : goal.split_seat-requires
split_seat-requires c = (c.requires.0.0, omega (arith, c.requires.0.1), notes_on _ _ c.requires.1)
