use Rattle.std.proofs.Common.{arith}
use Rattle.shore_words.proofs.Keeps.{opens}
use Rattle.shore_words.proofs.words.Words.new.Goals as goal

pub of_words-requires : goal.of_words-requires
of_words-requires c = opens _ _ _ _ (omega arith)
