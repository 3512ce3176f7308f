use Rattle.std.specs.Prelude.{length}
use Rattle.shore_analysis.proofs.kept_meaning.+rise_above_number.Given as goal

abbrev pub decreases-rise_above_number : goal.decreases-rise_above_number
decreases-rise_above_number l = length l.entries.now
