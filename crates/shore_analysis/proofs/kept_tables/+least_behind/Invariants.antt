use Rattle.std.specs.Prelude.{length}
use Rattle.shore_analysis.proofs.kept_tables.+least_behind.Given as goal

abbrev pub decreases-least_behind : goal.decreases-least_behind
decreases-least_behind l = length l.dirty.now
