use Rattle.std.specs.Prelude.{length}
use Rattle.shore_analysis.proofs.kept_tables.+surely_on.Given as goal

abbrev pub decreases-surely_on : goal.decreases-surely_on
decreases-surely_on l = length l.dirty.now
