use Rattle.std.specs.Prelude.{length}
use Rattle.shore_analysis.proofs.kept_passes.+await_entries.Given as goal

abbrev pub decreases-await_entries : goal.decreases-await_entries
decreases-await_entries l = length l.entries.now
