use Rattle.std.specs.Prelude.{length}
use Rattle.shore_analysis.proofs.losers.+next_in_turn.Given as goal

abbrev pub decreases-next_in_turn : goal.decreases-next_in_turn
decreases-next_in_turn l = length l.entries.now
