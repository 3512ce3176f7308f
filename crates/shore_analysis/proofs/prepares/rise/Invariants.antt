use Rattle.shore_analysis.proofs.GranuleLists.{RiseTo}
use Rattle.shore_analysis.proofs.prepares.rise.Given as goal

abbrev pub invariant-loop-index : goal.invariant-loop-index
invariant-loop-index l = RiseTo l.granules l.index
