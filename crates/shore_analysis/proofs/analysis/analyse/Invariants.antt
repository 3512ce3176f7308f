use Rattle.std.specs.Prelude.{take}
use Rattle.shore_analysis.specs.Meant.{AreMeant}
use Rattle.shore_analysis.specs.Passes.{Knows}
use Rattle.shore_analysis.proofs.analysis.analyse.Given as goal

abbrev pub invariant-loop-index : goal.invariant-loop-index
invariant-loop-index l = Knows (take l.index l.records) l.pass × AreMeant l.geometry (take l.index l.records)
