use Rattle.std.specs.Prelude.{take}
use Rattle.shore_analysis.specs.KeptPasses.{AreMeantUpTo, KnowsAwaited, KnowsKept}
use Rattle.shore_analysis.proofs.kept_analysis.judge.Given as goal

abbrev pub invariant-loop-index : goal.invariant-loop-index
invariant-loop-index l = KnowsKept l.geometry l.cut (take l.index l.kept) l.pass × AreMeantUpTo l.geometry l.cut l.kept l.index × KnowsAwaited l.cut l.kept l.index l.pass
