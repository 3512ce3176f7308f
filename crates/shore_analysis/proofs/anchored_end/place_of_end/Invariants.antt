use Rattle.std.proofs.Common.{◌≡◌, None, take}
use Rattle.laws_checkpoints.specs.Checkpoints.{end_among}
use Rattle.shore_analysis.proofs.anchored_end.place_of_end.Given as goal

abbrev pub invariant-loop-index : goal.invariant-loop-index
invariant-loop-index l = end_among l.checkpoint (take l.index l.kept) ≡ None
