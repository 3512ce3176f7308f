use Rattle.std.proofs.Common.{take}
use Rattle.std.specs.Io.KnownBytes.{Appends}
use Rattle.shore_script.specs.Texts.{record_lines}
use Rattle.shore_script.proofs.render.records.Given as goal

abbrev pub invariant-loop-index : goal.invariant-loop-index
invariant-loop-index g l = Appends (g.W.Write.contents l.initial.out) (g.W.Write.contents l.out) (record_lines (take l.index l.pairs))
