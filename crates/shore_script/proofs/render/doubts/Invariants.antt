use Rattle.std.proofs.Common.{take}
use Rattle.std.specs.Io.KnownBytes.{Appends}
use Rattle.shore_script.specs.Texts.{doubt_lines}
use Rattle.shore_script.proofs.render.doubts.Given as goal

abbrev pub invariant-loop-one : goal.invariant-loop-one
invariant-loop-one g l = Appends (g.W.Write.contents l.initial.out) (g.W.Write.contents l.out) (doubt_lines (take l.one-index l.found))
