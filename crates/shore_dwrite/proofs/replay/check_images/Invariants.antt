use Rattle.shore_dwrite.proofs.ImageLemmas.{AreFirst}
use Rattle.shore_dwrite.proofs.replay.check_images.Given as goal

abbrev pub invariant-loop-i : goal.invariant-loop-i
invariant-loop-i l = AreFirst l.geometry l.numbers l.bytes l.i
