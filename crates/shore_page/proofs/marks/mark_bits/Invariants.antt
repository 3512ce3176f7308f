use Rattle.std.proofs.Common.{◌*◌, max, min}
use Rattle.shore_page.specs.Reading.{MarksBits}
use Rattle.shore_page.proofs.marks.mark_bits.Given as goal

abbrev pub invariant-loop-word : goal.invariant-loop-word
invariant-loop-word l = MarksBits l.initial.words l.words l.from (min l.to (max l.from (64 * l.word)))
