use Rattle.std.proofs.Common.{◌≡◌, ℕ, subst}
use Rattle.shore_page.specs.Reading.{marks_of, Marks}
use Rattle.shore_page.proofs.MarkLemmas.{marks_bits, no_marks, bit_taken}
use Rattle.shore_page.proofs.marks.mark.Goals as goal

pub returns-then-from-to-clause-free : goal.returns-then-from-to-clause-free
returns-then-from-to-clause-free c _ count within =
    let same : c.args.from ≡ c.args.to = c.if-from-to.true in
    subst (λ (k : ℕ). Marks (marks_of c.args.words.now count) (marks_of c.args.words.now count) c.args.from k) same (no_marks c.args.words.now c.args.from count)

pub returns-else-from-to-clause-free : goal.returns-else-from-to-clause-free
returns-else-from-to-clause-free c done count within = marks_bits c.args.words.now c.mark_bits.new.words c.args.from c.args.to count c.requires.order within (c.mark_bits.ensures.free done)

pub returns-else-from-to-clause-taken : goal.returns-else-from-to-clause-taken
returns-else-from-to-clause-taken c failed count within = bit_taken c.args.words.now c.args.from c.args.to count within (c.mark_bits.ensures.taken failed)
