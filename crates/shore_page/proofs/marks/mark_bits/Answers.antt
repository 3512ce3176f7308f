use Rattle.std.proofs.Common.{◌≡◌, ◌+◌, ◌-◌, ◌*◌, ◌/◌, ◌%◌, max, min, ℕ, get_or, refl, sym, ap, subst, ◌∙◌, arith}
use Rattle.std.specs.Int.{bit_at}
use Rattle.shore_page.specs.Reading.{MarksBits, mark_at}
use Rattle.shore_page.proofs.MarkLemmas.{word_marks, marks_then, marks_start}
use Rattle.shore_page.proofs.marks.mark_bits.Goals as goal

pub loop-word-init : goal.loop-word-init
loop-word-init c =
    let start : c.args.from ≡ min c.args.to (max c.args.from (64 * (c.args.from / 64))) = omega (arith, c.requires.order) in
    subst (λ (k : ℕ). MarksBits c.args.words.now c.args.words.now c.args.from k) start (marks_start c.args.words.now c.args.from)

pub overflow_add-start : goal.overflow_add-start
overflow_add-start c = omega (arith, c.requires.small, c.loop-word-test.true)

pub returns-then-not-mark_word-clause-taken : goal.returns-then-not-mark_word-clause-taken
returns-then-not-mark_word-clause-taken c _ =
    let word = c.loop-word.word in
    let found = c.if-not-mark_word.ensures.taken refl in
    let position = 64 * word + found.0 in
    let of_word : position / 64 ≡ word = omega (arith, found.2, c.min.ensures) in
    let of_bit : position % 64 ≡ found.0 = omega (arith, found.2, c.min.ensures) in
    let here : mark_at c.loop-word.words position ≡ 1 =
    ap (λ (k : ℕ). bit_at (get_or c.loop-word.words k 0) (position % 64)) of_word ∙ ap (λ (k : ℕ). bit_at (get_or c.loop-word.words word 0) k) of_bit ∙ found.3 in
    (position, omega (arith, found.1, c.max.ensures), omega (arith, found.2, c.min.ensures), sym (c.loop-word.invariant.above position (omega (arith, found.1, c.max.ensures))) ∙ here)

pub loop-word-preserved : goal.loop-word-preserved
loop-word-preserved c =
    let word = c.loop-word.word in
    let low = c.max.result - 64 * word in
    let high = c.min.result - 64 * word in
    let done = c.if-not-mark_word.ensures in
    let from_is : 64 * word + low ≡ min c.args.to (max c.args.from (64 * word)) = omega (arith, c.max.ensures, c.loop-word.auto.word, c.loop-word-test.true, c.requires.order) in
    let to_is : 64 * word + high ≡ min c.args.to (max c.args.from (64 * (word + 1))) = omega (arith, c.min.ensures, c.loop-word.auto.word, c.loop-word-test.true, c.requires.order) in
    let step = word_marks c.loop-word.words c.mark_word.new.words word low high (omega arith) (omega arith) (omega arith) (done.marked refl) (done.free refl) in
    marks_then c.args.words.now c.loop-word.words c.mark_word.new.words c.args.from (min c.args.to (max c.args.from (64 * word))) (min c.args.to (max c.args.from (64 * (word + 1)))) c.loop-word.invariant
    (subst (λ (k : ℕ). MarksBits c.loop-word.words c.mark_word.new.words (min c.args.to (max c.args.from (64 * word))) k) to_is
    (subst (λ (k : ℕ). MarksBits c.loop-word.words c.mark_word.new.words k (64 * word + high)) from_is step)) (omega (arith, c.requires.order)) (omega arith)

pub returns-clause-free : goal.returns-clause-free
returns-clause-free c _ =
    let end : min c.args.to (max c.args.from (64 * c.loop-word.word)) ≡ c.args.to = omega (arith, c.loop-word-test.false, c.requires.order) in
    subst (λ (k : ℕ). MarksBits c.args.words.now c.loop-word.words c.args.from k) end c.loop-word.invariant
