use Rattle.std.proofs.Common.{◌≡◌, ◌-◌, ◌^◌, ℕ, sym, ap, ◌∙◌, bit_and, get_or, arith}
use Rattle.std.proofs.lemmas.Nat.{and_le_l}
use Rattle.shore_page.proofs.MarkLemmas.{word_free, word_taken}
use Rattle.shore_page.proofs.marks.mark_word.Goals as goal

pub returns-then-words-word-ne0-clause-taken : goal.returns-then-words-word-ne0-clause-taken
returns-then-words-word-ne0-clause-taken c _ =
    let w = get_or c.args.words.now c.args.word 0 in
    let same : bit_and w c.bits-mask.result ≡ bit_and w (2 ^ c.args.to - 2 ^ c.args.from) = ap (λ (m : ℕ). bit_and w m) c.bits-mask.ensures in
    word_taken w c.args.from c.args.to (omega arith) (omega (arith, and_le_l w (2 ^ c.args.to - 2 ^ c.args.from), c.type_inv.words c.args.word))

pub returns-clause-free : goal.returns-clause-free
returns-clause-free c _ =
    let w = get_or c.args.words.now c.args.word 0 in
    let same : bit_and w c.bits-mask.result ≡ bit_and w (2 ^ c.args.to - 2 ^ c.args.from) = ap (λ (m : ℕ). bit_and w m) c.bits-mask.ensures in
    word_free w c.args.from c.args.to (sym same ∙ c.if-words-word-ne0.false)
