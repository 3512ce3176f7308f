use Rattle.std.proofs.Common.{◌≡◌, List, ℕ, Option, Some, None, length, ap, ◌∙◌, arith, length-append}
use Rattle.shore_logrec.specs.Reading.{number_at}
use Rattle.shore_logrec.specs.Text.{payload_text, text}
use Rattle.shore_logrec.proofs.TextLengths.{length-text}
use Rattle.shore_log.proofs.TextLemmas.{len_at, rest_is}
use Rattle.shore_log.proofs.texts.text_len.Goals as goal

abbrev option_first : Option (ℕ × List ℕ) → ℕ
option_first None = 0
option_first (Some x) = x.0

pub returns-then-bytes-lt-TEXT_HEAD_BYTES-clause-len : goal.returns-then-bytes-lt-TEXT_HEAD_BYTES-clause-len
returns-then-bytes-lt-TEXT_HEAD_BYTES-clause-len c r rest fits is =
    absurd (omega (arith, ap length is, length-append (text r) rest, length-text r))

pub returns-in-Some-clause-len : goal.returns-in-Some-clause-len
returns-in-Some-clause-len c r rest fits is =
    let there = ap (number_at 4) (rest_is 17 c.args.bytes.now) ∙ len_at r rest c.args.bytes.now fits is in
    let found = rw c.in-Some.is at c.u32_at.ensures in
    let same : c.in-Some.payload ≡ length (payload_text r.payload) = ap (λ (o : Option (ℕ × List ℕ)). option_first o) (found ∙ there) in
    omega (arith, same, length-text r)

pub returns-in-None-clause-len : goal.returns-in-None-clause-len
returns-in-None-clause-len c r rest fits is =
    let there = ap (number_at 4) (rest_is 17 c.args.bytes.now) ∙ len_at r rest c.args.bytes.now fits is in
    let found = rw c.in-None.is at c.u32_at.ensures in
    absurd cc
