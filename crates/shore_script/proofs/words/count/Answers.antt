use Rattle.std.proofs.Common.{◌^◌, inl, inr, arith}
use Rattle.shore_script.proofs.Digits.{same_number}
use Rattle.shore_script.proofs.words.count.Goals as goal

pub returns-else-number-ge1 : goal.returns-else-number-ge1
returns-else-number-ge1 c = λ n h.
    let top = h.2 in
    let same = same_number (2 ^ 32) n c.in_ok-number.number c.args.word.now (omega arith) (h.0, omega (arith, top)) c.in_ok-number.ensures in
    elim c.else-number-ge1.either [ inl high ↦ let out = high.1 in omega (arith, same, top, out) | inr low ↦ let least = h.1 in omega (arith, same, least, low) ]
