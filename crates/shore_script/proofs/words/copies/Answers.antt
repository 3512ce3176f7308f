use Rattle.std.proofs.Common.{inl, inr, arith}
use Rattle.shore_script.proofs.Starred.{count_is_read_once}
use Rattle.shore_script.proofs.words.copies.Goals as goal

pub returns-then-count-eq0 : goal.returns-then-count-eq0
returns-then-count-eq0 c = λ bytes h.
    let least = h.4 in
    let most = h.5 in
    let same = count_is_read_once c.args.count.now c.in-Some-Some.count h.1 c.in-Some-Some.ensures h.3 most in
    elim c.then-count-eq0.either [ inl zero ↦ omega (arith, least, same, zero) | inr high ↦ let top = high.1 in omega (arith, most, same, top) ]
