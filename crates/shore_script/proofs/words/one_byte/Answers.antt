use Rattle.std.proofs.Common.{ℕ, List, sym, subst, arith}
use Rattle.shore_script.specs.Bytes.{IsPairs}
use Rattle.shore_script.specs.Reading.{Reads}
use Rattle.shore_script.proofs.Starred.{pair_of_one, pair_has_one}
use Rattle.shore_script.proofs.words.one_byte.Goals as goal
use Rattle.shore_script.proofs.words.one_byte.Goals.{in-len1, in_default, in_default-2}

pub returns-after-as_slice-lt1 : goal.returns-after-as_slice-lt1
returns-after-as_slice-lt1 c =
    let pair = c.args.pair.now in
    let bytes : List ℕ = c.as_slice.result.now in
    let found : IsPairs pair c.in-Some.found = subst (Reads (IsPairs pair)) c.in-Some.is c.in_ok-found.ensures in
    let pairs : IsPairs pair bytes = subst (IsPairs pair) (sym c.as_slice.ensures) found in
    elim c.if-as_slice-lt1.branch [
      | in-len1 w ↦ rw w.result-is (pair_of_one pair bytes pairs w.in-len1.len_at_least w.in-len1.len_below)
      | in_default w ↦
          rw w.result-is (λ byte h. let one = pair_has_one pair bytes byte pairs h in let few = w.in_default.len_below in omega (arith, one, few))
      | in_default-2 w ↦
          rw w.result-is (λ byte h. let one = pair_has_one pair bytes byte pairs h in let many = w.in_default.len_at_least in omega (arith, one, many))
    ]
