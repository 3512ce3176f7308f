use Rattle.std.proofs.Common.{◌≡◌, ◌<◌, ◌≤◌, ◌-◌, ◌*◌, ◌/◌, ◌%◌, ◌^◌, ℕ, ap, ◌∙◌, arith}
use Rattle.std.proofs.lemmas.Nat.Bits.{ones_shr}
use Rattle.std.proofs.Math.Pow.{pow-lt, pow_mono}
use Rattle.shore_page.proofs.marks.bits.Goals as goal

-- the parts of a mask
record Parts (from to : ℕ) : Type 0 where
  high : (2 ^ 64 - 1) / 2 ^ (64 - to) ≡ 2 ^ to - 1
  low : 1 * 2 ^ from % 2 ^ 64 ≡ 2 ^ from
  order : 2 ^ from ≤ 2 ^ to
  some : 1 ≤ 2 ^ from

parts : (from to : ℕ) → from < to → to ≤ 64 → Parts from to
parts from to order within =
    let small : 2 ^ from < 2 ^ 64 = pow-lt {i = from} {j = 64} (omega arith) in
    record {
      high = ones_shr 64 (64 - to) (omega arith) ∙ ap (λ (k : ℕ). 2 ^ k - 1) (back to within);
      low = omega arith;
      order = pow_mono {i = from} {j = to} (omega arith);
      some = pow_mono {i = 0} {j = from} (omega arith);
    }
  where
    back : (to : ℕ) → to ≤ 64 → 64 - (64 - to) ≡ to
    back to within = omega arith

pub overflow_sub-result-3 : goal.overflow_sub-result-3
overflow_sub-result-3 c = let p = parts c.args.from c.args.to c.requires.order c.requires.within in omega (arith, p.high, p.low, p.order, p.some)

pub returns : goal.returns
returns c = let p = parts c.args.from c.args.to c.requires.order c.requires.within in omega (arith, p.high, p.low, p.order, p.some)
