-- Products of a page's size: a page, and the pages before it.
use Rattle.std.proofs.Common.{◌≡◌, ℕ, suc, ◌+◌, ◌-◌, ◌*◌, ◌<◌, ◌≤◌, ◌∙◌, arith}
use Rattle.std.proofs.Math.Nat.{mul-add, mul-le-mul_left, mul-suc}

pub times_next : (p k : ℕ) → p * (k + 1) ≡ p * k + p
times_next p k = omega (arith, mul-add p k 1)

pub times_suc : (p k : ℕ) → p + p * k ≡ p * suc k
times_suc p k = omega (arith, mul-suc p k)

-- a page before another ends there or before
pub times_below : (p j k : ℕ) → j < k → p * j + p ≤ p * k
times_below p j k below =
    let all : p * (j + 1) ≤ p * k = mul-le-mul_left p (omega arith) in
    omega (arith, times_next p j, all)

pub times_none : (p : ℕ) → p * 0 ≡ 0
times_none p = omega arith
