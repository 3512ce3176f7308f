-- Heads are small: each is one of so many.
use Rattle.std.proofs.Common.{◌<◌, ◌≤◌, ◌+◌, ◌-◌, ◌*◌, ◌%◌, ⊎_elim, ℕ, arith}
use Rattle.std.specs.Prelude.{◌/◌, ◌^◌, nat_lt, cond}
use Rattle.std.proofs.Math.Nat.{mul-le-mul_right}
use Rattle.std.proofs.lemmas.Bool.Decides.{Decides-ltb}
use Rattle.shore_types.specs.declared.locking.Granule.{Granule}
use Rattle.shore_nodes.specs.Nodes.{granule_number, list_head, owner_head, queue_head, spread}
use Rattle.shore_nodes.proofs.Members.{either}

high_bits : (n : ℕ) → n % 2 ^ 64 / 2 ^ 32 ≤ 4294967295
high_bits n = omega arith

part_small : (p heads : ℕ) → p ≤ 4294967295 * heads → 0 < heads → p / 2 ^ 32 < heads
part_small p heads most some = omega arith

pub spread_small : (heads n : ℕ) → 0 < heads → spread heads n < heads
spread_small heads n some =
    part_small ((n * 11400714819323198485) % 2 ^ 64 / 2 ^ 32 * heads) heads (mul-le-mul_right heads (high_bits (n * 11400714819323198485))) some

placed_small : (heads n : ℕ) → 65 < heads → cond (nat_lt n 65) n (65 + spread (heads - 65) n) < heads
placed_small heads n some =
    ⊎_elim
    (λ yes. rw yes (let small = (Decides-ltb n 65).0 yes in omega arith))
    (λ no. rw no (let small = spread_small (heads - 65) n (omega (arith, some)) in omega (arith, small, some)))
    (either (nat_lt n 65))

pub queue_small : (g : Granule) (heads : ℕ) → 65 < heads → queue_head heads g < heads
queue_small g heads some = placed_small heads (granule_number g) some

pub list_small : (t heads : ℕ) → 65 < heads → list_head heads t < heads
list_small t heads some = spread_small heads t (omega (arith, some))

pub owner_small : (t : ℕ) (g : Granule) (heads : ℕ) → 65 < heads → owner_head heads t g < heads
owner_small t g heads some = spread_small heads ((granule_number g + (t * 15074714826142052245) % 2 ^ 64) % 2 ^ 64) (omega (arith, some))
