-- The checks of a label's stores.
use Rattle.std.proofs.Common.{◌≡◌, ℕ, ◌+◌, ◌<◌, ◌≤◌, true, ◌&&◌, nat_le, List, [], ◌∷◌, length, drop, get_or, sum, All, Ok, refl, arith}
use Rattle.std.proofs.lemmas.List.{drop_more}
use Rattle.std.proofs.lemmas.List.Elements.{All-nil, All-cons, All-head, All-tail}
use Rattle.std.proofs.lemmas.Bool.{and_parts, and_from, leb-true, le-leb}
use Rattle.shore_types.specs.declared.faults.Device.{Device}
use Rattle.shore_types.specs.declared.faults.Fault.TheVariants.{Damaged}
use Rattle.shore_gate.specs.Checks.{judged}
use Rattle.shore_gate.specs.Label.{store_checks}
use Rattle.shore_gate.proofs.CheckLemmas.{check_parts}
use Rattle.shore_gate.proofs.NumberLemmas.{sum-cons}

-- a store that is passed
pub store_passes : (device : Device) (offset before : ℕ) (stores : List ℕ) (i pages : ℕ) → i < length stores → pages ≡ get_or stores i 0 → 1 ≤ pages → before + pages ≤ 65536
    → judged (store_checks device offset before (drop i stores)) ≡ judged (store_checks device (offset + 4) (before + pages) (drop (i + 1) stores))
store_passes device offset before stores i pages inside here some most =
    let test : (nat_le 1 pages && nat_le (before + pages) 65536) ≡ true = and_from _ _ (le-leb 1 pages some) (le-leb (before + pages) 65536 most) in
    rw (drop_more stores i 0 inside, ← here, test) refl

-- stores that pass are in their limits
pub stores_limits : (device : Device) (offset before : ℕ) (stores : List ℕ) → before ≤ 65536 → judged (store_checks device offset before stores) ≡ Ok tt
    → All (λ pages. 1 ≤ pages) stores × (before + sum stores ≤ 65536)
stores_limits device offset before [] few passed = (All-nil (λ pages. 1 ≤ pages), omega arith)
stores_limits device offset before (pages ∷ stores) few passed =
    let parts = check_parts (nat_le 1 pages && nat_le (before + pages) 65536) (Damaged device offset) (store_checks device (offset + 4) (before + pages) stores) passed in
    let tests = and_parts (nat_le 1 pages) (nat_le (before + pages) 65536) parts.0 in
    let most = leb-true (before + pages) 65536 tests.1 in
    let later = stores_limits device (offset + 4) (before + pages) stores most parts.1 in
    (All-cons (λ pages. 1 ≤ pages) pages stores (leb-true 1 pages tests.0) later.0, omega (arith, later.1, sum-cons pages stores))

-- and stores in their limits pass
pub limits_stores : (device : Device) (offset before : ℕ) (stores : List ℕ) → All (λ pages. 1 ≤ pages) stores → before + sum stores ≤ 65536 → judged (store_checks device offset before stores) ≡ Ok tt
limits_stores device offset before [] some most = refl
limits_stores device offset before (pages ∷ stores) some most =
    let total = sum-cons pages stores in
    let few : before + pages ≤ 65536 = omega arith in
    let test : (nat_le 1 pages && nat_le (before + pages) 65536) ≡ true = and_from _ _ (le-leb 1 pages (All-head (λ pages. 1 ≤ pages) pages stores some)) (le-leb (before + pages) 65536 few) in
    rw test (limits_stores device (offset + 4) (before + pages) stores (All-tail (λ pages. 1 ≤ pages) pages stores some) (omega arith))
