-- What passes a list of checks, and what does not.
use Rattle.std.proofs.Common.{◌≡◌, ◌≢◌, ℕ, ◌≤◌, nat_le, Bool, true, false, List, [], ◌∷◌, ◌++◌, Result, Ok, Err, refl, if◌then◌else◌}
use Rattle.shore_types.specs.declared.faults.Fault.{Fault}
use Rattle.shore_types.specs.declared.faults.Fault.TheVariants.{Device}
use Rattle.std.proofs.lemmas.Bool.{and_parts, and_from, leb-true, le-leb}
use Rattle.shore_gate.specs.Checks.{Check, check, judged, is_within}

-- a check, and what follows it
ok_on : (passes : Bool) (fault : Fault) (one all rest : Result Unit Fault) → (one ≡ Ok tt → all ≡ rest)
    → (if passes then one else Err fault) ≡ Ok tt → (if passes then all else Err fault) ≡ rest
ok_on true fault one all rest later passed = later passed
ok_on false fault one all rest later passed = absurd cc

err_on : (passes : Bool) (fault found : Fault) (one all : Result Unit Fault) → (one ≡ Err found → all ≡ Err found)
    → (if passes then one else Err fault) ≡ Err found → (if passes then all else Err fault) ≡ Err found
err_on true fault found one all later refused = later refused
err_on false fault found one all later refused = refused

parts_on : (passes : Bool) (fault : Fault) (one all rest : Result Unit Fault) → (all ≡ Ok tt → (one ≡ Ok tt) × (rest ≡ Ok tt))
    → (if passes then all else Err fault) ≡ Ok tt → ((if passes then one else Err fault) ≡ Ok tt) × (rest ≡ Ok tt)
parts_on true fault one all rest later passed = later passed
parts_on false fault one all rest later passed = absurd cc

-- the first part is passed
pub judged-append_ok : (first later : List Check) → judged first ≡ Ok tt → judged (first ++ later) ≡ judged later
judged-append_ok [] later passed = refl
judged-append_ok (one ∷ first) later passed = ok_on one.passes one.fault (judged first) (judged (first ++ later)) (judged later) (judged-append_ok first later) passed

-- the first part is not passed
pub judged-append_err : (first later : List Check) (fault : Fault) → judged first ≡ Err fault → judged (first ++ later) ≡ Err fault
judged-append_err [] later fault refused = absurd cc
judged-append_err (one ∷ first) later fault refused = err_on one.passes one.fault fault (judged first) (judged (first ++ later)) (judged-append_err first later fault) refused

-- both parts are passed
pub judged_parts : (first later : List Check) → judged (first ++ later) ≡ Ok tt → (judged first ≡ Ok tt) × (judged later ≡ Ok tt)
judged_parts [] later passed = (refl, passed)
judged_parts (one ∷ first) later passed = parts_on one.passes one.fault (judged first) (judged (first ++ later)) (judged later) (judged_parts first later) passed

-- a check, and those after it
pub check_parts : (passes : Bool) (fault : Fault) (later : List Check) → judged (check passes fault ∷ later) ≡ Ok tt → (passes ≡ true) × (judged later ≡ Ok tt)
check_parts true fault later passed = (refl, passed)
check_parts false fault later passed = absurd cc

-- each of two, and of four, is passed
pub both_pass : (p q : Bool) (a b : Fault) → judged (check p a ∷ check q b ∷ []) ≡ Ok tt → (p ≡ true) × (q ≡ true)
both_pass true true a b passed = (refl, refl)
both_pass true false a b passed = absurd cc
both_pass false q a b passed = absurd cc

pub all_pass : (p q r s : Bool) (a b c d : Fault) → judged (check p a ∷ check q b ∷ check r c ∷ check s d ∷ []) ≡ Ok tt
    → (p ≡ true) × (q ≡ true) × (r ≡ true) × (s ≡ true)
all_pass true true true true a b c d passed = (refl, refl, refl, refl)
all_pass true true true false a b c d passed = absurd cc
all_pass true true false s a b c d passed = absurd cc
all_pass true false r s a b c d passed = absurd cc
all_pass false q r s a b c d passed = absurd cc

-- and each that passes makes them pass
pub pass_both : (p q : Bool) (a b : Fault) → p ≡ true → q ≡ true → judged (check p a ∷ check q b ∷ []) ≡ Ok tt
pass_both p q a b one two = rw (one, two) refl

pub pass_all : (p q r s : Bool) (a b c d : Fault) → p ≡ true → q ≡ true → r ≡ true → s ≡ true → judged (check p a ∷ check q b ∷ check r c ∷ check s d ∷ []) ≡ Ok tt
pass_all p q r s a b c d one two three four = rw (one, two, three, four) refl

-- a number between two
pub within : (least most number : ℕ) → is_within least most number ≡ true → (least ≤ number) × (number ≤ most)
within least most number test =
    let parts = and_parts (nat_le least number) (nat_le number most) test in
    (leb-true least number parts.0, leb-true number most parts.1)

pub is_within-true : (least most number : ℕ) → least ≤ number → number ≤ most → is_within least most number ≡ true
is_within-true least most number low high = and_from (nat_le least number) (nat_le number most) (le-leb least number low) (le-leb number most high)

-- no check of these tells that the device failed
abbrev pub NoDevice : List Check → Type 0
NoDevice [] = Unit {0}
NoDevice (first ∷ later) = (first.fault ≢ Device) × NoDevice later

device_on : (passes : Bool) (fault : Fault) (later : Result Unit Fault) → fault ≢ Device → (later ≡ Err Device → ⊥) → (if passes then later else Err fault) ≡ Err Device → ⊥
device_on true fault later other rest told = rest told
device_on false fault later other rest told = other cc

pub judged_device : (checks : List Check) → NoDevice checks → judged checks ≡ Err Device → ⊥
judged_device [] none told = absurd cc
judged_device (first ∷ later) none told = device_on first.passes first.fault (judged later) none.0 (judged_device later none.1) told

pub NoDevice-append : (first later : List Check) → NoDevice first → NoDevice later → NoDevice (first ++ later)
NoDevice-append [] later one two = two
NoDevice-append (check ∷ first) later one two = (one.0, NoDevice-append first later one.1 two)
