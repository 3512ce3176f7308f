-- Facts on the tables of modes, each computed at every mode.
use Rattle.std.proofs.Common.{◌≡◌, Bool, true, false, refl}
use Rattle.std.specs.Prelude.{◌&&◌, ◌||◌, not, IsTrue}
use Rattle.shore_types.specs.declared.locking.Mode.{Mode}
use Rattle.shore_types.specs.declared.locking.Mode.TheVariants.{IS, IX, SH, SIX, EX, UD}
use Rattle.shore_model.specs.Modes.{coexist, grants, is_at_most, sup, is_read, is_write, IsLeastAbove}

-- a test at each mode
abbrev at_each : (Mode → Bool) → Bool
at_each p = p IS && (p IX && (p SH && (p SIX && (p EX && p UD))))

first : (a b : Bool) → IsTrue (a && b) → IsTrue a
first true b h = refl
first false b h = h

second : (a b : Bool) → IsTrue (a && b) → IsTrue b
second true b h = h
second false b h = cc

six : (a b c d e f : Bool) → IsTrue (a && (b && (c && (d && (e && f))))) → IsTrue a × IsTrue b × IsTrue c × IsTrue d × IsTrue e × IsTrue f
six a b c d e f h =
    let h1 = second a (b && (c && (d && (e && f)))) h in
    let h2 = second b (c && (d && (e && f))) h1 in
    let h3 = second c (d && (e && f)) h2 in
    let h4 = second d (e && f) h3 in
    (first a (b && (c && (d && (e && f)))) h, first b (c && (d && (e && f))) h1, first c (d && (e && f)) h2, first d (e && f) h3, first e f h4, second e f h4)

-- what a test answers at each mode, it answers at every mode
pub each_mode : (p : Mode → Bool) → IsTrue (at_each p) → (m : Mode) → IsTrue (p m)
each_mode p h IS = (six (p IS) (p IX) (p SH) (p SIX) (p EX) (p UD) h).0
each_mode p h IX = (six (p IS) (p IX) (p SH) (p SIX) (p EX) (p UD) h).1
each_mode p h SH = (six (p IS) (p IX) (p SH) (p SIX) (p EX) (p UD) h).2
each_mode p h SIX = (six (p IS) (p IX) (p SH) (p SIX) (p EX) (p UD) h).3
each_mode p h EX = (six (p IS) (p IX) (p SH) (p SIX) (p EX) (p UD) h).4
each_mode p h UD = (six (p IS) (p IX) (p SH) (p SIX) (p EX) (p UD) h).5

each_two : (t : Mode → Mode → Bool) → IsTrue (at_each (λ a. at_each (t a))) → (a b : Mode) → IsTrue (t a b)
each_two t h a b = each_mode (t a) (each_mode (λ a. at_each (t a)) h a) b

each_three : (t : Mode → Mode → Mode → Bool) → IsTrue (at_each (λ a. at_each (λ b. at_each (t a b)))) → (a b c : Mode) → IsTrue (t a b c)
each_three t h a b c = each_mode (t a b) (each_two (λ a b. at_each (t a b)) h a b) c

implied : (a b : Bool) → IsTrue (not a || b) → IsTrue a → IsTrue b
implied true b h p = h
implied false b h p = cc

refuted : (a b : Bool) → IsTrue (not (a && b)) → IsTrue a → IsTrue b → ⊥
refuted true true h p q = cc
refuted true false h p q = cc
refuted false b h p q = cc

left_test : Mode → Mode → Bool
left_test a b = is_at_most a (sup a b)

right_test : Mode → Mode → Bool
right_test a b = is_at_most b (sup a b)

least_test : Mode → Mode → Mode → Bool
least_test a b m = not (is_at_most a m) || (not (is_at_most b m) || is_at_most (sup a b) m)

left_of : (a b : Mode) → IsTrue (left_test a b)
unfolding left_test
left_of = each_two left_test refl

right_of : (a b : Mode) → IsTrue (right_test a b)
unfolding right_test
right_of = each_two right_test refl

least_of : (a b m : Mode) → IsTrue (least_test a b m)
unfolding least_test
least_of = each_three least_test refl

pub sup_least : (a b : Mode) → IsLeastAbove a b (sup a b)
unfolding left_test right_test least_test
sup_least a b = record {
  left = left_of a b;
  right = right_of a b;
  least = λ m p q. implied (is_at_most b m) (is_at_most (sup a b) m) (implied (is_at_most a m) (not (is_at_most b m) || is_at_most (sup a b) m) (least_of a b m) p) q;
}

write_test : Mode → Mode → Bool
write_test a b = not (is_write a && coexist a b)

write_of : (a b : Mode) → IsTrue (write_test a b)
unfolding write_test
write_of = each_two write_test refl

-- a writer is compatible with nobody
pub writer_alone : (a b : Mode) → IsTrue (is_write a) → IsTrue (coexist a b) → ⊥
unfolding write_test
writer_alone a b = refuted (is_write a) (coexist a b) (write_of a b)

read_test : Mode → Mode → Bool
read_test a b = not (is_at_most IX a) || not (is_read b && coexist a b)

read_of : (a b : Mode) → IsTrue (read_test a b)
unfolding read_test
read_of = each_two read_test refl

-- an intention to write, or more, is compatible with no reader
pub intention_without_readers : (a b : Mode) → IsTrue (is_at_most IX a) → IsTrue (is_read b) → IsTrue (coexist a b) → ⊥
unfolding read_test
intention_without_readers a b p = refuted (is_read b) (coexist a b) (implied (is_at_most IX a) (not (is_read b && coexist a b)) (read_of a b) p)

swap_test : Mode → Mode → Bool
swap_test a b = not (coexist a b) || coexist b a

swap_of : (a b : Mode) → IsTrue (swap_test a b)
unfolding swap_test
swap_of = each_two swap_test refl

pub coexist-swap : (a b : Mode) → IsTrue (coexist a b) → IsTrue (coexist b a)
unfolding swap_test
coexist-swap a b h = implied (coexist a b) (coexist b a) (swap_of a b) h

grant_test : Mode → Mode → Bool
grant_test a b = not (grants a b) || coexist a b

grant_of : (a b : Mode) → IsTrue (grant_test a b)
unfolding grant_test
grant_of = each_two grant_test refl

-- what a held mode grants is compatible with it
pub grants-coexist : (a b : Mode) → IsTrue (grants a b) → IsTrue (coexist a b)
unfolding grant_test
grants-coexist a b h = implied (grants a b) (coexist a b) (grant_of a b) h

pub at_most-refl : (a : Mode) → IsTrue (is_at_most a a)
at_most-refl = each_mode (λ a. is_at_most a a) refl

follow_test : Mode → Mode → Mode → Bool
follow_test a b c = not (is_at_most a b) || (not (is_at_most b c) || is_at_most a c)

follow_of : (a b c : Mode) → IsTrue (follow_test a b c)
unfolding follow_test
follow_of = each_three follow_test refl

pub at_most-trans : (a b c : Mode) → IsTrue (is_at_most a b) → IsTrue (is_at_most b c) → IsTrue (is_at_most a c)
unfolding follow_test
at_most-trans a b c p q =
    implied (is_at_most b c) (is_at_most a c) (implied (is_at_most a b) (not (is_at_most b c) || is_at_most a c) (follow_of a b c) p) q

-- two modes that allow the same are one
pub at_most-antisym : (a b : Mode) → IsTrue (is_at_most a b) → IsTrue (is_at_most b a) → a ≡ b
at_most-antisym IS IS p q = refl
at_most-antisym IX IX p q = refl
at_most-antisym SH SH p q = refl
at_most-antisym SIX SIX p q = refl
at_most-antisym EX EX p q = refl
at_most-antisym UD UD p q = refl
at_most-antisym _ _ p q = cc
