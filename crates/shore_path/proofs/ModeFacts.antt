-- What the tables of modes say of intentions.
use Rattle.std.proofs.Common.{◌≡◌, Bool, true, Option, None, Some, refl}
use Rattle.std.specs.Prelude.{◌&&◌, IsTrue}
use Rattle.shore_types.specs.declared.locking.Mode.{Mode}
use Rattle.shore_types.specs.declared.locking.Mode.TheVariants.{IS, IX, SH, SIX, EX, UD}
use Rattle.shore_model.specs.Modes.{is_at_most, parent_mode, sup}
use Rattle.shore_modes.proofs.ModeTables.{at_most-antisym, at_most-refl, at_most-trans, each_mode, sup_least}
use Rattle.shore_locks.specs.Grants.{wanted_mode, is_enough}

abbrev at_each : (Mode → Bool) → Bool
at_each p = p IS && (p IX && (p SH && (p SIX && (p EX && p UD))))

-- a conversion intends no more than what is held and what is asked do
intends_test : Mode → Mode → Bool
intends_test a b = is_at_most (parent_mode (sup a b)) (sup (parent_mode a) (parent_mode b))

intends_most : (a b : Mode) → IsTrue (intends_test a b)
unfolding intends_test
intends_most a b = each_mode (intends_test a) (each_mode (λ x. at_each (intends_test x)) refl a) b

intends_sup : (a b m : Mode) → IsTrue (is_at_most (parent_mode a) m) → IsTrue (is_at_most (parent_mode b) m) → IsTrue (is_at_most (parent_mode (sup a b)) m)
unfolding intends_test
intends_sup a b m p q =
    at_most-trans (parent_mode (sup a b)) (sup (parent_mode a) (parent_mode b)) m (intends_most a b) ((sup_least (parent_mode a) (parent_mode b)).least m p q)

pub parent_twice : (m : Mode) → parent_mode (parent_mode m) ≡ parent_mode m
parent_twice IS = refl
parent_twice IX = refl
parent_twice SH = refl
parent_twice SIX = refl
parent_twice EX = refl
parent_twice UD = refl

pub enough_trans : (a b : Mode) (held : Option Mode) → IsTrue (is_at_most a b) → is_enough b held ≡ true → is_enough a held ≡ true
enough_trans a b None p e = cc
enough_trans a b (Some h) p e = at_most-trans a b h p e

-- what is held is no more than what is aimed at
pub aim_above : (m : Mode) (held : Option Mode) (mode : Mode) → is_enough m held ≡ true → is_enough m (Some (wanted_mode held mode)) ≡ true
aim_above m None mode e = cc
aim_above m (Some h) mode e = at_most-trans m h (sup h mode) e (sup_least h mode).left

-- one above the parent modes of what is held and of what is asked is above that of what is aimed at
pub aim_intends : (held : Option Mode) (mode : Mode) (above : Option Mode) → ((h : Mode) → held ≡ Some h → is_enough (parent_mode h) above ≡ true) → is_enough (parent_mode mode) above ≡ true
    → is_enough (parent_mode (wanted_mode held mode)) above ≡ true
aim_intends None mode above each e = e
aim_intends (Some h) mode None each e = cc
aim_intends (Some h) mode (Some m) each e = intends_sup h mode m (each h refl) e

pub aim_enough : (held : Option Mode) (mode : Mode) → IsTrue (is_at_most mode (wanted_mode held mode))
aim_enough None mode = at_most-refl mode
aim_enough (Some h) mode = (sup_least h mode).right

pub sup_same : (a b : Mode) → IsTrue (is_at_most b a) → sup a b ≡ a
sup_same a b e = at_most-antisym (sup a b) a ((sup_least a b).least a (at_most-refl a) e) (sup_least a b).left

-- what is asked twice is aimed at once
pub aim_twice : (held : Option Mode) (mode : Mode) → wanted_mode (Some (wanted_mode held mode)) mode ≡ wanted_mode held mode
aim_twice held mode = sup_same (wanted_mode held mode) mode (aim_enough held mode)
