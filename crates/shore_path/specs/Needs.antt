-- What an acquire needs at a granule of its path.
use Rattle.std.specs.Prelude.{◌≡◌, ◌⊎◌, ◌∷◌, [], ℕ, List, Ok, Result, false, true}
use Rattle.shore_types.specs.declared.faults.Fault.{Fault}
use Rattle.shore_types.specs.declared.locking.Granule.{Granule}
use Rattle.shore_types.specs.declared.locking.Mode.{Mode}
use Rattle.shore_types.specs.Locking.{same_granule}
use Rattle.shore_model.specs.declared.requests.Request.{Request}
use Rattle.shore_locks.specs.Grants.{is_enough}
use Rattle.shore_locks.specs.Tables.{Table, mode_held}
use Rattle.shore_path.specs.declared.answers.Acquired.{Acquired}
use Rattle.shore_path.specs.declared.answers.Acquired.TheVariants.{Done}
use Rattle.shore_path.specs.declared.answers.OnConflict.{OnConflict}
use Rattle.shore_path.specs.declared.walk.Need.{Need}
use Rattle.shore_path.specs.declared.walk.Need.TheVariants as need
use Rattle.shore_path.specs.Walks.{after_at, answer_at, asked_of, is_spared}

-- a granule on the way to the target needs nothing and spares the rest, is held in the mode that is asked, or is to be asked for
abbrev pub IsNeeded : ℕ → Granule → Mode → Granule → List Request → Need → Type 0
IsNeeded t target mode g rs need.Nothing = is_spared t target mode g rs ≡ true
IsNeeded t target mode g rs need.Held = (is_spared t target mode g rs ≡ false) × (is_enough (asked_of target mode g) (mode_held t g rs) ≡ true)
IsNeeded t target mode g rs (need.Asking asked) = (is_spared t target mode g rs ≡ false) × (asked ≡ asked_of target mode g)

-- the table after one granule was asked for
abbrev pub asked_at : OnConflict → ℕ → Granule → Mode → Granule → Table → Table
asked_at c t target mode g old = record { limit = old.limit; requests = after_at c old t g (asked_of target mode g) }

-- a walk goes on behind a granule
pub record Passes (c : OnConflict) (t : ℕ) (target : Granule) (mode : Mode) (g : Granule) (old new : Table) : Type 0 where
  pub needed : is_spared t target mode g old.requests ≡ false
  pub done : answer_at c old t g (asked_of target mode g) ≡ Ok Done
  pub left : new ≡ asked_at c t target mode g old

-- it ends there since what is held spares the rest, or as what is asked is not had
abbrev pub EndsAt : OnConflict → ℕ → Granule → Mode → Granule → Table → Table → Result Acquired Fault → Type 0
EndsAt c t target mode g old new answer =
    ((is_spared t target mode g old.requests ≡ true) × (answer ≡ Ok Done) × (new ≡ old))
    ⊎ ((is_spared t target mode g old.requests ≡ false) × (answer ≡ answer_at c old t g (asked_of target mode g)) × (answer ≡ Ok Done → ⊥) × (new ≡ asked_at c t target mode g old))

-- the target is none of these granules
abbrev pub AreApart : Granule → List Granule → Type 0
AreApart target [] = Unit {0}
AreApart target (g ∷ below) = (same_granule g target ≡ false) × AreApart target below

-- a walk goes on behind each of these granules, and none of them has to be asked for
abbrev pub HasPassed : OnConflict → ℕ → Granule → Mode → List Granule → Table → Type 0
HasPassed c t target mode [] table = Unit {0}
HasPassed c t target mode (g ∷ below) table = Passes c t target mode g table table × HasPassed c t target mode below table

-- a walk goes on behind each of these granules, in their order
abbrev pub PassesAll : OnConflict → ℕ → Granule → Mode → List Granule → Table → Table → Type 0
PassesAll c t target mode [] old new = new ≡ old
PassesAll c t target mode (g ∷ below) old new = (mid : Table) × Passes c t target mode g old mid × PassesAll c t target mode below mid new

-- .. or it ends at one of them
abbrev pub EndsAmong : OnConflict → ℕ → Granule → Mode → List Granule → Table → Table → Result Acquired Fault → Type 0
EndsAmong c t target mode [] old new answer = ⊥
EndsAmong c t target mode (g ∷ below) old new answer =
    EndsAt c t target mode g old new answer ⊎ ((mid : Table) × Passes c t target mode g old mid × EndsAmong c t target mode below mid new answer)
