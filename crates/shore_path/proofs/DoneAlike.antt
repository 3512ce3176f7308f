-- A walk that is done without waiting is the walk of one that may wait.
use Rattle.std.proofs.Common.{◌≡◌, ℕ, List, [], ◌∷◌, Bool, true, false, Option, None, Some, refl, reverse}
use Rattle.std.specs.Prelude.{cond, is_some, Ok, Err}
use Rattle.shore_types.specs.declared.faults.Fault.TheVariants as fault
use Rattle.shore_types.specs.declared.locking.Granule.{Granule}
use Rattle.shore_types.specs.declared.locking.Mode.{Mode}
use Rattle.shore_types.specs.Locking.{level_of}
use Rattle.shore_model.specs.declared.requests.Request.{Request}
use Rattle.shore_model.specs.Locks.{path}
use Rattle.shore_model.specs.Modes.{is_allowed}
use Rattle.shore_model.specs.Requests.{placed_last}
use Rattle.shore_locks.specs.declared.answers.Requested.TheVariants.{Granted, Waiting, Full}
use Rattle.shore_locks.specs.declared.answers.Tried.TheVariants.{Granted as TryGranted, Full as TryFull}
use Rattle.shore_locks.specs.Grants.{after_grant, asking, blocked_by, is_enough, is_full, obstacle}
use Rattle.shore_locks.specs.Tables.{Table, mode_held}
use Rattle.shore_path.specs.declared.answers.Acquired.TheVariants as acquire
use Rattle.shore_path.specs.declared.answers.OnConflict.TheVariants.{Wait, Refuse}
use Rattle.shore_path.specs.Walks.{Outcome, acquired, asked_of, is_spared, of_request, of_try, or_stop, walk}
use Rattle.shore_path.proofs.Walking.{done}

module _ (t : ℕ) (target : Granule) (mode : Mode) (limit : ℕ) where
  abbrev patient : List Granule → List Request → Outcome
  patient way rs = walk Wait t target mode limit way rs

  abbrev refusing : List Granule → List Request → Outcome
  refusing way rs = walk Refuse t target mode limit way rs

  module _ (g : Granule) (below : List Granule) (rs : List Request) (rest : (xs : List Request) → (refusing below xs).answer ≡ Ok acquire.Done → patient below xs ≡ refusing below xs) where
    abbrev grown : List Request
    grown = after_grant t g (asked_of target mode g) rs

    abbrev waiting : List Request
    waiting = placed_last (asking t g (asked_of target mode g) rs) rs

    abbrev left : Bool → Bool → Bool → List Request → List Request
    left enough full stopped other = cond enough rs (cond full rs (cond stopped other grown))

    abbrev patient_step : Bool → Bool → Bool → Option Request → Outcome
    patient_step spared enough full o =
        cond spared (done rs)
        (or_stop (of_request g (cond enough Granted (cond full Full (cond (is_some o) Waiting Granted)))) (left enough full (is_some o) waiting) (patient below (left enough full (is_some o) waiting)))

    abbrev refusing_step : Bool → Bool → Bool → Option Request → Outcome
    refusing_step spared enough full o =
        cond spared (done rs)
        (or_stop (of_try (cond enough TryGranted (cond full TryFull (blocked_by o)))) (left enough full (is_some o) rs) (refusing below (left enough full (is_some o) rs)))

    same_step : (spared enough full : Bool) (o : Option Request) → (refusing_step spared enough full o).answer ≡ Ok acquire.Done → patient_step spared enough full o ≡ refusing_step spared enough full o
    same_step true enough full o e = refl
    same_step false true full o e = rest rs e
    same_step false false true o e = cc
    same_step false false false (Some q) e = cc
    same_step false false false None e = rest grown e

  same_walk : (way : List Granule) (rs : List Request) → (refusing way rs).answer ≡ Ok acquire.Done → patient way rs ≡ refusing way rs
  same_walk [] rs e = refl
  same_walk (g ∷ below) rs e =
      same_step g below rs (same_walk below) (is_spared t target mode g rs) (is_enough (asked_of target mode g) (mode_held t g rs)) (is_full (record { limit = limit; requests = rs }) t g)
      (obstacle (asking t g (asked_of target mode g) rs) rs) e

same_if : (allowed : Bool) (patient refusing refused : Outcome) → (refusing.answer ≡ Ok acquire.Done → patient ≡ refusing) → (cond allowed refusing refused).answer ≡ Ok acquire.Done
    → cond allowed patient refused ≡ cond allowed refusing refused
same_if true patient refusing refused same e = same e
same_if false patient refusing refused same e = refl

pub done_alike : (table : Table) (t : ℕ) (target : Granule) (mode : Mode) → (acquired Refuse table t target mode).answer ≡ Ok acquire.Done → acquired Wait table t target mode ≡ acquired Refuse table t target mode
done_alike table t target mode =
    same_if (is_allowed (level_of target) mode) (walk Wait t target mode table.limit (reverse (path target)) table.requests) (walk Refuse t target mode table.limit (reverse (path target)) table.requests)
    (record { answer = Err fault.BadMode; requests = table.requests })
    (same_walk t target mode table.limit (reverse (path target)) table.requests)
