-- An acquire and the cycles of waits: if it does not wait it closes none, and if it waits each that it closes passes the one who asks.
use Rattle.std.proofs.Common.{◌≡◌, ℕ, List, false, refl, reverse}
use Rattle.std.specs.Prelude.{is_some, cond, Ok, Err, Result}
use Rattle.shore_types.specs.declared.faults.Fault.TheVariants as fault
use Rattle.shore_types.specs.declared.locking.Granule.{Granule}
use Rattle.shore_types.specs.declared.locking.Mode.{Mode}
use Rattle.shore_types.specs.Locking.{level_of}
use Rattle.shore_model.specs.declared.requests.Request.{Request}
use Rattle.shore_model.specs.Locks.{path}
use Rattle.shore_model.specs.Modes.{is_allowed}
use Rattle.shore_model.specs.Requests.{HasNoCycle}
use Rattle.shore_locks.specs.Tables.{Table, is_waiting}
use Rattle.shore_locks.proofs.Fits.{Fit}
use Rattle.shore_path.specs.declared.answers.Acquired.TheVariants as acquire
use Rattle.shore_path.specs.declared.answers.OnConflict.{OnConflict}
use Rattle.shore_path.specs.Walks.{Outcome, acquired, asked_of}
use Rattle.shore_path.proofs.Growing.{Fit-grant, quiet_grant}
use Rattle.shore_path.proofs.Walking.{EachCase, of_walk, walk_on}
use Rattle.shore_cycles.specs.Cycles.{IsOnEachCycle}
use Rattle.shore_deadlock.proofs.LawLemmas.{free_granted, on_each_placed}

-- what an outcome says of cycles
pub record ClosesOwn (t : ℕ) (out : Outcome) : Type 0 where
  pub free : ((g : Granule) → out.answer ≡ Ok (acquire.Waiting g) → ⊥) → HasNoCycle out.requests
  pub each : IsOnEachCycle out.requests t

closes_none : (t : ℕ) (out : Outcome) → HasNoCycle out.requests → ClosesOwn t out
closes_none t out none = record { free = λ never. none; each = λ cycle closed. absurd (none cycle closed) }

module _ (c : OnConflict) (t : ℕ) (target : Granule) (mode : Mode) (limit : ℕ) where
  closes_case : EachCase c t target mode limit (λ way rs out. Fit rs → is_waiting t rs ≡ false → HasNoCycle rs → ClosesOwn t out)
  closes_case = record {
    over = λ rs fit quiet none. closes_none t _ none;
    spared = λ g below rs is fit quiet none. closes_none t _ none;
    full = λ g below rs is fit quiet none. closes_none t _ none;
    waits = λ g below rs o is stopped fit quiet none. record {
      free = λ never. absurd (never g refl);
      each = on_each_placed t g (asked_of target mode g) rs fit quiet none;
    };
    blocked = λ g below rs o is stopped fit quiet none. closes_none t _ none;
    holds = λ g below rs enough rest fit quiet none. rest fit quiet none;
    grants = λ g below rs less room free rest fit quiet none.
        rest (Fit-grant t g (asked_of target mode g) rs fit free) (quiet_grant limit t g (asked_of target mode g) rs fit.one quiet less room free)
        (free_granted t g (asked_of target mode g) rs fit quiet none free);
  }

  pub walk_closes : (way : List Granule) (rs : List Request) → Fit rs → is_waiting t rs ≡ false → HasNoCycle rs → ClosesOwn t (walk_on c t target mode limit way rs)
  walk_closes = of_walk c t target mode limit (λ way rs out. Fit rs → is_waiting t rs ≡ false → HasNoCycle rs → ClosesOwn t out) closes_case

pub allowed_case : (P : Outcome → Type 0) (b : Rattle.std.specs.Prelude.Bool) (yes_out no_out : Outcome) → P yes_out → P no_out → P (cond b yes_out no_out)
allowed_case P Rattle.std.specs.Prelude.true a b p q = p
allowed_case P Rattle.std.specs.Prelude.false a b p q = q

pub acquire_closes : (c : OnConflict) (table : Table) (t : ℕ) (target : Granule) (mode : Mode) → Fit table.requests → is_waiting t table.requests ≡ false → HasNoCycle table.requests
    → ClosesOwn t (acquired c table t target mode)
acquire_closes c table t target mode fit quiet none =
    allowed_case (ClosesOwn t) (is_allowed (level_of target) mode) (walk_on c t target mode table.limit (reverse (path target)) table.requests) (record { answer = Err fault.BadMode; requests = table.requests })
    (walk_closes c t target mode table.limit (reverse (path target)) table.requests fit quiet none) (closes_none t _ none)
