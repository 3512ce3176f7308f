-- A granule that could be locked in a table with nodes to spare is locked by a try, unless the table is full.
use Rattle.std.proofs.Common.{◌≡◌, ◌⊎◌, inl, inr, ℕ, List, Bool, true, false, Option, None, Some, refl, reverse}
use Rattle.std.specs.Prelude.{Ok, Err, cond, is_some}
use Rattle.shore_types.specs.Locking.{level_of}
use Rattle.shore_types.specs.declared.faults.Fault.TheVariants as fault
use Rattle.shore_types.specs.declared.locking.Granule.{Granule}
use Rattle.shore_types.specs.declared.locking.Mode.{Mode}
use Rattle.shore_model.specs.declared.requests.Request.{Request}
use Rattle.shore_model.specs.Locks.{path}
use Rattle.shore_model.specs.Modes.{is_allowed}
use Rattle.shore_locks.specs.declared.answers.Tried.TheVariants.{Granted as TryGranted, Full as TryFull}
use Rattle.shore_locks.specs.Grants.{after_grant, asking, blocked_by, is_enough, is_full, obstacle}
use Rattle.shore_locks.specs.Tables.{mode_held}
use Rattle.shore_path.specs.declared.answers.Acquired.TheVariants as acquire
use Rattle.shore_path.specs.declared.answers.OnConflict.TheVariants.{Refuse}
use Rattle.shore_path.specs.Walks.{Outcome, acquired, asked_of, is_spared, of_try, or_stop, walk}
use Rattle.shore_path.proofs.Walking.{EachCase, of_walk}

-- it is done, or the table is full
abbrev pub EndsWell : Outcome → Type 0
EndsWell out = (out.answer ≡ Ok acquire.Done) ⊎ (out.answer ≡ Err fault.LockTableFull)

module _ (t : ℕ) (target : Granule) (mode : Mode) (limit spare : ℕ) where
  abbrev tried : List Granule → List Request → Outcome
  tried way rs = walk Refuse t target mode limit way rs

  abbrev done : List Request → Outcome
  done rs = record { answer = Ok acquire.Done; requests = rs }

  abbrev granted_at : Granule → List Request → List Request
  granted_at g rs = after_grant t g (asked_of target mode g) rs

  abbrev left : Granule → List Request → Bool → Bool → Option Request → List Request
  left g rs enough full o = cond enough rs (cond full rs (cond (is_some o) rs (granted_at g rs)))

  abbrev at : Granule → List Granule → List Request → Bool → Bool → Bool → Option Request → Outcome
  at g below rs spared enough full o =
      cond spared (done rs) (or_stop (of_try (cond enough TryGranted (cond full TryFull (blocked_by o)))) (left g rs enough full o) (tried below (left g rs enough full o)))

  module _ (g : Granule) (below : List Granule) (rs : List Request) where
    held : (spared full : Bool) (o : Option Request) (enough : Bool) → enough ≡ true → EndsWell (tried below rs) → EndsWell (at g below rs spared enough full o)
    held true full o enough is rest = inl refl
    held false full o true is rest = rest
    held false full o false is rest = absurd cc

    free : (spared full enough : Bool) (o : Option Request) → enough ≡ false → o ≡ None → EndsWell (tried below (granted_at g rs)) → EndsWell (at g below rs spared enough full o)
    free true full enough o is nobody rest = inl refl
    free false full true o is nobody rest = absurd cc
    free false true false o is nobody rest = inr refl
    free false false false None is nobody rest = rest
    free false false false (Some q) is nobody rest = absurd cc

    spared_here : (spared enough full : Bool) (o : Option Request) → spared ≡ true → EndsWell (at g below rs spared enough full o)
    spared_here true enough full o is = inl refl
    spared_here false enough full o is = absurd cc

  case : EachCase Refuse t target mode spare (λ way rs out. out.answer ≡ Ok acquire.Done → EndsWell (tried way rs))
  case = record {
    over = λ rs is. inl refl;
    spared = λ g below rs e is.
        spared_here g below rs (is_spared t target mode g rs) (is_enough (asked_of target mode g) (mode_held t g rs)) (is_full (record { limit = limit; requests = rs }) t g) (obstacle (asking t g (asked_of target mode g) rs) rs) e;
    full = λ g below rs e is. absurd cc;
    waits = λ g below rs o c s is. absurd cc;
    blocked = λ g below rs o c s is. absurd cc;
    holds = λ g below rs e on is.
        held g below rs (is_spared t target mode g rs) (is_full (record { limit = limit; requests = rs }) t g) (obstacle (asking t g (asked_of target mode g) rs) rs) (is_enough (asked_of target mode g) (mode_held t g rs)) e (on is);
    grants = λ g below rs e f s on is.
        free g below rs (is_spared t target mode g rs) (is_full (record { limit = limit; requests = rs }) t g) (is_enough (asked_of target mode g) (mode_held t g rs)) (obstacle (asking t g (asked_of target mode g) rs) rs) e s (on is);
  }

  pub tried_ends : (way : List Granule) (rs : List Request) → (walk Refuse t target mode spare way rs).answer ≡ Ok acquire.Done → EndsWell (tried way rs)
  tried_ends = of_walk Refuse t target mode spare (λ way rs out. out.answer ≡ Ok acquire.Done → EndsWell (tried way rs)) case

pub acquired_ends : (rs : List Request) (limit spare t : ℕ) (target : Granule) (mode : Mode) → (acquired Refuse (record { limit = spare; requests = rs }) t target mode).answer ≡ Ok acquire.Done
    → EndsWell (acquired Refuse (record { limit = limit; requests = rs }) t target mode)
acquired_ends rs limit spare t target mode is = by (is_allowed (level_of target) mode) is
  where
    by : (b : Bool) → (cond b (walk Refuse t target mode spare (reverse (path target)) rs) (record { answer = Err fault.BadMode; requests = rs })).answer ≡ Ok acquire.Done
        → EndsWell (cond b (walk Refuse t target mode limit (reverse (path target)) rs) (record { answer = Err fault.BadMode; requests = rs }))
    by true done = tried_ends t target mode limit spare (reverse (path target)) rs done
    by false done = absurd cc
