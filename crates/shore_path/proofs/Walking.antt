-- What a walk gives, by the cases of each granule.
use Rattle.std.proofs.Common.{◌≡◌, ◌++◌, ℕ, List, [], ◌∷◌, Bool, true, false, Option, None, Some, refl, ap, sym, subst}
use Rattle.std.specs.Prelude.{cond, is_some, Result, Ok, Err}
use Rattle.shore_types.specs.declared.faults.Fault.{Fault}
use Rattle.shore_types.specs.declared.faults.Fault.TheVariants as fault
use Rattle.shore_types.specs.declared.locking.Granule.{Granule}
use Rattle.shore_types.specs.declared.locking.Mode.{Mode}
use Rattle.shore_model.specs.declared.requests.Request.{Request}
use Rattle.shore_model.specs.Requests.{placed_last}
use Rattle.shore_locks.specs.declared.answers.Requested.TheVariants.{Granted, Waiting, Full}
use Rattle.shore_locks.specs.declared.answers.Tried.TheVariants.{Granted as TryGranted, Full as TryFull}
use Rattle.shore_locks.specs.Grants.{after_grant, asking, blocked_by, is_enough, is_full, obstacle}
use Rattle.shore_locks.specs.Tables.{Table, mode_held}
use Rattle.shore_path.specs.declared.answers.Acquired.{Acquired}
use Rattle.shore_path.specs.declared.answers.Acquired.TheVariants as acquire
use Rattle.shore_path.specs.declared.answers.OnConflict.{OnConflict}
use Rattle.shore_path.specs.declared.answers.OnConflict.TheVariants.{Wait, Refuse}
use Rattle.shore_path.specs.Walks.{Outcome, after_at, answer_at, asked_of, is_spared, of_request, of_try, or_stop, walk}

abbrev pub stop : Result Acquired Fault → List Request → Outcome
stop answer rs = record { answer = answer; requests = rs }

abbrev pub done : List Request → Outcome
done rs = stop (Ok acquire.Done) rs

module _ (c : OnConflict) (t : ℕ) (target : Granule) (mode : Mode) (limit : ℕ) where
  abbrev pub table_of : List Request → Table
  table_of rs = record { limit = limit; requests = rs }

  abbrev pub walk_on : List Granule → List Request → Outcome
  walk_on below rs = walk c t target mode limit below rs

  -- what is to be shown of a walk, case by case
  pub record EachCase (P : List Granule → List Request → Outcome → Type 0) : Type 0 where
    pub over : (rs : List Request) → P [] rs (done rs)
    pub spared : (g : Granule) (below : List Granule) (rs : List Request) → is_spared t target mode g rs ≡ true → P (g ∷ below) rs (done rs)
    pub full : (g : Granule) (below : List Granule) (rs : List Request) → is_full (table_of rs) t g ≡ true → P (g ∷ below) rs (stop (Err fault.LockTableFull) rs)
    pub waits : (g : Granule) (below : List Granule) (rs : List Request) (o : Request) → c ≡ Wait → obstacle (asking t g (asked_of target mode g) rs) rs ≡ Some o
        → P (g ∷ below) rs (stop (Ok (acquire.Waiting g)) (placed_last (asking t g (asked_of target mode g) rs) rs))
    pub blocked : (g : Granule) (below : List Granule) (rs : List Request) (o : Request) → c ≡ Refuse → obstacle (asking t g (asked_of target mode g) rs) rs ≡ Some o
        → P (g ∷ below) rs (stop (Err (fault.WouldBlock o.txn)) rs)
    pub holds : (g : Granule) (below : List Granule) (rs : List Request) → is_enough (asked_of target mode g) (mode_held t g rs) ≡ true
        → P below rs (walk_on below rs) → P (g ∷ below) rs (walk_on below rs)
    pub grants : (g : Granule) (below : List Granule) (rs : List Request) → is_enough (asked_of target mode g) (mode_held t g rs) ≡ false → is_full (table_of rs) t g ≡ false
        → obstacle (asking t g (asked_of target mode g) rs) rs ≡ None
        → P below (after_grant t g (asked_of target mode g) rs) (walk_on below (after_grant t g (asked_of target mode g) rs))
        → P (g ∷ below) rs (walk_on below (after_grant t g (asked_of target mode g) rs))

  -- an answer and the requests after it, by what is in the list
  abbrev answered : OnConflict → Granule → Bool → Bool → Option Request → Result Acquired Fault
  answered Wait g enough full o = of_request g (cond enough Granted (cond full Full (cond (is_some o) Waiting Granted)))
  answered Refuse g enough full o = of_try (cond enough TryGranted (cond full TryFull (blocked_by o)))

  abbrev left : OnConflict → Granule → List Request → Bool → Bool → Option Request → List Request
  left Wait g rs enough full o =
      cond enough rs (cond full rs (cond (is_some o) (placed_last (asking t g (asked_of target mode g) rs) rs) (after_grant t g (asked_of target mode g) rs)))
  left Refuse g rs enough full o = cond enough rs (cond full rs (cond (is_some o) rs (after_grant t g (asked_of target mode g) rs)))

  module _ (P : List Granule → List Request → Outcome → Type 0) (k : EachCase P) (g : Granule) (below : List Granule) (rs : List Request)
      (rest : (xs : List Request) → P below xs (walk_on below xs)) where
    by_case : (d : OnConflict) (enough full : Bool) (o : Option Request) → c ≡ d → is_enough (asked_of target mode g) (mode_held t g rs) ≡ enough → is_full (table_of rs) t g ≡ full
        → obstacle (asking t g (asked_of target mode g) rs) rs ≡ o
        → P (g ∷ below) rs (or_stop (answered d g enough full o) (left d g rs enough full o) (walk_on below (left d g rs enough full o)))
    by_case Wait true full o is e f s = k.holds g below rs e (rest rs)
    by_case Wait false true o is e f s = k.full g below rs f
    by_case Wait false false (Some q) is e f s = k.waits g below rs q is s
    by_case Wait false false None is e f s = k.grants g below rs e f s (rest (after_grant t g (asked_of target mode g) rs))
    by_case Refuse true full o is e f s = k.holds g below rs e (rest rs)
    by_case Refuse false true o is e f s = k.full g below rs f
    by_case Refuse false false (Some q) is e f s = k.blocked g below rs q is s
    by_case Refuse false false None is e f s = k.grants g below rs e f s (rest (after_grant t g (asked_of target mode g) rs))

    goes : (d : OnConflict) → c ≡ d
        → P (g ∷ below) rs (or_stop (answer_at d (table_of rs) t g (asked_of target mode g)) (after_at d (table_of rs) t g (asked_of target mode g))
        (walk_on below (after_at d (table_of rs) t g (asked_of target mode g))))
    goes Wait is =
        by_case Wait (is_enough (asked_of target mode g) (mode_held t g rs)) (is_full (table_of rs) t g) (obstacle (asking t g (asked_of target mode g) rs) rs) is refl refl refl
    goes Refuse is =
        by_case Refuse (is_enough (asked_of target mode g) (mode_held t g rs)) (is_full (table_of rs) t g) (obstacle (asking t g (asked_of target mode g) rs) rs) is refl refl refl

    first : (b : Bool) → is_spared t target mode g rs ≡ b
        → P (g ∷ below) rs (cond b (done rs)
        (or_stop (answer_at c (table_of rs) t g (asked_of target mode g)) (after_at c (table_of rs) t g (asked_of target mode g))
        (walk_on below (after_at c (table_of rs) t g (asked_of target mode g)))))
    first true is = k.spared g below rs is
    first false is = goes c refl

  -- what holds in each case holds of each walk
  pub of_walk : (P : List Granule → List Request → Outcome → Type 0) → EachCase P → (way : List Granule) (rs : List Request) → P way rs (walk_on way rs)
  of_walk P k [] rs = k.over rs
  of_walk P k (g ∷ below) rs = first P k g below rs (λ xs. of_walk P k below xs) (is_spared t target mode g rs) refl

  -- a walk passes over granules, none of which stops it
  abbrev pub Through : List Granule → List Request → List Request → Type 0
  Through [] rs new = rs ≡ new
  Through (g ∷ below) rs new =
      (is_spared t target mode g rs ≡ false) × (answer_at c (table_of rs) t g (asked_of target mode g) ≡ Ok acquire.Done)
      × Through below (after_at c (table_of rs) t g (asked_of target mode g)) new

  -- .. and comes to what is left
  pub through_walk : (way below : List Granule) (rs new : List Request) → Through way rs new → walk_on (way ++ below) rs ≡ walk_on below new
  through_walk [] below rs new is = ap (walk_on below) is
  through_walk (g ∷ way) below rs new h = rw (h.0, h.1) (through_walk way below (after_at c (table_of rs) t g (asked_of target mode g)) new h.2)

  pub through_more : (way : List Granule) (g : Granule) (rs mid : List Request) → Through way rs mid → is_spared t target mode g mid ≡ false
      → answer_at c (table_of mid) t g (asked_of target mode g) ≡ Ok acquire.Done → Through (way ++ g ∷ []) rs (after_at c (table_of mid) t g (asked_of target mode g))
  through_more [] g rs mid is free answer =
      subst (λ xs. Through (g ∷ []) xs (after_at c (table_of mid) t g (asked_of target mode g))) (sym is) (free, answer, refl)
  through_more (h ∷ way) g rs mid on free answer =
      (on.0, on.1, through_more way g (after_at c (table_of rs) t h (asked_of target mode h)) mid on.2 free answer)

  -- a granule whose answer is another stops the walk
  pub stops_at : (g : Granule) (below : List Granule) (rs : List Request) (answer : Result Acquired Fault) → is_spared t target mode g rs ≡ false
      → answer_at c (table_of rs) t g (asked_of target mode g) ≡ answer → (answer ≡ Ok acquire.Done → ⊥)
      → walk_on (g ∷ below) rs ≡ stop answer (after_at c (table_of rs) t g (asked_of target mode g))
  stops_at g below rs (Ok acquire.Done) free is other = absurd (other refl)
  stops_at g below rs (Ok (acquire.Waiting h)) free is other = rw (free, is) refl
  stops_at g below rs (Err f) free is other = rw (free, is) refl
