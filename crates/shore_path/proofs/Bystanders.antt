-- What a walk makes of the requests of others: they stay, or what they want is granted.
use Rattle.std.proofs.Common.{◌≡◌, ◌⊎◌, inl, inr, ⊎_elim, ℕ, List, true, false, refl, ap, sym, subst}
use Rattle.std.specs.Prelude.{is_some, Any, Contains}
use Rattle.shore_types.specs.declared.locking.Granule.{Granule}
use Rattle.shore_types.specs.declared.locking.Mode.{Mode}
use Rattle.shore_model.specs.declared.requests.Request.{Request}
use Rattle.shore_model.specs.Requests.{AreRequests, placed_last}
use Rattle.shore_locks.specs.Grants.{after_grant, asking, granted, passed, put, replaced}
use Rattle.shore_locks.specs.Tables.{is_waiting, waiters_at}
use Rattle.shore_locks.proofs.Members.{All-In, In, In-Contains}
use Rattle.shore_locks.proofs.Fits.{Fit, In-placed, In-replaced, pass_keeps, wants_nothing}
use Rattle.shore_locks.proofs.Entering.{AreRequests-put, In-put}
use Rattle.shore_locks.proofs.Outcomes.{any_from}
use Rattle.shore_path.specs.declared.answers.OnConflict.{OnConflict}
use Rattle.shore_path.specs.Acquires.{OthersOnlyGranted}
use Rattle.shore_path.specs.Walks.{asked_of}
use Rattle.shore_path.proofs.Growing.{Fit-grant, quiet_grant}
use Rattle.shore_path.proofs.Walking.{EachCase, of_walk, walk_on}

-- a request is the transaction's, or stood before, or stood before as one that wanted what it holds
abbrev IsFrom : ℕ → List Request → Request → Type 0
IsFrom t rs r = (r.txn ≡ t) ⊎ (In r rs ⊎ ((q : Request) × In q rs × (is_some q.wanted ≡ true) × (r ≡ granted q)))

abbrev AllFrom : ℕ → List Request → List Request → Type 0
AllFrom t rs new = (r : Request) → In r new → IsFrom t rs r

from_granted : (t : ℕ) (rs : List Request) (w : Request) → is_some w.wanted ≡ true → IsFrom t rs w → IsFrom t rs (granted w)
from_granted t rs w wants from =
    ⊎_elim
    (λ by. inl by)
    (λ other. ⊎_elim (λ stood. inr (inr (w, stood, wants, refl)))
    (λ was. absurd (wants_nothing w.wanted (ap (λ (x : Request). x.wanted) was.3) wants)) other)
    from

from_replaced : (t : ℕ) (rs xs : List Request) (w : Request) → In w xs → is_some w.wanted ≡ true → AllFrom t rs xs → AllFrom t rs (replaced (granted w) xs)
from_replaced t rs xs w in_w wants all r h =
    ⊎_elim (λ e. subst (IsFrom t rs) (sym e) (from_granted t rs w wants (all w in_w))) (λ o. all r o.0) (In-replaced (granted w) xs r h)

from_passed : (t : ℕ) (g : Granule) (rs xs : List Request) → AreRequests xs → AllFrom t rs xs → AllFrom t rs (passed g xs)
from_passed t g rs xs one all =
    pass_keeps (AllFrom t rs) g (λ ys w from ones in_w at wants can. from_replaced t rs ys w in_w wants from) (waiters_at g xs) xs one refl all

from_placed : (t : ℕ) (g : Granule) (m : Mode) (rs xs : List Request) → AllFrom t rs xs → AllFrom t rs (placed_last (asking t g m xs) xs)
from_placed t g m rs xs all r h = ⊎_elim (λ e. inl (ap (λ (x : Request). x.txn) e)) (λ o. all r o.0) (In-placed (asking t g m xs) xs r h)

from_grant : (t : ℕ) (g : Granule) (m : Mode) (rs xs : List Request) → AreRequests xs → AllFrom t rs xs → AllFrom t rs (after_grant t g m xs)
from_grant t g m rs xs one all =
    from_passed t g rs (put (granted (asking t g m xs)) xs) (AreRequests-put (granted (asking t g m xs)) xs one)
    (λ r h. ⊎_elim (λ e. inl (ap (λ (x : Request). x.txn) e)) (λ o. all r o.0) (In-put (granted (asking t g m xs)) xs r h))

module _ (c : OnConflict) (t : ℕ) (target : Granule) (mode : Mode) (limit : ℕ) where
  abbrev Leaves : List Request → List Request → Type 0
  Leaves rs new = Fit rs → is_waiting t rs ≡ false → (old : List Request) → AllFrom t old rs → AllFrom t old new

  from_case : EachCase c t target mode limit (λ way rs out. Leaves rs out.requests)
  from_case = record {
    over = λ rs fit quiet old all. all;
    spared = λ g below rs e fit quiet old all. all;
    full = λ g below rs e fit quiet old all. all;
    waits = λ g below rs o is s fit quiet old all. from_placed t g (asked_of target mode g) old rs all;
    blocked = λ g below rs o is s fit quiet old all. all;
    holds = λ g below rs e on fit quiet old all. on fit quiet old all;
    grants = λ g below rs e f s on fit quiet old all.
        on (Fit-grant t g (asked_of target mode g) rs fit s) (quiet_grant limit t g (asked_of target mode g) rs fit.one quiet e f s) old
        (from_grant t g (asked_of target mode g) old rs fit.one all);
  }

  from_walk : (way : List Granule) (rs : List Request) → Leaves rs (walk_on c t target mode limit way rs).requests
  from_walk = of_walk c t target mode limit (λ way rs out. Leaves rs out.requests) from_case

  pub others_after : (way : List Granule) (rs : List Request) → Fit rs → is_waiting t rs ≡ false → OthersOnlyGranted rs (walk_on c t target mode limit way rs).requests t
  others_after way rs fit quiet =
      All-In (λ r. (r.txn ≡ t) ⊎ (Contains rs r ⊎ Any (λ q. r ≡ granted q) rs)) (walk_on c t target mode limit way rs).requests
      (λ r h. ⊎_elim (λ by. inl by)
      (λ other. inr (⊎_elim (λ stood. inl (In-Contains rs r stood)) (λ was. inr (any_from (λ q. r ≡ granted q) rs was.0 was.1 was.3)) other))
      (from_walk way rs fit quiet rs (λ q i. inr (inl i)) r h))
