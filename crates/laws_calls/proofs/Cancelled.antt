-- The request with which a transaction waits is taken back: what is left of the requests, and that the locks may move so.
use Rattle.std.proofs.Common.{◌≡◌, ◌⊎◌, inl, inr, ⊎_elim, ◌<◌, ℕ, List, [], refl}
use Rattle.std.specs.Prelude.{◌==◌, All, Any, Contains}
use Rattle.std.proofs.lemmas.Bool.{cases_Bool, eqb-false, eqb-true}
use Rattle.shore_model.specs.declared.requests.Request.{Request}
use Rattle.shore_model.specs.Requests.{held_by_all}
use Rattle.shore_nodes.proofs.Members.{All-In, In, In-Contains}
use Rattle.shore_locks.specs.Grants.{cancelled, granted}
use Rattle.shore_locks.specs.Orderly.{IsOrderly}
use Rattle.shore_locks.proofs.Outcomes.{any_from}
use Rattle.shore_locks.proofs.Tables.{fit_of, orderly_cancelled}
use Rattle.shore_path.specs.Acquires.{OthersOnlyGranted}
use Rattle.shore_path.specs.Rooted.{AreRooted}
use Rattle.shore_path.proofs.Freeing.{rooted_cancelled, weaker_cancelled}
use Rattle.shore_path.proofs.Intentions.{are_rooted, rooted_of}
use Rattle.shore_deadlock.proofs.Sparing.{Spares, spares_cancelled}
use Rattle.laws_locks.proofs.Held.{moves_of, numbers_of}
use Rattle.laws_lives.specs.SessionSteps.{MoveLocks, StepsTo}
use Rattle.laws_lives.specs.Sessions.{Sessions, locks_moved}

module _ (rs : List Request) (t : ℕ) (orderly : IsOrderly rs) where
  abbrev left : List Request
  left = cancelled t rs

  spared : Spares t [] rs left
  spared = (spares_cancelled t t [] rs (inl refl) (fit_of rs orderly)).1

  -- each request of another is as it was, or has come to be granted
  one_left : (r : Request) → In r left → (r.txn ≡ t) ⊎ (Contains rs r ⊎ Any (λ q. r ≡ granted q) rs)
  one_left r there = ⊎_elim
      (λ own. inl (eqb-true r.txn t own))
      (λ other. ⊎_elim
      (λ stood. inr (inl (In-Contains rs r stood)))
      (⊎_elim (λ was. inr (inr (any_from (λ q. r ≡ granted q) rs was.0 was.1 was.3))) (λ taken. let none = taken.0 in absurd cc))
      (spared.comes r there (eqb-false r.txn t other)))
      (cases_Bool (r.txn == t))

  pub cancelled_grants : OthersOnlyGranted rs left t
  cancelled_grants = All-In (λ r. (r.txn ≡ t) ⊎ (Contains rs r ⊎ Any (λ q. r ≡ granted q) rs)) left one_left

  pub cancelled_rooted : AreRooted rs → AreRooted left
  cancelled_rooted rooted = are_rooted left (rooted_cancelled t rs orderly (rooted_of rs orderly.one_each rooted))

  pub cancelled_below : (n : ℕ) → t < n → All (λ r. r.txn < n) rs → All (λ r. r.txn < n) left
  cancelled_below n low below = numbers_of rs left t n below low cancelled_grants

  -- nobody's lock becomes weaker
  pub cancelled_moves : (s : Sessions) → s.held ≡ held_by_all rs → AreRooted rs → t < s.next_txn → All (λ r. r.txn < s.next_txn) rs
      → StepsTo s (MoveLocks (held_by_all left)) (locks_moved s (held_by_all left))
  cancelled_moves s held rooted low below =
      moves_of s rs left held orderly (orderly_cancelled t rs orderly) (cancelled_rooted rooted) (λ u among. weaker_cancelled t rs orderly u) (cancelled_below s.next_txn low below)
