-- What follows for the list of requests, in words of its own.
use Rattle.std.specs.Prelude.{false, ◌≡◌, ◌≢◌, ◌==◌, ◌⊎◌, ℕ, List, Some, true, not, filter, map, drop, All, Any, Contains, slice_get}
use Rattle.shore_types.specs.declared.locking.Granule.{Granule}
use Rattle.shore_types.specs.declared.locking.Mode.{Mode}
use Rattle.shore_model.specs.declared.requests.Request.{Request}
use Rattle.shore_model.specs.Requests.{IsRefusedBy, WaitsFor, placed_last, requests_at}
use Rattle.shore_nodes.specs.Tables.{Table, is_waiting, mode_held, waiters_at}
use Rattle.shore_locks.specs.Grants.{after_request, after_try, answer_to, answer_to_try, asking, granted, is_enough, passed}
use Rattle.shore_locks.specs.declared.answers.Requested.TheVariants.{Granted, Waiting, Full}
use Rattle.shore_locks.specs.declared.answers.Tried.TheVariants.{Blocked, Granted as TryGranted, Full as TryFull}

-- the first waiter of each queue has another holder that refuses it
abbrev pub FirstWaitersAreRefused : List Request → Type 0
FirstWaitersAreRefused rs =
    (g : Granule) (w : Request) → slice_get (waiters_at g rs) 0 ≡ Some w →
    Any (λ other. (other.txn ≢ w.txn) × IsRefusedBy w other) (requests_at g rs)

-- what a grant pass grants is a prefix of the queue's waiters: the others still wait, in their order
abbrev pub GrantsABeginning : List Request → Granule → Type 0
GrantsABeginning rs g = (n : ℕ) × (waiters_at g (passed g rs) ≡ drop n (waiters_at g rs))

-- whose requests they are, and for which granules
abbrev pub owners : List Request → List (ℕ × Granule)
owners rs = map (λ r. (r.txn, r.granule)) rs

-- the requests of the others
abbrev pub of_others : ℕ → List Request → List Request
of_others t rs = filter (λ r. not (r.txn == t)) rs

-- who blocks a try is one for whom the transaction would wait
abbrev pub BlockedByOneInTheWay : Table → ℕ → Granule → Mode → Type 0
BlockedByOneInTheWay table t g mode =
    (u : ℕ) → answer_to_try table t g mode ≡ Blocked u → WaitsFor (placed_last (asking t g mode table.requests) table.requests) t u

-- one who is told to wait waits for somebody
abbrev pub WaitsForSomebody : Table → ℕ → Granule → Mode → Type 0
WaitsForSomebody table t g mode = answer_to table t g mode ≡ Waiting → (u : ℕ) × WaitsFor (after_request table t g mode) t u

-- what is granted is held in the mode, or in a stronger one
abbrev pub GrantedIsHeld : Table → ℕ → Granule → Mode → Type 0
GrantedIsHeld table t g mode =
    (answer_to table t g mode ≡ Granted → is_enough mode (mode_held t g (after_request table t g mode)) ≡ true)
    × (answer_to_try table t g mode ≡ TryGranted → is_enough mode (mode_held t g (after_try table t g mode)) ≡ true)

-- what is refused changes nothing
abbrev pub RefusedChangesNothing : Table → ℕ → Granule → Mode → Type 0
RefusedChangesNothing table t g mode =
    (answer_to table t g mode ≡ Full → after_request table t g mode ≡ table.requests)
    × (answer_to_try table t g mode ≡ TryFull → after_try table t g mode ≡ table.requests)
    × ((u : ℕ) → answer_to_try table t g mode ≡ Blocked u → after_try table t g mode ≡ table.requests)

-- a pass only grants: each request after it was there before, or is one that was with what it wanted held
abbrev pub OnlyGrants : List Request → List Request → Type 0
OnlyGrants before after = All (λ r. Contains before r ⊎ Any (λ q. r ≡ granted q) before) after

-- a transaction that did not wait waits only if it is told to
abbrev pub StaysQuiet : Table → ℕ → Granule → Mode → Type 0
StaysQuiet table t g mode =
    ((answer_to table t g mode ≡ Waiting → ⊥) → is_waiting t (after_request table t g mode) ≡ false)
    × (is_waiting t (after_try table t g mode) ≡ false)
