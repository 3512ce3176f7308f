-- What holds of the requests of every table.
use Rattle.std.specs.Prelude.{◌≡◌, ◌||◌, ◌++◌, ℕ, List, [], ◌∷◌, false, IsTrue, Option, None, Some, IsSome, is_some, All, Contains, length, ◌≤◌}
use Rattle.shore_types.specs.declared.locking.Granule.{Granule}
use Rattle.shore_types.specs.declared.locking.Mode.{Mode}
use Rattle.shore_model.specs.declared.requests.Request.{Request}
use Rattle.shore_model.specs.Modes.{is_at_most}
use Rattle.shore_model.specs.Locks.{StandTogether}
use Rattle.shore_model.specs.Requests.{AreRequests, held_by_all, requests_at, requests_by}
use Rattle.shore_nodes.specs.Tables.{waiters_at}
use Rattle.shore_nodes.specs.Grants.{can_be_granted}

-- the first of the waiters, if there is one, cannot be granted in the queue
abbrev pub IsStopped : List Request → List Request → Type 0
IsStopped [] queue = Unit {0}
IsStopped (w ∷ ws) queue = can_be_granted w queue ≡ false

-- a request holds or wants something
abbrev pub IsOfUse : Request → Type 0
IsOfUse r = IsTrue (is_some r.held || is_some r.wanted)

-- what is wanted is no less than what is held
abbrev pub Rises : Option Mode → Option Mode → Type 0
Rises (Some held) (Some wanted) = IsTrue (is_at_most held wanted)
Rises _ _ = Unit {0}

-- two requests with which a transaction waits are one
abbrev pub WaitsOnce : List Request → Type 0
WaitsOnce rs = (a b : Request) → Contains rs a → Contains rs b → a.txn ≡ b.txn → IsSome a.wanted → IsSome b.wanted → a ≡ b

-- a request before another of its transaction wants nothing: a transaction waits with its newest
abbrev pub WaitsLast : List Request → Type 0
WaitsLast [] = Unit {0}
WaitsLast (r ∷ rs) = All (λ q. q.txn ≡ r.txn → r.wanted ≡ None) rs × WaitsLast rs

-- the request is the last of a transaction's
abbrev pub IsNewest : ℕ → List Request → Request → Type 0
IsNewest t rs r = (xs : List Request) × (requests_by t rs ≡ xs ++ r ∷ [])

-- the requests of a table: one for a transaction and a granule; holders are compatible; nobody is left whom a grant
-- pass would grant
pub record IsOrderly (rs : List Request) : Type 0 where
  pub one_each : AreRequests rs
  pub together : StandTogether (held_by_all rs)
  pub none_left : (g : Granule) → IsStopped (waiters_at g rs) (requests_at g rs)
  pub of_use : All IsOfUse rs
  pub rising : All (λ r. Rises r.held r.wanted) rs
  pub waits_once : WaitsOnce rs
  pub waits_last : WaitsLast rs

-- .. and as many as it may have
pub record IsOrderlyWithin (limit : ℕ) (rs : List Request) : Type 0 where
  pub orderly : IsOrderly rs
  pub within : length rs ≤ limit
