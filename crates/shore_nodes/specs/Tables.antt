-- What a lock table is seen as, and what is read of it.
use Rattle.std.specs.Prelude.{◌==◌, ◌&&◌, ℕ, List, Bool, Option, is_some, find, filter, ◌++◌}
use Rattle.std.specs.Option.{option_and_then}
use Rattle.shore_types.specs.declared.locking.Granule.{Granule}
use Rattle.shore_types.specs.declared.locking.Mode.{Mode}
use Rattle.shore_types.specs.Locking.{same_granule}
use Rattle.shore_model.specs.declared.requests.Request.{Request}
use Rattle.shore_model.specs.declared.requests.Group.TheVariants.{Holders, Conversions, NewWaiters}
use Rattle.shore_model.specs.Requests.{is_in_group, requests_at}

-- how many nodes it may have, and its requests, one for each node
pub record Table : Type 0 where
  pub limit : ℕ
  pub requests : List Request

-- the request is the transaction's for the granule
abbrev pub is_for : ℕ → Granule → Request → Bool
is_for t g r = (r.txn == t) && same_granule r.granule g

-- the request of a transaction for a granule
abbrev pub request_for : ℕ → Granule → List Request → Option Request
request_for t g rs = find (is_for t g) rs

-- the mode in which a transaction holds a granule
abbrev pub mode_held : ℕ → Granule → List Request → Option Mode
mode_held t g rs = option_and_then (λ r. r.held) (request_for t g rs)

-- the request with which a transaction waits
abbrev pub waiting_request : ℕ → List Request → Option Request
waiting_request t rs = find (λ r. (r.txn == t) && is_some r.wanted) rs

abbrev pub is_waiting : ℕ → List Request → Bool
is_waiting t rs = is_some (waiting_request t rs)

-- those that hold a granule and want nothing, in the order of its queue
abbrev pub holders_at : Granule → List Request → List Request
holders_at g rs = filter (is_in_group Holders) (requests_at g rs)

-- those that wait for a granule, in the order of its queue: conversions, then new waiters
abbrev pub waiters_at : Granule → List Request → List Request
waiters_at g rs = filter (is_in_group Conversions) (requests_at g rs) ++ filter (is_in_group NewWaiters) (requests_at g rs)
