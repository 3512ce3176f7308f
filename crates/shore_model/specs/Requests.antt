-- Requests for locks in one list, the queue of each granule as filters of it, and who waits for whom. This project's
-- own; cycles of waits are those of Gray, Lorie, Putzolu and Traiger (1976).
use Rattle.std.specs.Prelude.{◌≡◌, ◌≢◌, ◌==◌, ◌&&◌, ◌⊎◌, ℕ, List, [], ◌∷◌, ◌++◌, Bool, false, not, Option, None, Some, IsSome, IsSomeAnd, is_some, filter, All, Any, Contains}
use Rattle.std.specs.List.{filter_map}
use Rattle.shore_types.specs.declared.locking.Granule.{Granule}
use Rattle.shore_types.specs.declared.locking.Mode.{Mode}
use Rattle.shore_types.specs.Locking.{same_granule}
use Rattle.shore_model.specs.declared.holds.Hold.{Hold}
use Rattle.shore_model.specs.declared.requests.Group.{Group}
use Rattle.shore_model.specs.declared.requests.Group.TheVariants.{Holders, Conversions, NewWaiters}
use Rattle.shore_model.specs.declared.requests.Request.{Request}
use Rattle.shore_model.specs.Modes.{grants}

-- two requests are of one transaction for one granule
abbrev pub are_alike : Request → Request → Bool
are_alike a b = (a.txn == b.txn) && same_granule a.granule b.granule

-- a transaction has at most one request for a granule
abbrev pub AreRequests : List Request → Type 0
AreRequests [] = Unit {0}
AreRequests (r ∷ rs) = All (λ other. are_alike r other ≡ false) rs × AreRequests rs

-- a holder that wants nothing: one of the granted group
abbrev pub wants_nothing : Request → Bool
wants_nothing r = not (is_some r.wanted)

-- a holder that waits for a stronger mode: a lock conversion
abbrev pub is_conversion : Request → Bool
is_conversion r = is_some r.held && is_some r.wanted

-- a waiter that holds nothing
abbrev pub is_new : Request → Bool
is_new r = not (is_some r.held) && is_some r.wanted

-- the groups of a queue
abbrev pub is_in_group : Group → Request → Bool
is_in_group Holders r = wants_nothing r
is_in_group Conversions r = is_conversion r
is_in_group NewWaiters r = is_new r

-- the requests for a granule, in list order
abbrev pub requests_at : Granule → List Request → List Request
requests_at g rs = filter (λ r. same_granule r.granule g) rs

-- the queue of a granule: those that want nothing, waiting conversions, and new waiters, each in list order
abbrev pub queue_at : Granule → List Request → List Request
queue_at g rs =
    filter (is_in_group Holders) (requests_at g rs)
    ++ filter (is_in_group Conversions) (requests_at g rs)
    ++ filter (is_in_group NewWaiters) (requests_at g rs)

-- a transaction's requests, in list order
abbrev pub requests_by : ℕ → List Request → List Request
requests_by t rs = filter (λ r. r.txn == t) rs

-- a new request goes last, and so does a conversion that begins to wait
abbrev pub placed_last : Request → List Request → List Request
placed_last r rs = filter (λ q. not (are_alike q r)) rs ++ r ∷ []

-- a request, as a lock in a mode that it may hold
abbrev pub hold_in : Request → Option Mode → Option Hold
hold_in r (Some mode) = Some (record { txn = r.txn; granule = r.granule; mode = mode })
hold_in r None = None

-- what a request holds
abbrev pub hold_of : Request → Option Hold
hold_of r = hold_in r r.held

-- what all requests hold
abbrev pub held_by_all : List Request → List Hold
held_by_all rs = filter_map hold_of rs

-- the first is somewhere before the second
abbrev pub Before : List Request → Request → Request → Type 0
Before [] a b = ⊥
Before (r ∷ rs) a b = ((r ≡ a) × Contains rs b) ⊎ Before rs a b

-- the waiter wants what the other's held mode does not grant
abbrev pub IsRefusedBy : Request → Request → Type 0
IsRefusedBy waiter other = IsSomeAnd waiter.wanted (λ asked. IsSomeAnd other.held (λ held. grants held asked ≡ false))

-- both wait, and the other is ahead in the queue
abbrev pub IsBehind : List Request → Request → Request → Type 0
IsBehind queue waiter other = IsSome waiter.wanted × IsSome other.wanted × Before queue other waiter

-- in a queue the waiter waits for a transaction: for a holder that refuses it, or for one that waits ahead of it
abbrev pub WaitsIn : List Request → Request → ℕ → Type 0
WaitsIn queue waiter u = Any (λ other. (other.txn ≡ u) × (IsRefusedBy waiter other ⊎ IsBehind queue waiter other)) queue

-- a transaction waits for another (an edge of the waits-for graph): one of its requests does, in the queue of its granule
abbrev pub WaitsFor : List Request → ℕ → ℕ → Type 0
WaitsFor rs t u = (t ≢ u) × Any (λ waiter. (waiter.txn ≡ t) × WaitsIn (queue_at waiter.granule rs) waiter u) rs

-- each waits for the next, and the last for the end
abbrev pub Walk : List Request → ℕ → List ℕ → ℕ → Type 0
Walk rs t [] end = WaitsFor rs t end
Walk rs t (u ∷ us) end = WaitsFor rs t u × Walk rs u us end

-- a cycle: a nonempty walk back to its start
abbrev pub IsCycle : List Request → List ℕ → Type 0
IsCycle rs [] = ⊥
IsCycle rs (t ∷ ts) = Walk rs t ts t

-- no walk leads back to its start
abbrev pub HasNoCycle : List Request → Type 0
HasNoCycle rs = (ts : List ℕ) → IsCycle rs ts → ⊥
