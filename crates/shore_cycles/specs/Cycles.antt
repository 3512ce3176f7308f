-- Cycles of waits, and the victims that break them.
use Rattle.std.specs.Prelude.{◌≡◌, ◌≤◌, ℕ, List, [], ◌∷◌, Some, slice_get, All, Contains}
use Rattle.shore_model.specs.declared.requests.Request.{Request}
use Rattle.shore_model.specs.Requests.{IsCycle}
use Rattle.shore_locks.specs.Grants.{cancelled}
use Rattle.shore_cycles.specs.declared.victims.Victim.{Victim}
use Rattle.shore_cycles.specs.Blockers.{AreNoVictims}

-- no transaction comes twice
abbrev pub ComeOnce : List ℕ → Type 0
ComeOnce [] = Unit {0}
ComeOnce (t ∷ ts) = (Contains ts t → ⊥) × ComeOnce ts

-- a cycle from the transaction on, which comes by nobody twice
pub record IsSimpleCycleFrom (rs : List Request) (t : ℕ) (cycle : List ℕ) : Type 0 where
  pub closed : IsCycle rs cycle
  pub first : slice_get cycle 0 ≡ Some t
  pub once : ComeOnce cycle

-- no cycle passes the transaction
abbrev pub IsOnNoCycle : List Request → ℕ → Type 0
IsOnNoCycle rs t = (cycle : List ℕ) → IsCycle rs cycle → Contains cycle t → ⊥

-- .. but those that pass a victim
abbrev pub IsOnNoCycleWithout : List Victim → List Request → ℕ → Type 0
IsOnNoCycleWithout victims rs t = (cycle : List ℕ) → IsCycle rs cycle → Contains cycle t → AreNoVictims victims cycle → ⊥

-- each cycle passes the transaction
abbrev pub IsOnEachCycle : List Request → ℕ → Type 0
IsOnEachCycle rs t = (cycle : List ℕ) → IsCycle rs cycle → Contains cycle t

-- a victim for a transaction: the greatest of a cycle that passes that one, told from the victim on
pub record IsVictim (rs : List Request) (t : ℕ) (v : Victim) : Type 0 where
  pub stands : IsSimpleCycleFrom rs v.txn v.cycle
  pub passes : Contains v.cycle t
  pub greatest : All (λ u. u ≤ v.txn) v.cycle

-- victims in turn, each in the requests that the earlier ones left
abbrev pub AreVictims : List Request → ℕ → List Victim → Type 0
AreVictims rs t [] = Unit {0}
AreVictims rs t (v ∷ vs) = IsVictim rs t v × AreVictims (cancelled v.txn rs) t vs

-- the requests once each victim waits no more
abbrev pub after_victims : List Victim → List Request → List Request
after_victims [] rs = rs
after_victims (v ∷ vs) rs = after_victims vs (cancelled v.txn rs)
