-- Who is let through by a change of the requests: those that waited, and wait no more.
use Rattle.std.specs.Prelude.{◌≡◌, ◌≢◌, ◌↔◌, ◌++◌, ◌∷◌, [], ℕ, List, Option, None, Some, true, false, if◌then◌else◌, length, map, nat_lt}
use Rattle.shore_types.specs.declared.locking.Granule.{Granule}
use Rattle.shore_model.specs.declared.requests.Request.{Request}
pub use Rattle.shore_rings.specs.Rings.{Distinct, In}
use Rattle.shore_nodes.specs.Tables.{is_waiting, waiters_at}
use Rattle.shore_nodes.specs.declared.let_through.TheConstants.{MOST_TOLD}

-- all that were noted, in their turn; None once they are more than there is place for
abbrev pub noted : ℕ → Option (List ℕ) → Option (List ℕ)
noted t None = None
noted t (Some ts) = if nat_lt (length ts) MOST_TOLD then Some (ts ++ t ∷ []) else None

abbrev pub noted_all : List ℕ → Option (List ℕ) → Option (List ℕ)
noted_all [] told = told
noted_all (t ∷ ts) told = noted_all ts (noted t told)

-- just those that waited before and do not after, each once
pub record LetsThrough (old new : List Request) (ts : List ℕ) : Type 0 where
  pub each : (t : ℕ) → In t ts ↔ ((is_waiting t old ≡ true) × (is_waiting t new ≡ false))
  pub once : Distinct ts

-- .. of the others than one
pub record LetsOthersThrough (t : ℕ) (old new : List Request) (ts : List ℕ) : Type 0 where
  pub each : (u : ℕ) → In u ts ↔ ((u ≢ t) × (is_waiting u old ≡ true) × (is_waiting u new ≡ false))
  pub once : Distinct ts

-- they are noted
abbrev pub Tells : List Request → List Request → Option (List ℕ) → Option (List ℕ) → Type 0
Tells old new told now = (ts : List ℕ) × LetsThrough old new ts × (now ≡ noted_all ts told)

abbrev pub TellsOthers : ℕ → List Request → List Request → Option (List ℕ) → Option (List ℕ) → Type 0
TellsOthers t old new told now = (ts : List ℕ) × LetsOthersThrough t old new ts × (now ≡ noted_all ts told)

-- the first waiters of a queue wait there no more, and are noted in its order
abbrev pub TellsFirst : Granule → List Request → List Request → Option (List ℕ) → Option (List ℕ) → Type 0
TellsFirst g old new told now = (ws : List Request) × (waiters_at g old ≡ ws ++ waiters_at g new) × (now ≡ noted_all (map (λ w. w.txn) ws) told)

-- a transaction is told: among those that were noted, or beside others of whom it is not known who they are
abbrev pub IsTold : ℕ → Option (List ℕ) → Type 0
IsTold t None = Unit {0}
IsTold t (Some ts) = In t ts
