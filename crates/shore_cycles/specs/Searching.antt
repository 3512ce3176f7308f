-- A search for cycles that is under way.
use Rattle.std.specs.Prelude.{◌≡◌, ◌<◌, ◌≤◌, ◌||◌, ℕ, List, None, Some, true, false, length}
use Rattle.shore_model.specs.declared.requests.Request.{Request}
use Rattle.shore_model.specs.Requests.{WaitsFor}
use Rattle.shore_locks.specs.Tables.{waiting_request}
use Rattle.shore_cycles.specs.declared.reached.Step.{Step}
use Rattle.shore_cycles.specs.declared.victims.Victim.{Victim}
use Rattle.shore_cycles.specs.Blockers.{is_victim}
use Rattle.shore_cycles.specs.Marks.{is_marked}
use Rattle.shore_cycles.specs.Reached.{LeadsBack, Seen, is_reached, step_at, txn_at}

-- each step but the first is waited for by the one that led to it, and nobody is reached twice
pub record IsTrail (rs : List Request) (t : ℕ) (steps : List Step) : Type 0 where
  pub some : 0 < length steps
  pub first : txn_at steps 0 ≡ t
  pub leads : LeadsBack steps
  pub waits : (k : ℕ) → 0 < k → k < length steps → WaitsFor rs (txn_at steps (step_at steps k).parent) (txn_at steps k)
  pub apart : (j k : ℕ) → j < k → k < length steps → txn_at steps j ≡ txn_at steps k → ⊥

-- a trail beside victims: the reached and the victims are marked; no step is a victim that is yet to be explored, or that
-- led to another
pub record IsSound (rs : List Request) (victims : List Victim) (t : ℕ) (seen : Seen) (leading from : ℕ) : Type 0 where
  pub trail : IsTrail rs t seen.steps
  pub marked : (u : ℕ) → is_marked seen.marks u ≡ (is_reached seen.steps u || is_victim victims u)
  pub start : is_victim victims t ≡ false
  pub spared : (k : ℕ) → from ≤ k → k < length seen.steps → is_victim victims (txn_at seen.steps k) ≡ false
  pub parents : (k : ℕ) → 0 < k → k < length seen.steps → ((step_at seen.steps k).parent < leading) × (is_victim victims (txn_at seen.steps (step_at seen.steps k).parent) ≡ false)

-- whoever is waited for by one of the first steps is reached, and is not the one from whom the search began, but for victims
abbrev pub Explored : List Request → List Victim → ℕ → List Step → ℕ → Type 0
Explored rs victims t steps n =
    (k : ℕ) → k < n → is_victim victims (txn_at steps k) ≡ false → (u : ℕ) → WaitsFor rs (txn_at steps k) u → is_victim victims u ≡ false →
    (is_reached steps u ≡ true) × (u ≡ t → ⊥)

-- a search from a transaction, which has explored the steps before an index
pub record IsUnderWay (rs : List Request) (victims : List Victim) (t : ℕ) (seen : Seen) (index : ℕ) : Type 0 where
  pub sound : IsSound rs victims t seen index index
  pub explored : Explored rs victims t seen.steps index

-- both wait as new waiters for the same granule and mode
pub record ShareQueue (rs : List Request) (t u : ℕ) : Type 0 where
  pub mine : Request
  pub other : Request
  pub waits : waiting_request t rs ≡ Some mine
  pub other_waits : waiting_request u rs ≡ Some other
  pub new : mine.held ≡ None
  pub other_new : other.held ≡ None
  pub at : mine.granule ≡ other.granule
  pub wanted : mine.wanted ≡ other.wanted
