-- What a request meets in a table.
use Rattle.std.specs.Prelude.{◌≡◌, ◌<◌, ℕ, None, Some, true, false, is_some, length}
use Rattle.std.specs.List.{list_any}
use Rattle.std.specs.Option.{option_map}
use Rattle.shore_types.specs.declared.locking.Granule.{Granule}
use Rattle.shore_types.specs.declared.locking.Mode.{Mode}
use Rattle.shore_locks.specs.declared.findings.Finding.{Finding}
use Rattle.shore_locks.specs.declared.findings.Finding.TheVariants.{Enough, Full, Stopped, Free}
use Rattle.shore_locks.specs.Grants.{asking, is_enough, is_full, obstacle}
use Rattle.shore_model.specs.declared.requests.Request.{Request}
use Rattle.shore_model.specs.Requests.{are_alike}
use Rattle.shore_nodes.specs.Orderly.{IsOrderly, Rises}
use Rattle.shore_nodes.specs.Tables.{Table, is_waiting, mode_held, request_for}

-- less than what is asked is held, and there is a node for it
abbrev pub MayAsk : Table → ℕ → Granule → Mode → Type 0
MayAsk table t g mode = (is_enough mode (mode_held t g table.requests) ≡ false) × (is_full table t g ≡ false)

-- what is found is what is in the table
abbrev pub Finds : Table → ℕ → Granule → Mode → Finding → Type 0
Finds table t g mode Enough = is_enough mode (mode_held t g table.requests) ≡ true
Finds table t g mode Full = (is_enough mode (mode_held t g table.requests) ≡ false) × (is_full table t g ≡ true)
Finds table t g mode (Stopped request other) =
    MayAsk table t g mode × (request ≡ asking t g mode table.requests)
    × (option_map (λ r. r.txn) (obstacle (asking t g mode table.requests) table.requests) ≡ Some other)
Finds table t g mode (Free request known) =
    MayAsk table t g mode × (request ≡ asking t g mode table.requests)
    × (obstacle (asking t g mode table.requests) table.requests ≡ None) × (known ≡ is_some (request_for t g table.requests))

-- the request has a node already, or one is left
abbrev pub FindsNode : Table → Request → Type 0
FindsNode table r = list_any (λ q. are_alike q r) table.requests ≡ false → length table.requests < table.limit

-- a transaction that does not wait asks for no less than it holds, and nobody is in its way
pub record IsGrantable (table : Table) (r : Request) : Type 0 where
  pub orderly : IsOrderly table.requests
  pub quiet : is_waiting r.txn table.requests ≡ false
  pub finds_node : FindsNode table r
  pub as_held : r.held ≡ mode_held r.txn r.granule table.requests
  pub wants : is_some r.wanted ≡ true
  pub rises : Rises r.held r.wanted
  pub free : obstacle r table.requests ≡ None
