-- What is left once the first request of a transaction is taken out.
use Rattle.std.specs.Prelude.{◌≡◌, ℕ, List, [], None, Some, slice_get}
use Rattle.shore_model.specs.declared.requests.Request.{Request}
use Rattle.shore_model.specs.Requests.{requests_by}
use Rattle.shore_locks.specs.declared.counted.Popped.{Popped}
use Rattle.shore_locks.specs.declared.counted.Popped.TheVariants.{Nothing, Quiet, Awaited}
use Rattle.shore_locks.specs.Grants.{removed}
use Rattle.shore_nodes.specs.Tables.{waiters_at}

-- the first request of a transaction is out, if it has one
abbrev pub IsOut : ℕ → List Request → Request → List Request → Type 0
IsOut t rs r new = (Some r ≡ slice_get (requests_by t rs) 0) × (new ≡ removed r rs)

-- .. and what is said of those who wait for its granule
abbrev pub Pops : ℕ → List Request → Popped → List Request → Type 0
Pops t rs Nothing new = (None ≡ slice_get (requests_by t rs) 0) × (new ≡ rs)
Pops t rs Quiet new = (r : Request) × IsOut t rs r new × (waiters_at r.granule new ≡ [])
Pops t rs (Awaited g) new = (r : Request) × IsOut t rs r new × (g ≡ r.granule)
