-- What is listed of requests: all of them in their order, and the granules that a transaction holds in EX.
use Rattle.std.specs.Prelude.{◌==◌, ◌&&◌, ℕ, List, Bool, Option, None, Some, false, filter, map}
use Rattle.std.specs.declared.cmp.Ordering.{Ordering}
use Rattle.std.specs.Ordering.{nat_cmp, ordering_then}
use Rattle.shore_types.specs.Locking.{granule_cmp}
use Rattle.shore_types.specs.declared.locking.Granule.{Granule}
use Rattle.shore_types.specs.declared.locking.Mode.{Mode}
use Rattle.shore_model.specs.declared.requests.Request.{Request}
use Rattle.shore_model.specs.Modes.{is_write}

-- by granule, and then by transaction
abbrev pub request_cmp : Request → Request → Ordering
request_cmp a b = ordering_then (granule_cmp a.granule b.granule) (nat_cmp a.txn b.txn)

-- what is held, if anything, is EX
abbrev pub is_ex : Option Mode → Bool
is_ex None = false
is_ex (Some held) = is_write held

abbrev pub holds_ex : Request → Bool
holds_ex r = is_ex r.held

-- the granules that a transaction holds in EX, in list order
abbrev pub granules_in_ex : ℕ → List Request → List Granule
granules_in_ex t rs = map (λ r. r.granule) (filter (λ r. (r.txn == t) && holds_ex r) rs)
