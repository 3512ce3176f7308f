-- What shows, with no walk over a queue, that nobody waits for a transaction by one of its requests.
use Rattle.std.specs.Prelude.{◌≡◌, ◌⊎◌, ◌++◌, List, [], ◌∷◌, None}
use Rattle.shore_model.specs.declared.requests.Request.{Request}
use Rattle.shore_model.specs.Requests.{requests_at}
use Rattle.shore_nodes.specs.Tables.{waiters_at}

-- the last of those for its granule is its transaction's
abbrev pub ComesLast : List Request → Request → Type 0
ComesLast rs r = (xs : List Request) × (last : Request) × (requests_at r.granule rs ≡ xs ++ last ∷ []) × (last.txn ≡ r.txn)

-- nobody waits for its granule; or it holds nothing, and comes last
abbrev pub IsUnawaited : List Request → Request → Type 0
IsUnawaited rs r = (waiters_at r.granule rs ≡ []) ⊎ ((r.held ≡ None) × ComesLast rs r)
