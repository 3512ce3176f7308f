-- The chains of places, by their buckets.
use Rattle.std.specs.Prelude.{◌≡◌, ◌<◌, ℕ, List, vec_capacity, vec_len}
use Rattle.shore_txn.specs.declared.chains.PageChains.{PageChains}
use Rattle.shore_txn.specs.declared.chains.TheConstants.{FEW}
use Rattle.shore_txn.specs.Chains.{buckets_of}

-- the bucket of each place, the oldest first
abbrev pub buckets_in : PageChains → List ℕ
buckets_in chains = buckets_of chains.links.items

-- a place more needs no memory, neither for its link nor for heads
abbrev pub HasLinkRoom : PageChains → Type 0
HasLinkRoom chains = (vec_len chains.links < vec_capacity chains.links) × (vec_len chains.heads ≡ 0 → vec_len chains.links < FEW)
