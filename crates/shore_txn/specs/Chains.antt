-- Chains of the places of changes, one for each bucket of pages. A place is the index of a change and 1.
use Rattle.std.specs.Prelude.{◌≡◌, ◌==◌, ◌<◌, ◌≤◌, ◌+◌, ◌*◌, ◌%◌, ℕ, zero, suc, Bool, List, [], ◌∷◌, Some, length, map, take, get_or, slice_get, slice_index_or, if◌then◌else◌}
use Rattle.shore_types.specs.declared.ids.PageId.{PageId}
use Rattle.shore_txn.specs.declared.chains.Link.{Link}
use Rattle.shore_txn.specs.declared.chains.TheConstants.{BUCKETS, FEW}
use Rattle.shore_txn.specs.declared.undo.UndoEntry.{UndoEntry}

-- the bucket of a page
abbrev pub bucket_of : PageId → ℕ
bucket_of page = (page.store * 61 + page.page) % BUCKETS

-- .. the buckets of the pages of changes
abbrev pub page_buckets : List UndoEntry → List ℕ
page_buckets es = map (λ e. bucket_of e.id.page) es

-- a place behind the first, if there is one; else the first, if it is asked for
abbrev pub place_behind : Bool → ℕ → ℕ
place_behind is_first zero = if is_first then 1 else 0
place_behind is_first (suc later) = suc (suc later)

-- the newest place of a bucket, by the buckets of all places; 0 for none
abbrev pub newest_in : ℕ → List ℕ → ℕ
newest_in bucket [] = 0
newest_in bucket (b ∷ rest) = place_behind (b == bucket) (newest_in bucket rest)

-- a place is of a bucket, or is none
abbrev pub IsOfBucket : List ℕ → ℕ → ℕ → Type 0
IsOfBucket buckets bucket zero = Unit {0}
IsOfBucket buckets bucket (suc index) = slice_get buckets index ≡ Some bucket

abbrev pub buckets_of : List Link → List ℕ
buckets_of links = map (λ link. link.bucket) links

abbrev pub link_at : List Link → ℕ → Link
link_at links index = slice_index_or links index (record { bucket = 0; older = 0 })

-- behind places of these buckets a link leads to the newest of its own
pub record IsLink (earlier : List ℕ) (link : Link) : Type 0 where
  pub inside : link.bucket < BUCKETS
  pub leads : link.older ≡ newest_in link.bucket earlier

-- each link has one of the buckets
abbrev pub AreInside : List Link → Type 0
AreInside links = (index : ℕ) → index < length links → (link_at links index).bucket < BUCKETS

-- each bucket leads to its newest place, where places have these buckets
pub record AreHeads (buckets heads : List ℕ) : Type 0 where
  pub count : length heads ≡ BUCKETS
  pub newest : (bucket : ℕ) → bucket < BUCKETS → get_or heads bucket 0 ≡ newest_in bucket buckets

-- each bucket leads to its newest place, or there are no heads and the places are few; and each place leads to the next older one
pub record IsChained (links : List Link) (heads : List ℕ) : Type 0 where
  pub newest : 0 < length heads → AreHeads (buckets_of links) heads
  pub few : length heads ≡ 0 → length links ≤ FEW
  pub older : (index : ℕ) → index < length links → IsLink (take index (buckets_of links)) (link_at links index)
