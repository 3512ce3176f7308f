-- Marks on transactions, in buckets by their numbers.
use Rattle.std.specs.Prelude.{◌≡◌, ◌==◌, ◌<◌, ◌≤◌, ◌-◌, ◌%◌, ℕ, List, Bool, length, get_or, slice_index_or}
use Rattle.std.specs.List.{list_any}
use Rattle.shore_cycles.specs.declared.marks.Mark.{Mark}

-- the transaction is marked
abbrev pub is_marked : List ℕ → ℕ → Bool
is_marked marks t = list_any (λ u. u == t) marks

-- the mark at an index
abbrev pub mark_at : List Mark → ℕ → Mark
mark_at marks k = slice_index_or marks k (record { txn = 0; earlier = 0 })

abbrev pub bucket_at : List Mark → ℕ → ℕ
bucket_at marks k = (mark_at marks k).txn % 256

-- of the first marks, so many, the last in a bucket has this number: its index and 1, or 0 if there is none
pub record IsLastOf (marks : List Mark) (bucket end number : ℕ) : Type 0 where
  pub within : number ≤ end
  pub none_later : (k : ℕ) → number ≤ k → k < end → bucket_at marks k ≡ bucket → ⊥
  pub of_bucket : 0 < number → bucket_at marks (number - 1) ≡ bucket

-- each bucket leads to its last mark, and each mark to the one before it in its bucket
pub record IsIndexed (marks : List Mark) (newest : List ℕ) : Type 0 where
  pub buckets : length newest ≡ 256
  pub last : (b : ℕ) → b < 256 → IsLastOf marks b (length marks) (get_or newest b 0)
  pub before : (k : ℕ) → k < length marks → IsLastOf marks (bucket_at marks k) k (mark_at marks k).earlier
