-- Pages that are chosen, one more at a time.
use Rattle.std.proofs.Common.{◌≡◌, ◌⊎◌, ◌+◌, ◌<◌, ◌≤◌, ℕ, List, Option, Some, None, [], ◌∷◌, ◌++◌, All, Contains, IsSomeAnd, IsTrue, is_some, length, inl, inr, refl, subst, arith}
use Rattle.std.proofs.lemmas.List.{length-append}
use Rattle.std.proofs.lemmas.Bool.{cases_eq, cases_lt}
use Rattle.std.proofs.lemmas.List.Elements.{All-head, All-push, All-weaker, Contains-append_cases, Contains-append_left, Contains-append_right}
use Rattle.shore_disk.specs.declared.device.Disk.{Ghosts}
use Rattle.shore_dwrite.proofs.Growing.{rise_on}
use Rattle.shore_pool.proofs.Same.{contains_one}
use Rattle.shore_pool.specs.declared.frame.Frame.{Frame}
use Rattle.shore_pool.specs.declared.pool.Pool.{Pool}
use Rattle.shore_pool.specs.FrameMaps.{IsDue}
use Rattle.shore_pool.specs.Batches.{AreDue, AreFirstFrom, IsChosen}
use Rattle.shore_pool.specs.Pages.{AreUpTo}
use Rattle.shore_pool.specs.Pools.{frame_at}

module _ {D : Type 0} {G : Ghosts D} (pool : Pool D G) (start durable : ℕ) where
  pub chosen_more : (pages : List ℕ) (from count n : ℕ) → IsChosen pool start durable pages from count → from ≤ n → IsSomeAnd (frame_at pool n) (IsDue durable)
      → ((j : ℕ) (f : Frame) → frame_at pool j ≡ Some f → from ≤ j → j < n → IsDue durable f → ⊥) → IsChosen pool start durable (pages ++ n ∷ []) (n + 1) (count + 1)
  chosen_more pages from count n chosen low due least = record {
    rise = rise_on 0 pages n chosen.rise (All-weaker (λ k. k < from) (λ k. k < n) (λ k less. omega (arith, less, low)) pages chosen.below) (omega arith);
    least = All-push (λ k. start ≤ k) pages n chosen.least (let low_is = chosen.low in omega (arith, low_is, low));
    below = All-push (λ k. k < n + 1) pages n (All-weaker (λ k. k < from) (λ k. k < n + 1) (λ k less. omega (arith, less, low)) pages chosen.below) (omega arith);
    all = λ k f is due_k from_start below. elim (cases_lt k from) [
      | inl before ↦ Contains-append_left pages (n ∷ []) k (chosen.all k f is due_k from_start before)
      | inr after ↦ elim (cases_eq k n) [
        | inl same ↦ Contains-append_right pages (n ∷ []) k (subst (λ (j : ℕ). Contains (j ∷ []) k) same (0, omega arith, refl))
        | inr other ↦ absurd (least k f is after (omega (arith, below, other)) due_k)
      ]
    ];
    due = All-push (λ k. IsSomeAnd (frame_at pool k) (IsDue durable)) pages n chosen.due due;
    count_is = omega (arith, length-append pages (n ∷ []), chosen.count_is);
    low = (let low_is = chosen.low in omega (arith, low_is, low));
  }

  -- if none is due from a number on, these are all
  pub whole_batch : (pages : List ℕ) (from count : ℕ) → IsChosen pool start durable pages from count
      → ((k : ℕ) (f : Frame) → frame_at pool k ≡ Some f → from ≤ k → IsDue durable f → ⊥) → AreFirstFrom pool start durable pages
  whole_batch pages from count chosen none k f is due from_start = elim (cases_lt k from) [
    | inl before ↦ inl (chosen.all k f is due from_start before)
    | inr after ↦ absurd (none k f is after due)
  ]

  -- as many as a batch may have
  pub cut_batch : (pages : List ℕ) (from count : ℕ) → IsChosen pool start durable pages from count → count ≡ 32 → AreFirstFrom pool start durable pages
  cut_batch pages from count chosen full k f is due from_start = elim (cases_lt k from) [
    | inl before ↦ inl (chosen.all k f is due from_start before)
    | inr after ↦ inr (omega (arith, chosen.count_is, full), All-weaker (λ n. n < from) (λ n. n < k) (λ n less. omega (arith, less, after)) pages chosen.below)
  ]

  -- the page that the search begins with is one of them, if it is due
  pub has_first : (pages : List ℕ) → AreFirstFrom pool start durable pages → All (λ k. start ≤ k) pages → IsSomeAnd (frame_at pool start) (IsDue durable) → Contains pages start
  has_first pages first least due = each (frame_at pool start) refl due
    where
      before_none : (l : List ℕ) → length l ≡ 32 → All (λ k. start ≤ k) l → All (λ n. n < start) l → ⊥
      before_none [] long above below = absurd (omega arith)
      before_none (k ∷ l) long above below = omega (arith, All-head (λ k. start ≤ k) k l above, All-head (λ n. n < start) k l below)

      each : (slot : Option Frame) → frame_at pool start ≡ slot → IsSomeAnd slot (IsDue durable) → Contains pages start
      each None is due = absurd due
      each (Some f) is due = elim (first start f is due (omega arith)) [
        | inl one ↦ one
        | inr (long, below) ↦ absurd (before_none pages long least below)
      ]

-- what is due has a number that is durable
pub up_to : {D : Type 0} {G : Ghosts D} (pool : Pool D G) (durable : ℕ) (pages : List ℕ) → AreDue pool durable pages → AreUpTo (frame_at pool) durable pages
up_to pool durable pages due = All-weaker (λ k. IsSomeAnd (frame_at pool k) (IsDue durable)) (λ k. IsSomeAnd (frame_at pool k) (λ f. f.page.number ≤ durable)) (λ k is. each (frame_at pool k) is) pages due
  where
    each : (slot : Option Frame) → IsSomeAnd slot (IsDue durable) → IsSomeAnd slot (λ f. f.page.number ≤ durable)
    each None is = absurd is
    each (Some f) is = is.1

-- pages that are due are in frames
pub are_there : {D : Type 0} {G : Ghosts D} (pool : Pool D G) (durable : ℕ) (pages : List ℕ) → AreDue pool durable pages → All (λ k. IsTrue (is_some (frame_at pool k))) pages
are_there pool durable pages due = All-weaker (λ k. IsSomeAnd (frame_at pool k) (IsDue durable)) (λ k. IsTrue (is_some (frame_at pool k))) (λ k is. each (frame_at pool k) is) pages due
  where
    each : (slot : Option Frame) → IsSomeAnd slot (IsDue durable) → IsTrue (is_some slot)
    each None is = absurd is
    each (Some f) is = refl

pub cases_contains : (pages : List ℕ) (k : ℕ) → Contains pages k ⊎ (Contains pages k → ⊥)
cases_contains [] k = inr (λ has. omega (arith, has.1))
cases_contains (n ∷ pages) k = elim (cases_eq n k) [
  | inl same ↦ inl (0, omega arith, same)
  | inr other ↦ elim (cases_contains pages k) [
    | inl has ↦ inl (Contains-append_right (n ∷ []) pages k has)
    | inr none ↦ inr (λ has. elim (Contains-append_cases (n ∷ []) pages k has) [ inl one ↦ other (contains_one n k one) | inr more ↦ none more ])
  ]
]
