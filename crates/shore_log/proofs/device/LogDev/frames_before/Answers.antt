use Rattle.std.proofs.Common.{◌≡◌, ◌≤◌, ◌<◌, ◌+◌, ℕ, List, length, leb, leb-true, leb-false, subst, sym, ap, ◌∙◌, arith, rules}
use Rattle.std.specs.Prelude.{slice_get, slice_index_or}
use Rattle.std.specs.List.Sorted.{IsNonDecreasingBy}
use Rattle.std.proofs.lemmas.List.Sorted.{IsPartitionPoint-from_clause, IsPartitionedBy-leb}
use Rattle.shore_frames.specs.declared.reading.FrameAt.{FrameAt}
use Rattle.shore_log.specs.Indexes.{IsInGroup, frame_with}
use Rattle.shore_log.proofs.CutLemmas.{in_group, listed_of, listed_rises, none_low, one_before, some_low, with_at, with_below}
use Rattle.shore_log.proofs.device.LogDev.frames_before.Goals as goal

pub returns-clause-holds : goal.returns-clause-holds
returns-clause-holds g c tail place groups is least below =
    let log = c.args.self.now in
    let xs = c.deref.result.now in
    let number = c.args.number in
    let n = c.number.inside.0 in
    let i = c.partition_point-not_behind.result in
    let same : n ≡ number = cc c.number.view_is in
    let listed = c.deref.ensures.value in
    let next = log.tail.first + log.forced in
    let rises = listed_rises log.head next log.frames.items (listed_of log.head next log.frames.items log.listed) in
    let parted = IsPartitionedBy-leb (λ (f : FrameAt). f.first) xs n (subst (IsNonDecreasingBy (λ (f : FrameAt). f.first)) (sym listed) rises) in
    let point = IsPartitionPoint-from_clause (λ (f : FrameAt). leb f.first n) xs i c.partition_point-not_behind.ensures.partitioned parted (λ a r q k. search rules) in
    let low : (k : ℕ) (d : FrameAt) → k < i → (slice_index_or xs k d).first ≤ number = λ k d lt. let le = leb-true _ _ (point.0 k d (omega arith) lt) in omega (arith, le, same) in
    let high : (k : ℕ) (d : FrameAt) → i ≤ k → k < length xs → number < (slice_index_or xs k d).first = λ k d le lt. let over = leb-false _ _ (point.1 k d le lt) in omega (arith, over, same) in
    let lows = subst (λ (l : List FrameAt). (k : ℕ) (d : FrameAt) → k < i → (slice_index_or l k d).first ≤ number) listed low in
    let highs = subst (λ (l : List FrameAt). (k : ℕ) (d : FrameAt) → i ≤ k → k < length l → number < (slice_index_or l k d).first) listed high in
    let within = subst (λ (l : List FrameAt). i ≤ length l) listed c.partition_point-not_behind.ensures.bound in
    subst (IsInGroup tail groups number) (sym c.saturating_sub.ensures)
    (in_group tail place groups number i least below
    (subst (λ (l : List FrameAt). (k : ℕ) (d : FrameAt) → k < i → (slice_index_or l k d).first ≤ number) is lows)
    (subst (λ (l : List FrameAt). (k : ℕ) (d : FrameAt) → i ≤ k → k < length l → number < (slice_index_or l k d).first) is highs)
    (subst (λ (l : List FrameAt). i ≤ length l) is within))

pub returns-clause-low : goal.returns-clause-low
returns-clause-low g c below =
    let log = c.args.self.now in
    let xs = c.deref.result.now in
    let number = c.args.number in
    let n = c.number.inside.0 in
    let i = c.partition_point-not_behind.result in
    let same : n ≡ number = cc c.number.view_is in
    let listed = c.deref.ensures.value in
    let next = log.tail.first + log.forced in
    let rises = listed_rises log.head next log.frames.items (listed_of log.head next log.frames.items log.listed) in
    let parted = IsPartitionedBy-leb (λ (f : FrameAt). f.first) xs n (subst (IsNonDecreasingBy (λ (f : FrameAt). f.first)) (sym listed) rises) in
    let point = IsPartitionPoint-from_clause (λ (f : FrameAt). leb f.first n) xs i c.partition_point-not_behind.ensures.partitioned parted (λ a r q k. search rules) in
    let low : (k : ℕ) (d : FrameAt) → k < i → (slice_index_or xs k d).first ≤ number = λ k d lt. let le = leb-true _ _ (point.0 k d (omega arith) lt) in omega (arith, le, same) in
    let high : (k : ℕ) (d : FrameAt) → i ≤ k → k < length xs → number < (slice_index_or xs k d).first = λ k d le lt. let over = leb-false _ _ (point.1 k d le lt) in omega (arith, over, same) in
    let lows = subst (λ (l : List FrameAt). (k : ℕ) (d : FrameAt) → k < i → (slice_index_or l k d).first ≤ number) listed low in
    let highs = subst (λ (l : List FrameAt). (k : ℕ) (d : FrameAt) → i ≤ k → k < length l → number < (slice_index_or l k d).first) listed high in
    let within = subst (λ (l : List FrameAt). i ≤ length l) listed c.partition_point-not_behind.ensures.bound in
    let begins = log.begins.0 in
    let none = none_low next log.frames.items number i (omega (arith, below, begins)) within lows in
    omega (arith, c.saturating_sub.ensures, none)

pub returns-clause-is : goal.returns-clause-is
returns-clause-is g c some least =
    let log = c.args.self.now in
    let xs = c.deref.result.now in
    let number = c.args.number in
    let n = c.number.inside.0 in
    let i = c.partition_point-not_behind.result in
    let same : n ≡ number = cc c.number.view_is in
    let listed = c.deref.ensures.value in
    let next = log.tail.first + log.forced in
    let rises = listed_rises log.head next log.frames.items (listed_of log.head next log.frames.items log.listed) in
    let parted = IsPartitionedBy-leb (λ (f : FrameAt). f.first) xs n (subst (IsNonDecreasingBy (λ (f : FrameAt). f.first)) (sym listed) rises) in
    let point = IsPartitionPoint-from_clause (λ (f : FrameAt). leb f.first n) xs i c.partition_point-not_behind.ensures.partitioned parted (λ a r q k. search rules) in
    let low : (k : ℕ) (d : FrameAt) → k < i → (slice_index_or xs k d).first ≤ number = λ k d lt. let le = leb-true _ _ (point.0 k d (omega arith) lt) in omega (arith, le, same) in
    let high : (k : ℕ) (d : FrameAt) → i ≤ k → k < length xs → number < (slice_index_or xs k d).first = λ k d le lt. let over = leb-false _ _ (point.1 k d le lt) in omega (arith, over, same) in
    let lows = subst (λ (l : List FrameAt). (k : ℕ) (d : FrameAt) → k < i → (slice_index_or l k d).first ≤ number) listed low in
    let highs = subst (λ (l : List FrameAt). (k : ℕ) (d : FrameAt) → i ≤ k → k < length l → number < (slice_index_or l k d).first) listed high in
    let within = subst (λ (l : List FrameAt). i ≤ length l) listed c.partition_point-not_behind.ensures.bound in
    let begins = log.begins.0 in
    let one = some_low next log.frames.items number i some (omega (arith, least, begins)) highs in
    ap (slice_get log.frames.items) c.saturating_sub.ensures ∙ one_before log.frames.items i log.tail (frame_with number log.tail log.frames.items) one (with_at log.frames.items number i log.tail within lows highs)

pub returns-clause-below : goal.returns-clause-below
returns-clause-below g c some least = with_below c.args.self.now.frames.items c.args.number c.args.self.now.tail least
