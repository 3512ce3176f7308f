-- What the log device under its lock has to write, and the place and the memory for it.
use Rattle.std.proofs.Common.{◌≡◌, ◌≤◌, ◌+◌, ◌-◌, ℕ, List, [], ◌++◌, length, take, drop, refl, sym, ◌∙◌, ap, subst, arith, append-nil, length-append, length-drop, Option, None, Some, Result, Err, inl, inr}
use Rattle.std.specs.Prelude.{◌⊎◌, IsSome}
use Rattle.std.specs.Global.{Vec}
use Rattle.std.proofs.lemmas.List.{length-take-le, take-append-drop, take_at}
use Rattle.shore_types.specs.declared.faults.Fault.{Fault}
use Rattle.shore_disk.specs.Device.{size}
use Rattle.shore_disk.specs.declared.device.Disk.{Ghosts}
use Rattle.shore_logrec.specs.Text.{texts}
use Rattle.shore_frames.specs.Frames.{IsLongest}
use Rattle.shore_frames.specs.declared.reading.FrameAt.{FrameAt}
use Rattle.shore_model.specs.declared.log_records.LogRecord.{LogRecord}
use Rattle.shore_log.specs.Listed.{all_in}
use Rattle.shore_log.specs.declared.device.LogDev.{LogDev}
use Rattle.shore_log.specs.Settled.{HasList, HasNoFrameRoom, IsSpelled, records_of_log, stable, waiting}
use Rattle.shore_held.specs.Logs.{HasNoPlace, LogState, free_of, textless_of, unforced_in}

-- no text is missing where each record came through the queue
some_spelled : (read : Option (Vec LogRecord)) (count forced : ℕ) → textless_of read (count - forced) ≡ 0 → IsSome read → count ≤ forced
some_spelled None count forced none some = absurd cc
some_spelled (Some v) count forced none some = omega (arith, none)

none_textless : (read : Option (Vec LogRecord)) (count forced : ℕ) → (IsSome read → count ≤ forced) → textless_of read (count - forced) ≡ 0
none_textless None count forced spelled = refl
none_textless (Some v) count forced spelled = omega (arith, spelled refl)

module _ {L : Type 0} {G : Ghosts L} (log : LogDev L G) where
  pub is_spelled : textless_of log.read (log.count - log.forced) ≡ 0 → IsSpelled log
  is_spelled none = some_spelled log.read log.count log.forced none

  pub is_textless : IsSpelled log → textless_of log.read (log.count - log.forced) ≡ 0
  is_textless spelled = none_textless log.read log.count log.forced spelled

  -- what is to be forced of what it took in
  taken_waits : (waits : List LogRecord) → drop (length (stable log)) (take (length (records_of_log log ++ waits) - length waits) (records_of_log log ++ waits)) ≡ waiting log
  taken_waits waits =
      let rs = records_of_log log in
      let count : length (rs ++ waits) - length waits ≡ length rs = omega (arith, length-append rs waits) in
      ap (λ (n : ℕ). drop (length (stable log)) (take n (rs ++ waits))) count ∙ ap (drop (length (stable log))) (take_at rs waits (length rs) refl)
      ∙ ap (λ (n : ℕ). drop n rs) (length-take-le log.forced rs log.forced_inside)

  -- .. as contracts see it
  pub no_place : (s : LogState) → s.stable ≡ stable log → s.list ≡ records_of_log log ++ s.waits → s.free ≡ free_of log → HasNoFrameRoom log → HasNoPlace s
  no_place s forced list free room =
      let same : unforced_in s ≡ waiting log = (λ i. drop (length (forced i)) (take (length (list i) - length s.waits) (list i))) ∙ taken_waits s.waits in
      let long : length (texts (take room.count (unforced_in s))) ≡ length (texts (take room.count (waiting log))) = ap (λ (rs : List LogRecord). length (texts (take room.count rs))) same in
      record {
        count = room.count;
        some = room.some;
        longest = subst (λ (rs : List LogRecord). IsLongest rs room.count) (sym same) room.longest;
        full = omega (arith, free, room.full, long);
      }

  -- nothing waits, or there is no place
  pub none_or_full : (s : LogState) → s.stable ≡ stable log → s.list ≡ records_of_log log ++ s.waits → s.free ≡ free_of log → (waiting log ≡ []) ⊎ HasNoFrameRoom log
      → (s.list ≡ s.stable ++ s.waits) ⊎ HasNoPlace s
  none_or_full s forced list free (inl none) =
      inl (list ∙ ap (λ (l : List LogRecord). l ++ s.waits) (sym (take-append-drop log.forced (records_of_log log)) ∙ ap (λ (l : List LogRecord). stable log ++ l) none ∙ append-nil (stable log) ∙ sym forced))
  none_or_full s forced list free (inr full) = inr (no_place s forced list free full)

-- ---- a log device that has changed little

same_textless : (o n : Option (Vec LogRecord)) (count forced : ℕ) → (IsSome o → IsSome n) → ((IsSome o → count ≤ forced) → IsSome n → count ≤ forced) → textless_of n (count - forced) ≡ textless_of o (count - forced)
same_textless None None count forced has spelled = refl
same_textless None (Some v) count forced has spelled = omega (arith, spelled (λ some. absurd cc) refl)
same_textless (Some v) None count forced has spelled = absurd (let clash = has refl in absurd cc)
same_textless (Some v) (Some w) count forced has spelled = refl

module _ {L : Type 0} {G : Ghosts L} (old new : LogDev L G) where
  pub free_same : new.tail ≡ old.tail → new.head ≡ old.head → size (G.history new.device) ≡ size (G.history old.device) → free_of new ≡ free_of old
  free_same tail head long =
      let place : new.tail.place ≡ old.tail.place = ap (λ (f : FrameAt). f.place) tail in
      let stream : new.stream_bytes ≡ old.stream_bytes = omega (arith, new.as_long, old.as_long, long) in
      (λ i. place i + stream i - head i)

  counted_same : records_of_log new ≡ records_of_log old → new.count ≡ old.count
  counted_same records = omega (
    arith,
    new.counted,
    old.counted,
    ap length records,
    length-drop old.gone (all_in old.found.items old.later.items),
    length-drop new.gone (all_in new.found.items new.later.items),
  )

  pub textless_same : records_of_log new ≡ records_of_log old → new.forced ≡ old.forced → (HasList old → HasList new) → (IsSpelled old → IsSpelled new)
      → textless_of new.read (new.count - new.forced) ≡ textless_of old.read (old.count - old.forced)
  textless_same records forced has spelled =
      let count = counted_same records in
      (λ i. textless_of new.read (count i - forced i))
      ∙ same_textless old.read new.read old.count old.forced has (subst (λ (n : ℕ). IsSpelled old → IsSome new.read → n ≤ old.forced) count (subst (λ (n : ℕ). IsSpelled old → IsSome new.read → new.count ≤ n) forced spelled))

  pub forced_same : stable new ≡ stable old → new.forced ≡ old.forced
  forced_same same = omega (arith, ap length same, length-take-le new.forced (records_of_log new) new.forced_inside, length-take-le old.forced (records_of_log old) old.forced_inside)

-- the same fault of another answer
pub same_fault : {A B : Type 0} (fault other : Fault) → ◌≡◌ {A = Result A Fault} (Err fault) (Err other) → ◌≡◌ {A = Result B Fault} (Err fault) (Err other)
same_fault fault other is = let same : fault ≡ other = cc in ap Err same
