-- Logs of which the prefixes that a crash may leave are roomy.
use Rattle.std.proofs.Common.{◌≡◌, ⊎_elim, ◌++◌, ◌+◌, ◌≤◌, ℕ, List, [], ◌∷◌, sym, subst, length, take, take_all, arith}
use Rattle.std.proofs.lemmas.List.{length-take, take-append-le, take-take}
use Rattle.shore_types.specs.declared.layout.Geometry.{Geometry}
use Rattle.shore_model.specs.declared.log_records.LogRecord.{LogRecord}
use Rattle.laws_lives.proofs.Lists.{take-beyond, within_or_beyond}
use Rattle.laws_runs.specs.RoomyLogs.{AreRoomy, IsPlacedLog, IsRoomyLog}

module _ (g : Geometry) (stream_bytes : ℕ) where
  pub whole_roomy : (least : ℕ) (log : List LogRecord) → AreRoomy g stream_bytes least log → IsRoomyLog g stream_bytes log
  whole_roomy least log h = subst (IsRoomyLog g stream_bytes) (take_all (least + length log) log (omega arith)) (h.roomy (least + length log) (omega arith))

  pub whole_placed : (least : ℕ) (log : List LogRecord) → AreRoomy g stream_bytes least log → IsPlacedLog g log
  whole_placed least log h = (whole_roomy least log h).placed

  -- fewer prefixes may be left
  pub later_roomy : (least more : ℕ) (log : List LogRecord) → least ≤ more → AreRoomy g stream_bytes least log → AreRoomy g stream_bytes more log
  later_roomy least more log le h = record { placed = h.placed; roomy = λ n from. h.roomy n (omega arith) }

  -- what holds of the prefixes of a log and of it with one record more
  pushed : (P : List LogRecord → Type 0) (log : List LogRecord) (r : LogRecord) (n : ℕ) → P (take n log) → P (log ++ r ∷ []) → P (take n (log ++ r ∷ []))
  pushed P log r n old new =
      ⊎_elim
      (λ less. subst P (sym (take-append-le n log (r ∷ []) less)) old)
      (λ beyond. subst P (sym (take-beyond n log r beyond)) new)
      (within_or_beyond n (length log))

  pub push_roomy : (least : ℕ) (log : List LogRecord) (r : LogRecord) → AreRoomy g stream_bytes least log → IsRoomyLog g stream_bytes (log ++ r ∷ [])
      → AreRoomy g stream_bytes least (log ++ r ∷ [])
  push_roomy least log r h new = record {
    placed = λ n. pushed (IsPlacedLog g) log r n (h.placed n) new.placed;
    roomy = λ n le. pushed (IsRoomyLog g stream_bytes) log r n (h.roomy n le) new;
  }

  -- what a crash leaves: all of it is durable then
  pub left_roomy : (least : ℕ) (log : List LogRecord) (k : ℕ) → least ≤ k → AreRoomy g stream_bytes least log → AreRoomy g stream_bytes k (take k log)
  left_roomy least log k le h = record {
    placed = λ n. ⊎_elim
        (λ within. subst (IsPlacedLog g) (sym (take-take n k log within)) (h.placed n))
        (λ beyond. subst (IsPlacedLog g) (sym (all n (omega arith))) (h.placed k))
        (within_or_beyond n k);
    roomy = λ n from. subst (IsRoomyLog g stream_bytes) (sym (all n from)) (h.roomy k le);
  }
    where
      all : (n : ℕ) → k ≤ n → take n (take k log) ≡ take k log
      all n from = let short = length-take k log in take_all n (take k log) (omega arith)
