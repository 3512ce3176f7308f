-- What a restart works with by the log that was found: the entries of those in doubt, and the room with what they have reserved.
use Rattle.std.proofs.Common.{◌≡◌, ◌↔◌, ◌+◌, ◌<◌, ◌≤◌, inl, ℕ, List, [], ◌∷◌, Bool, true, false, cond, Option, None, ap, ◌∙◌, length, map, arith}
use Rattle.std.specs.Prelude.{IsPermutation, IsSome, filter}
use Rattle.std.specs.List.{AllByRecursion}
use Rattle.std.proofs.lemmas.List.{length-map}
use Rattle.std.proofs.lemmas.List.Elements.{All-from_recursion, recursion_from_All}
use Rattle.std.proofs.lemmas.List.Sorted.{All-permutation}
use Rattle.shore_types.specs.declared.layout.TheConstants.{LAST_OPENED, LONGEST_FRAME, MAX_LOG_BYTES}
use Rattle.shore_model.specs.declared.log_records.LogRecord.{LogRecord}
use Rattle.shore_model.specs.declared.log_records.LogTxn.{LogTxn}
use Rattle.shore_model.specs.Logs.{HasNumbers, IsEntry, IsTable, is_prepared}
use Rattle.laws_lives.specs.Doubts.{LoggedDoubt}
use Rattle.shore_analysis.specs.Doubts.{doubts_left}
use Rattle.shore_analysis.specs.Padded.{padded}
use Rattle.laws_calls.specs.States.{cost_of_log}
use Rattle.shore_txn.specs.declared.log_room.LogRoom.{LogRoom}
use Rattle.shore_restart.specs.Doubts.{AreEntriesOfDoubts, reserved_told}
use Rattle.shore_restart.specs.Room.{HasSums, IsRoomBehind}
use Rattle.shore_restart.specs.Turns.{LacksRoom}
use Rattle.shore_restart.proofs.LogTurns.{no_some}

-- ---- entries

picked_numbers : (log : List LogRecord) (p : LogTxn → Bool) (es : List LogTxn) → AllByRecursion (IsEntry log) es → AllByRecursion (HasNumbers log) (filter p es)
picked_numbers log p [] entries = tt
picked_numbers log p (e ∷ es) entries = by (p e) (picked_numbers log p es entries.1)
  where
    by : (b : Bool) → AllByRecursion (HasNumbers log) (filter p es) → AllByRecursion (HasNumbers log) (cond b (e ∷ filter p es) (filter p es))
    by true rest = (entries.0.1, rest)
    by false rest = rest

pub are_entries : (log : List LogRecord) (txns found : List LogTxn) → IsTable log txns → IsPermutation (filter (λ e. is_prepared e.state) txns) found → map (λ e. e.txn) found ≡ map (λ d. d.txn) (doubts_left log)
    → AreEntriesOfDoubts log found
are_entries log txns found are moved order =
    let picked = filter (λ (e : LogTxn). is_prepared e.state) txns in
    record {
      order = order;
      numbers = recursion_from_All (HasNumbers log) found (All-permutation (HasNumbers log) picked found moved
          (All-from_recursion (HasNumbers log) picked (picked_numbers log (λ e. is_prepared e.state) txns (recursion_from_All (IsEntry log) txns are.each))));
    }

pub as_many_doubts : (log : List LogRecord) (found : List LogTxn) → map (λ e. e.txn) found ≡ map (λ d. d.txn) (doubts_left log) → length found ≡ length (doubts_left log)
as_many_doubts log found order =
    let same = ap length order in
    omega (arith, same, length-map found (λ (e : LogTxn). e.txn), length-map (doubts_left log) (λ (d : LoggedDoubt). d.txn))

-- ---- room

module _ (cut : ℕ) (kept : List LogRecord) (stream_bytes : ℕ) where
  abbrev owed : ℕ
  owed = reserved_told (padded cut kept)

  -- what is kept alone leaves none
  pub none_left : (o : Option LogRoom) → o ≡ None → (IsSome o ↔ ((cost_of_log kept + LONGEST_FRAME ≤ stream_bytes) × (stream_bytes ≤ MAX_LOG_BYTES))) → LacksRoom cut kept stream_bytes
  none_left o none leaves_if = inl (λ leaves. no_some o none (leaves_if.1 (let frame = leaves.frame in omega (arith, frame), leaves.short)))

  module _ (room : LogRoom) (sums : HasSums stream_bytes (cost_of_log kept) 0 room) where
    -- .. none for what is reserved
    pub none_reserved : room.stream_bytes < room.kept + owed + LONGEST_FRAME → LacksRoom cut kept stream_bytes
    none_reserved less =
        let stream = sums.stream in
        let kept_is = sums.kept_is in
        inl (λ leaves. let frame = leaves.frame in omega (arith, less, stream, kept_is, frame))

    module _ (full : LogRoom) (has : HasSums room.stream_bytes room.kept owed full) (last : ℕ) (is : last ≡ cut + length kept) where
      -- .. or no numbers for that
      pub none_numbered : (last + full.reserved < LAST_OPENED → ⊥) → LacksRoom cut kept stream_bytes
      none_numbered none = inl (λ leaves. let numbers = leaves.numbers in let reserved = has.reserved_is in none (omega (arith, numbers, reserved, is)))

      -- .. or it leaves both
      pub room_reserved : last + full.reserved < LAST_OPENED → stream_bytes ≤ MAX_LOG_BYTES → room.kept + owed + LONGEST_FRAME ≤ room.stream_bytes → IsRoomBehind cut kept stream_bytes full
      room_reserved numbers short holds =
          let stream = sums.stream in
          let kept_is = sums.kept_is in
          let reserved = has.reserved_is in
          record {
            leaves = record { frame = omega (arith, holds, stream, kept_is); numbers = omega (arith, numbers, reserved, is); short = short };
            stream = has.stream ∙ sums.stream;
            kept_is = has.kept_is ∙ sums.kept_is;
            reserved = has.reserved_is;
          }
