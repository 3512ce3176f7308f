-- The room of a log that is a ring, with a checkpoint under way: beside what the kept records cost and what is reserved for transactions, what the
-- checkpoint still has to log.
use Rattle.std.specs.Prelude.{◌≡◌, ◌<◌, ◌≤◌, ◌+◌, ◌-◌, ◌*◌, ℕ, List, [], ◌∷◌}
use Rattle.shore_types.specs.declared.layout.TheConstants.{ENDING_COST, GREATEST_CHECKPOINT, LAST_LSN, LAST_OPENED, LONGEST_FRAME, MAX_LOG_BYTES}
use Rattle.laws_room.specs.CutRooms.{cut_room}
use Rattle.laws_room.specs.LogRooms.{LogRoom}

pub record RingRoom : Type 0 where
  -- of all records, those cut off among them: what these cost more may be logged
  pub room : LogRoom
  -- what the checkpoint under way still has to log: its End and its Anchor record, or the latter; 0 if none is under way
  pub to_log : ℕ

-- what the Anchor record costs
abbrev pub ANCHOR_COST : ℕ
ANCHOR_COST = ENDING_COST + 16

-- what an End costs with so many transactions and dirty pages in its tables
abbrev pub end_cost : ℕ → ℕ → ℕ
end_cost txns pages = ENDING_COST + 20 + 41 * txns + 16 * pages

-- what the whole checkpoint costs
abbrev pub checkpoint_cost : ℕ → ℕ → ℕ
checkpoint_cost txns pages = ENDING_COST + end_cost txns pages + ANCHOR_COST

-- Calls that log so much in so many records and reserve so much more, one after another, are not LogFull.
pub record AdmitsCalls (room : LogRoom) (cost more records : ℕ) : Type 0 where
  pub numbers : room.last_lsn + records ≤ LAST_LSN
  pub fits : room.kept + room.reserved + cost + more + LONGEST_FRAME + GREATEST_CHECKPOINT ≤ room.stream_bytes
  pub each : records ≤ cost

-- A checkpoint of this cost is not LogFull, where the forced frames that lie wholly below the tail that it will name cost so much.
pub record AdmitsCheckpoint (room : LogRoom) (cost freed : ℕ) : Type 0 where
  pub numbers : room.last_lsn < LAST_LSN
  pub fits : room.kept + room.reserved + cost + LONGEST_FRAME ≤ room.stream_bytes
  pub leaves : room.kept + room.reserved + cost + LONGEST_FRAME + GREATEST_CHECKPOINT ≤ room.stream_bytes + freed

-- `LogCalls cost more records`: admitted calls. `PayRecords cost freed records`: records that were reserved for, and at least as much is no longer
-- reserved; no record costs less than a byte. Then the steps of a checkpoint; `CutFront` frees frames, once the anchor has moved: as much more may be logged,
-- and no more room is left than the longest stream has.
pub data RingStep : Type 0 where
  LogCalls : ℕ → ℕ → ℕ → RingStep
  PayRecords : ℕ → ℕ → ℕ → RingStep
  LogBegin : ℕ → ℕ → ℕ → RingStep
  LogEnd : ℕ → RingStep
  LogAnchor : RingStep
  CutFront : ℕ → RingStep

-- a record of the checkpoint is logged
abbrev pub checkpoint_logged : ℕ → LogRoom → LogRoom
checkpoint_logged cost room = record room { kept = room.kept + cost; last_lsn = room.last_lsn + 1 }

abbrev pub RingLeadsTo : RingRoom → RingStep → RingRoom → Type 0
RingLeadsTo r (LogCalls cost more records) new = AdmitsCalls r.room cost more records
    × (new ≡ record r { room = record r.room { kept = r.room.kept + cost; reserved = r.room.reserved + more; last_lsn = r.room.last_lsn + records } })
RingLeadsTo r (PayRecords cost freed records) new = (cost ≤ freed) × (freed ≤ r.room.reserved) × (records ≤ cost)
    × (new ≡ record r { room = record r.room { kept = r.room.kept + cost; reserved = r.room.reserved - freed; last_lsn = r.room.last_lsn + records } })
RingLeadsTo r (LogBegin txns pages freed) new = (r.to_log ≡ 0) × (checkpoint_cost txns pages ≤ GREATEST_CHECKPOINT) × AdmitsCheckpoint r.room (checkpoint_cost txns pages) freed
    × (new ≡ record { room = checkpoint_logged ENDING_COST r.room; to_log = end_cost txns pages + ANCHOR_COST })
RingLeadsTo r (LogEnd cost) new = (ENDING_COST ≤ cost) × (cost + ANCHOR_COST ≡ r.to_log) × (new ≡ record { room = checkpoint_logged cost r.room; to_log = ANCHOR_COST })
RingLeadsTo r LogAnchor new = (r.to_log ≡ ANCHOR_COST) × (new ≡ record { room = checkpoint_logged ANCHOR_COST r.room; to_log = 0 })
RingLeadsTo r (CutFront freed) new = (r.room.stream_bytes + freed ≤ r.room.kept + MAX_LOG_BYTES) × (new ≡ record r { room = cut_room freed r.room })

abbrev pub RingLeadTo : RingRoom → List RingStep → RingRoom → Type 0
RingLeadTo r [] last = last ≡ r
RingLeadTo r (e ∷ steps) last = (new : RingRoom) × RingLeadsTo r e new × RingLeadTo new steps last

-- All that may still be logged without being asked for has its room, and the longest frame besides; and numbers, since no record costs less than a byte.
pub record HasRingRoom (r : RingRoom) : Type 0 where
  pub fits : r.room.kept + r.room.reserved + r.to_log + LONGEST_FRAME ≤ r.room.stream_bytes
  pub numbers : r.room.last_lsn + r.room.reserved + r.to_log < LAST_OPENED
  pub short : r.room.stream_bytes ≤ r.room.kept + MAX_LOG_BYTES
  pub most : r.to_log + ENDING_COST ≤ GREATEST_CHECKPOINT

-- ---- a ring that is full

-- no call and no checkpoint will be admitted again, whatever is paid for: only a cut makes room, and only a checkpoint cuts
pub record IsFullForGood (r : RingRoom) : Type 0 where
  pub no_call : (cost more records : ℕ) → ENDING_COST ≤ cost + more → AdmitsCalls r.room cost more records → ⊥
  pub no_checkpoint : (txns pages freed : ℕ) → AdmitsCheckpoint r.room (checkpoint_cost txns pages) freed → ⊥
  pub none_reserved : r.room.reserved ≡ 0

-- a stream of a megabyte with so much in it
abbrev pub of_a_megabyte : ℕ → ℕ → ℕ → ℕ → RingRoom
of_a_megabyte kept reserved last_lsn to_log = record { room = record { kept = kept; reserved = reserved; stream_bytes = 1048576; last_lsn = last_lsn }; to_log = to_log }

-- calls up to their limit, a checkpoint with full tables whose anchor is never moved, since power is lost before, and what is left is rolled back
abbrev pub filled_by_crash : List RingStep
filled_by_crash = LogCalls 480000 476009 1000 ∷ LogBegin 256 1024 400000 ∷ LogEnd 26934 ∷ LogAnchor ∷ PayRecords 476009 476009 1000 ∷ []

-- a checkpoint with full tables that frees nothing, calls up to their limit before its End, and rollbacks behind it
abbrev pub filled_by_calls : List RingStep
filled_by_calls = LogCalls 100000 120000 1000 ∷ LogBegin 256 1024 0 ∷ LogCalls 400000 335975 1000 ∷ LogEnd 26934 ∷ LogAnchor ∷ PayRecords 455975 455975 2000 ∷ []
