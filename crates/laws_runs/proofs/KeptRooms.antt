-- The room of a manager with checkpoints, counted by what is kept in the ring.
use Rattle.std.proofs.Common.{◌≡◌, ◌+◌, ◌<◌, ◌≤◌, ℕ, List, length, take, drop, arith}
use Rattle.shore_types.specs.declared.layout.Geometry.{Geometry}
use Rattle.shore_types.specs.declared.layout.TheConstants.{GREATEST_CHECKPOINT, LAST_LSN, LONGEST_FRAME}
use Rattle.shore_model.specs.declared.histories.Entry.{Entry}
use Rattle.shore_model.specs.declared.histories.Opening.{Opening}
use Rattle.shore_model.specs.declared.log_records.LogRecord.{LogRecord}
use Rattle.laws_calls.specs.States.{HasRoomFor, cost_of_log, log_room}
use Rattle.laws_checkpoints.specs.Checkpoints.{Checkpoint, cut_of}
use Rattle.laws_checkpoints.specs.RingRooms.{checkpoint_cost}
use Rattle.laws_runs.proofs.MovedAnchors.{cost_in_parts}
use Rattle.laws_runs.specs.CheckpointSteps.{CheckpointedState, IsAdmitted, freed_to, owed_to}
use Rattle.laws_runs.specs.CheckpointedStates.{IsAtCheckpoints}

module _ (g : Geometry) (ring_bytes : ℕ) (o : Opening) (found : List LogRecord) (es : List Entry) (m : CheckpointedState) (k : IsAtCheckpoints g ring_bytes o found es m) where
  -- what is kept costs
  abbrev pub kept_cost : ℕ
  kept_cost = cost_of_log (drop (cut_of m.store.anchored) m.state.log)

  parts : cost_of_log m.state.log ≡ cost_of_log (take (cut_of m.store.anchored) m.state.log) + kept_cost
  parts = cost_in_parts m.state.log (cut_of m.store.anchored)

  pub kept_fits : kept_cost + (log_room m.state).reserved + owed_to m.store.stage + LONGEST_FRAME ≤ ring_bytes
  kept_fits = let fits = k.room.fits in let limit = k.limit in let whole = parts in omega (arith, fits, limit, whole)

  pub admits_kept : (need : ℕ) → HasRoomFor m.state need
      → (length m.state.log < LAST_LSN) × (kept_cost + (log_room m.state).reserved + need + LONGEST_FRAME + GREATEST_CHECKPOINT ≤ ring_bytes)
  admits_kept need h = let fits = h.1 in let limit = k.limit in let whole = parts in (h.0, omega (arith, fits, limit, whole))

  pub kept_admits : (need : ℕ) → (length m.state.log < LAST_LSN) × (kept_cost + (log_room m.state).reserved + need + LONGEST_FRAME + GREATEST_CHECKPOINT ≤ ring_bytes)
      → HasRoomFor m.state need
  kept_admits need h = let fits = h.1 in let limit = k.limit in let whole = parts in (h.0, omega (arith, fits, limit, whole))

  module _ (c : Checkpoint) (kept_from : ℕ) where
    abbrev pub cost : ℕ
    cost = checkpoint_cost (length c.txns) (length c.dirty)

    pub begin_kept : IsAdmitted m c kept_from → (length m.state.log < LAST_LSN) × (kept_cost + (log_room m.state).reserved + cost + LONGEST_FRAME ≤ ring_bytes)
        × (kept_cost + (log_room m.state).reserved + cost + LONGEST_FRAME + GREATEST_CHECKPOINT ≤ ring_bytes + freed_to m kept_from)
    begin_kept h =
        let fits = h.fits in
        let leaves = h.leaves in
        let limit = k.limit in
        let whole = parts in
        (h.numbers, omega (arith, fits, limit, whole), omega (arith, leaves, limit, whole))

    pub kept_begin : (length m.state.log < LAST_LSN) × (kept_cost + (log_room m.state).reserved + cost + LONGEST_FRAME ≤ ring_bytes)
        × (kept_cost + (log_room m.state).reserved + cost + LONGEST_FRAME + GREATEST_CHECKPOINT ≤ ring_bytes + freed_to m kept_from) → IsAdmitted m c kept_from
    kept_begin h =
        let fits = h.1 in
        let leaves = h.2 in
        let limit = k.limit in
        let whole = parts in
        record { numbers = h.0; fits = omega (arith, fits, limit, whole); leaves = omega (arith, leaves, limit, whole) }
