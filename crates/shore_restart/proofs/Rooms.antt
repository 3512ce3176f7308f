-- That the frames of a log in bounds fit its stream.
use Rattle.std.proofs.Common.{◌≡◌, ◌+◌, ◌≤◌, ◌++◌, ℕ, List, length, take, drop, arith, sym, ap}
use Rattle.std.proofs.lemmas.List.{length-take-le}
use Rattle.std.proofs.lemmas.List.Sums.{sum_by-append, sum_by-take-drop}
use Rattle.shore_model.specs.declared.log_records.LogRecord.{LogRecord}
use Rattle.shore_logrec.specs.Text.{texts, cost_of}
use Rattle.shore_frames.specs.Frames.{joined}
use Rattle.shore_frames.proofs.CostLemmas.{cost_texts, frames_cost}
use Rattle.shore_log.specs.Settled.{HasNoFrameRoom, IsSettledFrom, cut_of_log, records_of_log, stable, waiting}
use Rattle.shore_log.specs.declared.device.LogDev.{LogDev}
use Rattle.shore_disk.specs.declared.device.Disk.{Ghosts}
use Rattle.laws_calls.specs.States.{cost_of_log}
use Rattle.shore_restart.specs.Room.{LeavesRoom}
use Rattle.shore_restart.specs.Standing.{stream_bytes_of}

pub cost_append : (rs more : List LogRecord) → cost_of_log (rs ++ more) ≡ cost_of_log rs + cost_of_log more
cost_append rs more = sum_by-append (λ r. cost_of r.payload) rs more

-- so each costs more than its number
pub records_cost : (rs : List LogRecord) → length rs ≤ cost_of_log rs
records_cost rs = let cost = cost_texts rs in omega (arith, cost)

-- what stands behind a prefix costs the rest
pub cost_parts : (n : ℕ) (rs : List LogRecord) → cost_of_log rs ≡ cost_of_log (take n rs) + cost_of_log (drop n rs)
cost_parts n rs = sym (sum_by-take-drop (λ r. cost_of r.payload) rs n)

module _ {L : Type 0} {G : Ghosts L} where
  -- the frame of waiting records takes no more than the list's records cost
  pub frame_has_room : {tail place : ℕ} (log : LogDev L G) (front : List ℕ) → IsSettledFrom tail place log front → (count : ℕ) → 1 ≤ count → count ≤ length (waiting log)
      → log.head + (13 + length (texts (take count (waiting log)))) ≤ log.tail.place + cost_of_log (records_of_log log)
  frame_has_room {tail = tail} log front s count some within =
      let forced : stable log ≡ joined s.groups = s.holds.forced in
      omega (
        arith,
        s.holds.head,
        s.holds.place_is,
        frames_cost tail s.groups s.ring.are,
        ap cost_of_log forced,
        cost_parts log.forced (records_of_log log),
        cost_parts count (waiting log),
        cost_texts (take count (waiting log)),
        length-take-le count (waiting log) within,
      )

  -- no frame of it is refused
  pub fits_frame : {tail place : ℕ} (log : LogDev L G) (front : List ℕ) → IsSettledFrom tail place log front → LeavesRoom (cut_of_log log) (records_of_log log) (stream_bytes_of log) → HasNoFrameRoom log → ⊥
  fits_frame log front s leaves full =
      let room = frame_has_room log front s full.count full.some full.longest.within in
      absurd (omega (arith, room, full.full, leaves.frame, log.as_long))
