use Rattle.std.proofs.Common.{◌≡◌, ◌≤◌, ℕ, List, None, length}
use Rattle.shore_heap.specs.Heaps.{faults_of, geometry_of}
use Rattle.shore_gate.specs.declared.anchors.Anchor.{Anchor}
use Rattle.shore_model.specs.declared.log_records.LogRecord.{LogRecord}
use Rattle.shore_log.specs.Settled.{cut_of_log, records_of_log, stable}
use Rattle.laws_lives.specs.Recovery.{RecoveryState}
use Rattle.shore_analysis.specs.Losers.{turns_left}
use Rattle.shore_restart.specs.AnyPages.{AllFindRoom}
use Rattle.shore_restart.specs.Held.{IsHeld, StaysHeld}
use Rattle.shore_restart.specs.Quiet.{IsQuiet}
use Rattle.shore_restart.specs.Standing.{IsReady, SameLog, SameVolume, log_faults, log_seen, stream_bytes_of}
use Rattle.shore_restart.specs.Turns.{IsUndoOf, IsUndoneSoFar, TurnsFit, gone_on}
use Rattle.shore_restart.proofs.Undoing.{HasCome}
use Rattle.shore_restart.proofs.turns.Undo.undo_all.Given as goal

abbrev pub invariant-loop : goal.invariant-loop
invariant-loop g l = record {
  undo : IsUndoOf (geometry_of l.heap) (cut_of_log l.log) (records_of_log l.log) (stream_bytes_of l.log) l.self;
  so_far : IsUndoneSoFar (log_seen l.initial.log) (log_seen l.log);
  come : (log_front front : List ℕ) (anchor : Anchor) (disk : ℕ → List ℕ) (s : RecoveryState) → IsReady log_front front anchor disk l.initial.log l.initial.heap s
      → (come : HasCome log_front front anchor l.initial.log l.initial.heap s l.log l.heap) × (come.0.log ≡ gone_on s.log (log_seen l.initial.log) (log_seen l.log)) × IsUndoneSoFar s.log come.0.log;
  quiet : (log_front : List ℕ) → IsQuiet log_front l.initial.log → IsQuiet log_front l.log × (length (stable l.initial.log) ≤ length (stable l.log));
  any_pages : (front : List ℕ) (first disk : ℕ → List ℕ) (due : List LogRecord) → length due ≡ length (log_seen l.initial.log) → IsHeld front first disk l.initial.heap due (length due)
      → StaysHeld front first disk l.initial.heap l.heap (length due) (gone_on due (log_seen l.initial.log) (log_seen l.log)) (length (log_seen l.log));
  fits : (log_front front : List ℕ) (anchor : Anchor) (disk : ℕ → List ℕ) (s : RecoveryState) → IsReady log_front front anchor disk l.initial.log l.initial.heap s
      → TurnsFit (geometry_of l.initial.heap).version s.log (gone_on s.log (log_seen l.initial.log) (log_seen l.log));
  any_fit : (front : List ℕ) (first disk : ℕ → List ℕ) (due : List LogRecord) → length due ≡ length (log_seen l.initial.log) → IsHeld front first disk l.initial.heap due (length due)
      → AllFindRoom (geometry_of l.initial.heap) first due → AllFindRoom (geometry_of l.initial.heap) first (gone_on due (log_seen l.initial.log) (log_seen l.log));
  volume : SameVolume l.initial.heap l.heap;
  log : SameLog l.initial.log l.log;
  volume_faults : faults_of l.heap ≡ faults_of l.initial.heap;
  log_faults : log_faults l.log ≡ log_faults l.initial.log;
  unstaged : l.initial.log.staged ≡ None → l.log.staged ≡ None;
}

abbrev pub decreases-loop : goal.decreases-loop
decreases-loop g l = turns_left (log_seen l.log) l.self.losers
