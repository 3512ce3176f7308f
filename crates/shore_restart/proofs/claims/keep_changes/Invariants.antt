use Rattle.std.proofs.Common.{◌≡◌, ◌≤◌, ◌++◌, ℕ, List, Ok, drop, length}
use Rattle.shore_model.specs.declared.log_records.LogRecord.{LogRecord}
use Rattle.shore_page.specs.Slots.{Slot}
use Rattle.shore_types.specs.declared.ids.PageId.{PageId}
use Rattle.shore_heap.specs.Heaps.{faults_of}
use Rattle.laws_lives.specs.Recovery.{RecoveryState}
use Rattle.shore_txn.specs.ActiveTxns.{all_changes}
use Rattle.shore_txn.specs.Transactions.{kept_in, txns_in}
use Rattle.shore_txn.specs.UndoEntries.{claims_on}
use Rattle.shore_txn.specs.declared.undo.UndoEntry.{UndoEntry}
use Rattle.shore_restart.specs.GivenBack.{Keeps, StandsSoFar}
use Rattle.shore_restart.specs.Held.{IsHeldSoFar, StaysHeldSoFar}
use Rattle.shore_restart.specs.Standing.{SameVolume}
use Rattle.shore_restart.proofs.claims.keep_changes.Given as goal

abbrev pub invariant-loop-index : goal.invariant-loop-index
invariant-loop-index g l = record {
  within : l.index ≤ length l.changes;
  so_far : (older newer : List UndoEntry) (slots : PageId → List Slot) (front : List ℕ) (disk : ℕ → List ℕ) (s : RecoveryState) → all_changes (txns_in l.txns) ≡ older ++ (l.changes ++ newer)
      → StandsSoFar (kept_in l.txns) (λ p. claims_on p newer) slots front disk l.initial.heap s → l.last ≤ s.durable
      → Keeps (Ok tt) front l.initial.heap l.heap s (λ left later. StandsSoFar (kept_in l.txns) (λ p. claims_on p (drop l.index l.changes ++ newer)) slots front left l.heap later);
  any_pages : (older newer : List UndoEntry) (front : List ℕ) (first disk : ℕ → List ℕ) (done : List LogRecord) → all_changes (txns_in l.txns) ≡ older ++ (l.changes ++ newer)
      → IsHeldSoFar (kept_in l.txns) (λ p. claims_on p newer) front first disk l.initial.heap done l.last
      → StaysHeldSoFar (kept_in l.txns) (λ p. claims_on p (drop l.index l.changes ++ newer)) front first disk l.initial.heap l.heap done l.last;
  volume : SameVolume l.initial.heap l.heap;
  faults : faults_of l.heap ≡ faults_of l.initial.heap;
}

abbrev pub decreases-loop-index : goal.decreases-loop-index
decreases-loop-index g l = l.index
