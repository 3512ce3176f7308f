use Rattle.std.proofs.Common.{◌≡◌, ◌≤◌, ℕ, List, Ok, drop, length, reverse}
use Rattle.shore_heap.specs.Heaps.{faults_of}
use Rattle.shore_model.specs.declared.log_records.LogRecord.{LogRecord}
use Rattle.laws_lives.specs.Recovery.{RecoveryState}
use Rattle.shore_txn.specs.Transactions.{kept_in, txns_in}
use Rattle.shore_txn.specs.UndoEntries.{claims_on}
use Rattle.shore_restart.specs.GivenBack.{Keeps, StandsSoFar}
use Rattle.shore_restart.specs.Held.{IsHeld, StaysHeldSoFar}
use Rattle.shore_restart.specs.Standing.{SameVolume, Stands}
use Rattle.shore_restart.proofs.ClaimsAll.{flat}
use Rattle.shore_restart.proofs.claims.keep_claims.Given as goal

abbrev pub invariant-loop-index : goal.invariant-loop-index
invariant-loop-index g l = record {
  within : l.index ≤ length (txns_in l.txns);
  so_far : (front : List ℕ) (disk : ℕ → List ℕ) (s : RecoveryState) (stands : Stands front disk l.initial.heap s) → l.last ≤ s.durable
      → Keeps (Ok tt) front l.initial.heap l.heap s (λ left later. StandsSoFar (kept_in l.txns) (λ p. claims_on p (flat (drop l.index (reverse (txns_in l.txns))))) stands.slots front left l.heap later);
  any_pages : (front : List ℕ) (first disk : ℕ → List ℕ) (done : List LogRecord) → IsHeld front first disk l.initial.heap done l.last
      → StaysHeldSoFar (kept_in l.txns) (λ p. claims_on p (flat (drop l.index (reverse (txns_in l.txns))))) front first disk l.initial.heap l.heap done l.last;
  volume : SameVolume l.initial.heap l.heap;
  faults : faults_of l.heap ≡ faults_of l.initial.heap;
}

abbrev pub decreases-loop-index : goal.decreases-loop-index
decreases-loop-index g l = l.index
