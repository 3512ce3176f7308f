use Rattle.std.proofs.Common.{◌≡◌, ◌++◌, ◌∷◌, [], List, take}
use Rattle.shore_model.specs.Requests.{held_by_all}
use Rattle.shore_path.specs.Restoring.{KeepsOthers}
use Rattle.laws_lives.specs.Doubts.{LoggedDoubt}
use Rattle.shore_restart.specs.Doubts.{AreLocksOf}
use Rattle.shore_restart.proofs.Locks.{with_granules}
use Rattle.shore_restart.proofs.doubts.restore_locks.Given as goal

abbrev pub invariant-loop-granule : goal.invariant-loop-granule
invariant-loop-granule l = record {
  keeps : KeepsOthers l.initial.locks l.locks l.entry.txn;
  so_far : (before : List LoggedDoubt) (d : LoggedDoubt) → AreLocksOf before (held_by_all l.initial.locks.requests) → d.txn ≡ l.entry.txn
      → AreLocksOf (before ++ with_granules d (take l.granule-index l.granules) ∷ []) (held_by_all l.locks.requests);
}
