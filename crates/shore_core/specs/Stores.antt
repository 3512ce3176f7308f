-- The store that lies under a core, with the recovery numbers of its pages, and what works make of it.
use Rattle.std.specs.Prelude.{◌≡◌, ℕ, List, [], ◌∷◌}
use Rattle.shore_disk.specs.declared.device.Disk.{Ghosts}
use Rattle.shore_model.specs.declared.log_records.LogRecord.{LogRecord}
use Rattle.shore_heap.specs.declared.heap.Heap.{Heap}
use Rattle.laws_lives.specs.ManagerSteps.{IsWork}
use Rattle.laws_lives.specs.Recovery.{AppendRecord, LeadsTo, RecoveryEvent, RecoveryState, after_append, after_force}
use Rattle.laws_checkpoints.specs.CheckpointedStores.{CheckpointedStore}
use Rattle.laws_checkpoints.specs.RecoveryNumbers.{recovery_after}
use Rattle.laws_heaps.specs.HeapRecoveries.{HasRecoveries}
use Rattle.laws_heaps.specs.LoggedHeaps.{IsStoreOf}

-- the heap has its pages, and their recovery numbers
pub record IsHeapOf {V : Type 0} {H : Ghosts V} (heap : Heap V H) (disk : ℕ → List ℕ) (store : CheckpointedStore) : Type 0 where
  pub pages : IsStoreOf heap disk store.store
  pub recoveries : HasRecoveries heap store.recovery

-- a record is appended, and done on its page
abbrev pub append_to : CheckpointedStore → LogRecord → CheckpointedStore
append_to c r = record c { store = after_append c.store r; recovery = recovery_after c.store (AppendRecord r) c.recovery }

-- more is durable
abbrev pub force_to : CheckpointedStore → ℕ → CheckpointedStore
force_to c n = record c { store = after_force c.store n }

-- work between an open and a crash, which leaves the anchor and the checkpoint under way
abbrev pub WorksOn : CheckpointedStore → List RecoveryEvent → CheckpointedStore → Type 0
WorksOn c [] last = last ≡ c
WorksOn c (e ∷ works) last = IsWork e × (next : RecoveryState) × LeadsTo c.store e next × WorksOn (record c { store = next; recovery = recovery_after c.store e c.recovery }) works last
