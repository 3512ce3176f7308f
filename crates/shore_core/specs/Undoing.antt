-- Rollbacks, change by change: what is put back next, and what putting back comes to.
use Rattle.laws_checkpoints.specs.CheckpointedStores.{CheckpointedStore}
use Rattle.std.specs.Prelude.{◌≡◌, ◌≢◌, ◌⊎◌, ◌<◌, ◌≤◌, ◌^◌, ◌++◌, ◌∷◌, [], ℕ, List, Result, Ok, Err, length}
use Rattle.shore_disk.specs.declared.device.Disk as disk
use Rattle.shore_log.specs.declared.tail.Tail as tail
use Rattle.shore_types.specs.Images.{Image, image_len}
use Rattle.shore_types.specs.Layout.{HasPage}
use Rattle.shore_types.specs.declared.faults.Fault.{Fault}
use Rattle.shore_types.specs.declared.ids.Rid.{Rid}
use Rattle.shore_model.specs.declared.log_records.LogRecord.{LogRecord}
use Rattle.shore_model.specs.declared.log_records.Payload.TheVariants.{Compensation}
use Rattle.laws_room.specs.LogRooms.{compensation_cost}
use Rattle.laws_lives.specs.Sessions.{SessionTxn}
use Rattle.laws_lives.specs.Views.{IsAmong}
use Rattle.shore_model.specs.declared.rollbacks.Rollback.{Rollback}
use Rattle.shore_types.specs.declared.faults.Fault.TheVariants.{Memory}
use Rattle.laws_calls.specs.CallSteps.{aborted}
use Rattle.laws_calls.specs.Rollbacks.{Interrupts, put_back}
use Rattle.laws_calls.specs.States.{State}
use Rattle.shore_txn.specs.Transactions.{txns_in, undos_in}
use Rattle.shore_txn.specs.Txns.{as_session_txn, entries_of, last_of, number_of}
use Rattle.shore_txn.specs.UndoEntries.{number_behind}
use Rattle.shore_txn.specs.declared.transactions.Transactions.{Transactions}
use Rattle.shore_txn.specs.declared.txn.Txn.{Txn}
use Rattle.shore_txn.specs.declared.undo.UndoEntry.{UndoEntry}
use Rattle.shore_core.specs.declared.core_calls.Core.{Core}
use Rattle.shore_types.specs.declared.ids.PageId.{PageId}
use Rattle.shore_heap.specs.Heaps.{MayBeLeft, WroteBack, pool_of}
use Rattle.shore_pool.specs.Pools.{HasInPlace, PoolHolds}
use Rattle.shore_core.specs.Cores.{CoreComesTo, durable_of, geometry_of, heap_of}
use Rattle.shore_core.specs.Replies.{Stays}

-- The newest change of the transaction with this number is to be put back at this id, and this is its Compensation, which costs so much.
pub record IsNext (table : Transactions) (t : ℕ) (id : Rid) (bytes cost : ℕ) (r : LogRecord) : Type 0 where
  pub own : Txn
  pub among : IsAmong own (txns_in table)
  pub there : IsAmong (as_session_txn own) (undos_in table)
  pub number : number_of own ≡ t
  pub some : 1 ≤ number_of own
  pub below : number_of own < 2 ^ 64
  pub behind : number_behind (entries_of own) < 2 ^ 64
  pub kept : List UndoEntry
  pub entry : UndoEntry
  pub entries : entries_of own ≡ kept ++ entry ∷ []
  pub id_is : id ≡ entry.id
  pub bytes_is : bytes ≡ image_len entry.before
  pub cost_is : cost ≡ compensation_cost entry.before
  pub record_is : r ≡ record { txn = number_of own; previous = last_of own; payload = Compensation entry.id entry.before (number_behind (entries_of own)) }

-- The newest of the transaction's images are put back, and so many are left.
pub record IsDownTo (s : State) (a : SessionTxn) (rollback : Rollback) (count : ℕ) (mid : State) : Type 0 where
  pub kept : List (Rid × Image)
  pub undone : List (Rid × Image)
  pub images : a.undo.images ≡ kept ++ undone
  pub left : length kept ≡ count
  pub state : ((undone ≡ []) × (mid ≡ s)) ⊎ ((undone ≢ []) × (mid ≡ put_back s a kept undone rollback))

module _ {T V : Type 0} {G : tail.Ghosts T} {H : disk.Ghosts V} where
  -- Pages may have been written back, and all are in place as they were, whatever they hold.
  abbrev pub WritesBack : Core T V G H → Core T V G H → Type 0
  WritesBack old new = (front : List ℕ) (disk : ℕ → List ℕ) → PoolHolds (pool_of (heap_of old)) front disk → WroteBack (heap_of old) (heap_of new) (durable_of old) front disk

  -- What steps of a rollback leave of the volume and of the pages in place. On the volume each page is as it was, or as it was in place with a durable
  -- number; and in place each is as it was, or has a number that is not durable. So no later step writes what an earlier one has changed.
  pub record IsRewound (old new : Core T V G H) (front : List ℕ) (disk : ℕ → List ℕ) : Type 0 where
    pub left : ℕ → List ℕ
    pub holds : PoolHolds (pool_of (heap_of new)) front left
    pub may : MayBeLeft (heap_of old) (durable_of old) disk left
    pub in_place : (id : PageId) → HasPage (geometry_of old) id → (number : ℕ) (images : List Image) → HasInPlace (pool_of (heap_of new)) left id number images
        → HasInPlace (pool_of (heap_of old)) disk id number images ⊎ (durable_of old < number)

  -- .. whatever the pages hold
  abbrev pub Rewinds : Core T V G H → Core T V G H → Type 0
  Rewinds old new = (front : List ℕ) (disk : ℕ → List ℕ) → PoolHolds (pool_of (heap_of old)) front disk → IsRewound old new front disk

  -- one image was put back, or an allocation failed, or its page was not read
  abbrev pub PutsBack : Core T V G H → SessionTxn → List (Rid × Image) → Rid × Image → Rollback → Result (Unit {0}) Fault → List ℕ → List LogRecord → State → CheckpointedStore → Type 0
  PutsBack new a kept e rollback (Ok done) front before s store = HasPage (geometry_of new) e.0.page × CoreComesTo new front before store (put_back s a kept (e ∷ []) rollback)
  PutsBack new a kept e rollback (Err f) front before s store = Interrupts s f × Stays {A = Unit {0}} new (Err f) front before s store

  -- as many were put back as are more than these, or it was interrupted on the way
  abbrev pub Unwinds : Core T V G H → SessionTxn → Rollback → ℕ → Result (Unit {0}) Fault → List ℕ → List LogRecord → State → CheckpointedStore → Type 0
  Unwinds new a rollback least (Ok done) front before s store = (mid : State) × IsDownTo s a rollback least mid × CoreComesTo new front before store mid
  Unwinds new a rollback least (Err f) front before s store =
      (mid : State) × (left : ℕ) × IsDownTo s a rollback left mid × (least ≤ left) × Interrupts mid f × Stays {A = Unit {0}} new (Err f) front before mid store

  -- the abort of a transaction with no image left has ended, or its End was not logged for want of memory
  abbrev pub Ends : Core T V G H → SessionTxn → Result (Unit {0}) Fault → List ℕ → List LogRecord → State → CheckpointedStore → Type 0
  Ends new a (Ok done) front before s store = CoreComesTo new front before store (aborted s a)
  Ends new a (Err f) front before s store = (f ≡ Memory) × CoreComesTo new front before store s
