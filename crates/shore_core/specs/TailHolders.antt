-- What the log has to be kept for from furthest back on.
use Rattle.std.specs.Prelude.{◌≡◌, ◌<◌, ◌≤◌, ℕ, Option, None, Some}
use Rattle.laws_lives.specs.Views.{IsAmong}
use Rattle.shore_disk.specs.declared.device.Disk.{Ghosts}
use Rattle.shore_heap.specs.Dirty.{IsDirtyFirst, IsDirtyIn, NoneDirty}
use Rattle.shore_heap.specs.Heaps.{frame_at}
use Rattle.shore_heap.specs.declared.heap.Heap.{Heap}
use Rattle.shore_model.specs.declared.log_records.DirtyPage.{DirtyPage}
use Rattle.shore_pool.specs.declared.frame.Frame.{Frame}
use Rattle.shore_txn.specs.LogEntries.{IsOldest}
use Rattle.shore_txn.specs.Transactions.{txns_in}
use Rattle.shore_txn.specs.Txns.{IsOf, first_of, number_of}
use Rattle.shore_txn.specs.declared.transactions.Transactions.{Transactions}
use Rattle.shore_txn.specs.declared.txn.Txn.{Txn}
use Rattle.shore_core.specs.declared.tail_holder.TailHolder.{TailHolder}
use Rattle.shore_core.specs.declared.tail_holder.TailHolder.TheVariants.{Transaction, Page, Nobody}

-- the session that is in a transaction, if one is
abbrev pub IsSeated : Option ℕ → Txn → Type 0
IsSeated None t = (session : ℕ) → IsOf session t → ⊥
IsSeated (Some session) t = IsOf session t

module _ {V : Type 0} {H : Ghosts V} where
  -- A transaction holds it: no other that has logged a record has logged one before its first, and no page was dirty before it.
  pub record TxnHolds (table : Transactions) (heap : Heap V H) (txn : ℕ) (session : Option ℕ) (first : ℕ) : Type 0 where
    pub held_by : Txn
    pub oldest : IsOldest held_by (txns_in table)
    pub number : number_of held_by ≡ txn
    pub first_is : first_of held_by ≡ first
    pub seated : IsSeated session held_by
    pub pages : (k : ℕ) (f : Frame) (recovery : ℕ) → frame_at heap k ≡ Some f → f.recovery ≡ Some recovery → first ≤ recovery

  -- .. or a dirty page does, which no other was dirty before, and no transaction has logged a record up to its number
  pub record PageHolds (table : Transactions) (heap : Heap V H) (entry : DirtyPage) : Type 0 where
    pub dirty : IsDirtyIn heap entry
    pub pages : IsDirtyFirst heap entry
    pub txns : (t : Txn) → IsAmong t (txns_in table) → 0 < first_of t → entry.recovery < first_of t

  -- .. or nobody
  pub record NobodyHolds (table : Transactions) (heap : Heap V H) : Type 0 where
    pub txns : (t : Txn) → IsAmong t (txns_in table) → first_of t ≡ 0
    pub pages : NoneDirty heap

  abbrev pub HoldsTail : Transactions → Heap V H → TailHolder → Type 0
  HoldsTail table heap (Transaction txn session first) = TxnHolds table heap txn session first
  HoldsTail table heap (Page entry) = PageHolds table heap entry
  HoldsTail table heap Nobody = NobodyHolds table heap
