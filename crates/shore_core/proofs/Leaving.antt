-- What a commit leaves of what is reserved and of the other transactions, and what one leaves that lacks memory.
use Rattle.laws_checkpoints.specs.CheckpointedStores.{CheckpointedStore}
use Rattle.std.proofs.Common.{◌≡◌, ◌≤◌, ◌<◌, ◌+◌, ◌++◌, ◌∷◌, ℕ, List, refl, sym, ap, subst, ◌∙◌, arith}
use Rattle.shore_types.specs.declared.layout.TheConstants.{ENDING_COST}
use Rattle.shore_model.specs.declared.log_records.LogRecord.{LogRecord}
use Rattle.shore_disk.specs.declared.device.Disk as disk
use Rattle.shore_log.specs.declared.tail.Tail as tail
use Rattle.shore_heap.specs.declared.heap.Heap.{Heap}
use Rattle.shore_heap.specs.Heaps.{Shows}
use Rattle.laws_lives.specs.Views.{IsAmong}
use Rattle.laws_calls.specs.States.{State, page_slots}
use Rattle.shore_txn.specs.ActiveTxns.{OneLeaves}
use Rattle.shore_txn.specs.Transactions.{kept_in, room_in, txns_in}
use Rattle.shore_txn.specs.Txns.{last_of}
use Rattle.shore_txn.specs.declared.transactions.Transactions.{Transactions}
use Rattle.shore_txn.specs.declared.txn.Txn.{Txn}
use Rattle.shore_txn.specs.declared.undo.UndoEntry.{UndoEntry}
use Rattle.shore_txn.proofs.OneOfMany.{among_more}
use Rattle.shore_txn.proofs.Reserves.{reserved_for_all, reserved_parts}
use Rattle.shore_sessions.specs.Standing.{HasControl}
use Rattle.shore_core.specs.declared.core_calls.Core.{Core}
use Rattle.shore_core.specs.Cores.{CoreComesTo, IsIn, IsOver, control_of, durable_of, first_of, has_failed, heap_of, txns_of, waiting_of}
use Rattle.shore_core.proofs.Coming.{comes_same, over_as}

module _ (old new : Transactions) {number : ℕ} {changes : List UndoEntry} (left : OneLeaves number changes (txns_in old) (txns_in new)) where
  -- its ending is reserved no more
  pub reserved_left : (room_in new).reserved + ENDING_COST ≤ (room_in old).reserved
  reserved_left =
      let was : (room_in old).reserved ≡ reserved_for_all (left.newer ++ left.one ∷ left.older) = old.sum ∙ ap reserved_for_all left.was in
      let is : (room_in new).reserved ≡ reserved_for_all (left.newer ++ left.older) = new.sum ∙ ap reserved_for_all left.is in
      let parts = reserved_parts left.newer left.older left.one in
      omega (arith, was, is, parts)

  -- a record more is logged, and all others are earlier still
  pub earlier_left : (next : ℕ) → ((t : Txn) → IsAmong t (txns_in old) → last_of t < next) → (t : Txn) → IsAmong t (txns_in new) → last_of t < next + 1
  earlier_left next earlier t m =
      let before = earlier t (subst (IsAmong t) (sym left.was) (among_more t left.one left.newer left.older (subst (IsAmong t) left.is m))) in
      omega (arith, before)

module _ {T V : Type 0} {G : tail.Ghosts T} {H : disk.Ghosts V} (old new : Core T V G H) (front : List ℕ) (disk : ℕ → List ℕ) (before : List LogRecord) (s : State) (store : CheckpointedStore) where
  -- nothing but memory has changed
  pub in_lacking : heap_of new ≡ heap_of old → first_of new ≡ first_of old → waiting_of new ≡ waiting_of old → durable_of new ≡ durable_of old → has_failed new ≡ has_failed old
      → txns_of new ≡ txns_of old → HasControl (control_of new) s → IsIn front disk before old s → IsIn front disk before new s
  in_lacking heap first waiting durable failed txns stands is = record {
    beside = record {
      first = first ∙ is.beside.first;
      parts = record { stands = stands; log = is.beside.parts.log ∙ ap (λ l. before ++ l) (sym waiting); durable_is = is.beside.parts.durable_is ∙ sym durable; failed_is = is.beside.parts.failed_is ∙ sym failed };
    };
    pages = λ works. subst (λ x. Shows (kept_in x) (heap_of new) front disk (page_slots s)) (sym txns)
        (subst (λ (h : Heap V H). Shows (kept_in (txns_of old)) h front disk (page_slots s)) (sym heap) (is.pages works));
  }

  pub comes_lacking : heap_of new ≡ heap_of old → first_of new ≡ first_of old → waiting_of new ≡ waiting_of old → durable_of new ≡ durable_of old → has_failed new ≡ has_failed old
      → txns_of new ≡ txns_of old → HasControl (control_of new) s → IsIn front disk before old s → IsOver disk old s store → CoreComesTo new front before store s
  comes_lacking heap first waiting durable failed txns stands is over =
      comes_same new front disk before s store (in_lacking heap first waiting durable failed txns stands is) (over_as old new disk s s store heap refl refl refl over)
