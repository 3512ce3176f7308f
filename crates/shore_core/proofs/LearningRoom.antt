-- A core whose log buffer alone has learned something is in the same states, and over the same stores.
use Rattle.std.proofs.Common.{◌≡◌, ◌++◌, ℕ, List, refl, sym, subst, ap, ◌∙◌}
use Rattle.shore_disk.specs.declared.device.Disk as disk
use Rattle.shore_log.specs.declared.tail.Tail as tail
use Rattle.shore_model.specs.declared.log_records.LogRecord.{LogRecord}
use Rattle.shore_heap.specs.declared.heap.Heap.{Heap}
use Rattle.shore_heap.specs.Heaps.{Shows}
use Rattle.shore_sessions.specs.declared.control.Control.{Control}
use Rattle.shore_sessions.specs.Controls.{txns_in}
use Rattle.shore_sessions.specs.Standing.{HasControl}
use Rattle.shore_txn.specs.Transactions.{kept_in}
use Rattle.laws_checkpoints.specs.CheckpointedStores.{CheckpointedStore}
use Rattle.laws_calls.specs.States.{State, page_slots}
use Rattle.shore_core.specs.declared.core_calls.Core.{Core}
use Rattle.shore_core.specs.Cores.{IsIn, IsOver, KeepsAllButRoom, heap_of, txns_of}
use Rattle.shore_core.proofs.Coming.{over_as}

module _ {T V : Type 0} {G : tail.Ghosts T} {H : disk.Ghosts V} (old new : Core T V G H) (same : KeepsAllButRoom old new) where
  pub in_learned : (front : List ℕ) (disk : ℕ → List ℕ) (before : List LogRecord) (s : State) → IsIn front disk before old s → IsIn front disk before new s
  in_learned front disk before s is = record {
    beside = record {
      first = same.first ∙ is.beside.first;
      parts = record {
        stands = subst (λ (c : Control). HasControl c s) (sym same.control) is.beside.parts.stands;
        log = is.beside.parts.log ∙ ap (λ (l : List LogRecord). before ++ l) (sym same.waiting);
        durable_is = is.beside.parts.durable_is ∙ sym same.durable;
        failed_is = is.beside.parts.failed_is ∙ sym same.running;
      };
    };
    pages = λ works.
        subst (λ (h : Heap V H). Shows (kept_in (txns_of new)) h front disk (page_slots s)) (sym same.heap)
        (subst (λ (c : Control). Shows (kept_in (txns_in c)) (heap_of old) front disk (page_slots s)) (sym same.control) (is.pages works));
  }

  pub over_learned : (disk : ℕ → List ℕ) (s : State) (store : CheckpointedStore) → IsOver disk old s store → IsOver disk new s store
  over_learned disk s store over = over_as old new disk s s store same.heap refl refl refl over
