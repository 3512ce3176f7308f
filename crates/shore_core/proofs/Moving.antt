-- What a call comes to that moves locks and waits alone: pages and log are as they were.
use Rattle.laws_checkpoints.specs.CheckpointedStores.{CheckpointedStore}
use Rattle.std.proofs.Common.{◌≡◌, ◌++◌, inl, inr, ℕ, List, Result, Ok, Err, sym, ap, subst, ◌∙◌}
use Rattle.shore_types.specs.declared.faults.Fault.{Fault}
use Rattle.shore_types.specs.declared.ids.PageId.{PageId}
use Rattle.shore_types.specs.declared.layout.Geometry.{Geometry}
use Rattle.shore_model.specs.declared.calls.Call.{Call}
use Rattle.shore_model.specs.declared.log_records.LogRecord.{LogRecord}
use Rattle.shore_disk.specs.declared.device.Disk as disk
use Rattle.shore_log.specs.declared.tail.Tail as tail
use Rattle.shore_heap.specs.declared.heap.Heap.{Heap}
use Rattle.shore_heap.specs.Heaps.{Shows}
use Rattle.laws_lives.specs.Sessions.{SessionTxn}
use Rattle.laws_calls.specs.CallSteps.{CallGoesOn, HasLocked}
use Rattle.laws_calls.specs.States.{State, page_slots}
use Rattle.shore_model.specs.declared.step.Step.{Step}
use Rattle.shore_model.specs.declared.step.Step.TheVariants.{Done, Nothing, Refused, Waits}
use Rattle.shore_sessions.specs.Standing.{HasControl}
use Rattle.shore_txn.specs.Transactions.{kept_in}
use Rattle.shore_heap.proofs.Showing.{shows_same}
use Rattle.shore_core.specs.declared.core_calls.Core.{Core}
use Rattle.shore_core.specs.Cores.{CoreComesTo, IsIn, IsOver, control_of, durable_of, first_of, has_failed, heap_of, txns_of, waiting_of}
use Rattle.shore_core.specs.Replies.{IsServedBehind, as_step}
use Rattle.shore_core.proofs.Coming.{comes_same, over_as, pages_told}

module _ {T V : Type 0} {G : tail.Ghosts T} {H : disk.Ghosts V} (old new : Core T V G H) (front : List ℕ) (disk : ℕ → List ℕ) (before : List LogRecord) (s later : State) (store : CheckpointedStore) where
  -- its control stands for another state with the same pages and the same log
  pub in_moved : heap_of new ≡ heap_of old → first_of new ≡ first_of old → waiting_of new ≡ waiting_of old → durable_of new ≡ durable_of old → has_failed new ≡ has_failed old
      → ((p : PageId) → kept_in (txns_of new) p ≡ kept_in (txns_of old) p) → HasControl (control_of new) later → later.log ≡ s.log → later.durable ≡ s.durable → later.failed ≡ s.failed
      → ((p : PageId) → page_slots later p ≡ page_slots s p) → IsIn front disk before old s → IsIn front disk before new later
  in_moved heap first waiting durable failed claims stands log told fails slots is = record {
    beside = record {
      first = first ∙ is.beside.first;
      parts = record { stands = stands; log = log ∙ is.beside.parts.log ∙ ap (λ l. before ++ l) (sym waiting); durable_is = told ∙ is.beside.parts.durable_is ∙ sym durable; failed_is = fails ∙ is.beside.parts.failed_is ∙ sym failed };
    };
    pages = λ works. pages_told (heap_of new) (txns_of old) (txns_of new) front disk (page_slots later) claims
        (shows_same (heap_of new) (kept_in (txns_of old)) front disk (page_slots s) (page_slots later) (λ p there. slots p)
        (subst (λ (h : Heap V H). Shows (kept_in (txns_of old)) h front disk (page_slots s)) (sym heap) (is.pages (sym fails ∙ works))));
  }

  pub comes_moved : heap_of new ≡ heap_of old → first_of new ≡ first_of old → waiting_of new ≡ waiting_of old → durable_of new ≡ durable_of old → has_failed new ≡ has_failed old
      → ((p : PageId) → kept_in (txns_of new) p ≡ kept_in (txns_of old) p) → HasControl (control_of new) later → later.log ≡ s.log → later.durable ≡ s.durable → later.failed ≡ s.failed
      → ((p : PageId) → page_slots later p ≡ page_slots s p) → IsIn front disk before old s → IsOver disk old s store → CoreComesTo new front before store later
  comes_moved heap first waiting durable failed claims stands log told fails slots is over =
      comes_same new front disk before later store (in_moved heap first waiting durable failed claims stands log told fails slots is) (over_as old new disk s later store heap log told fails over)

-- what is served behind its locks is how a call goes on from them
pub goes_served : (g : Geometry) (s : State) (a : SessionTxn) (c : Call) (locked : State) → HasLocked s a c locked → (r : Result Step Fault) (new : State) → IsServedBehind g locked a c r new
    → CallGoesOn g s a c (as_step r) new
goes_served g s a c locked has (Ok (Done answer)) new serves = (locked, has, serves)
goes_served g s a c locked has (Ok (Waits wait)) new serves = absurd serves
goes_served g s a c locked has (Ok (Refused f)) new serves = absurd serves
goes_served g s a c locked has (Ok Nothing) new serves = absurd serves
goes_served g s a c locked has (Err f) new (inl (memory, lacks)) = inl (memory, inr (locked, has, lacks))
goes_served g s a c locked has (Err f) new (inr refuses) = inr (inr (locked, has, refuses))
