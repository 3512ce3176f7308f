-- What holds of a core that is in a state, and what a call that reads leaves of it.
use Rattle.laws_checkpoints.specs.CheckpointedStores.{CheckpointedStore}
use Rattle.std.proofs.Common.{◌≡◌, ◌⊎◌, ◌≤◌, ◌<◌, ◌∙◌, inl, inr, ℕ, List, Bool, Option, None, Some, IsSomeAnd, Result, Ok, Err, IfErr, IsErrAnd, true, false, nat_lt, refl, sym, ap, subst, arith}
use Rattle.std.specs.FinMap.{get}
use Rattle.std.specs.List.{slice_get}
use Rattle.std.specs.Option.{option_and_then}
use Rattle.std.proofs.lemmas.Bool.{ltb-true, ltb-false}
use Rattle.std.proofs.lemmas.Option.{slice_get_past}
use Rattle.shore_types.specs.declared.ids.PageId.{PageId}
use Rattle.shore_types.specs.declared.ids.Rid.{Rid}
use Rattle.shore_model.specs.Records.{Records}
use Rattle.shore_page.specs.Slots.{Slot, image_at_slot}
use Rattle.shore_page.specs.Undo.{claiming}
use Rattle.shore_pool.specs.declared.frame.Frame.{Frame}
use Rattle.shore_heap.specs.Contents.{HasSlots}
use Rattle.laws_lives.specs.Sessions.{SessionTxn, Sessions}
use Rattle.laws_room.specs.Claims.{Claimed, SlotCounts, rid_on, slots_of, undecided_at}
use Rattle.laws_room.proofs.Leaving.{map_each}
use Rattle.laws_room.proofs.Lists.{each_at}
use Rattle.laws_room.proofs.Pages.{length-slots}
use Rattle.shore_types.specs.declared.faults.Fault.{Fault}
use Rattle.shore_types.specs.declared.faults.Fault.TheVariants as fault
use Rattle.shore_types.specs.declared.faults.Device.{Device}
use Rattle.shore_types.specs.declared.versions.Version.{Version}
use Rattle.shore_model.specs.declared.log_records.LogRecord.{LogRecord}
use Rattle.laws_calls.specs.StateChanges.{IsPageFault, after_refusal, with_durable, with_failure}
use Rattle.laws_calls.specs.States.{State, cost_of_log}
use Rattle.laws_calls.specs.CallSteps.{RefusesRead, CallStep}
use Rattle.shore_disk.specs.Cause.{HasCause}
use Rattle.shore_disk.specs.declared.device.Disk as disk
use Rattle.shore_log.specs.declared.tail.Tail as tail
use Rattle.shore_disk.specs.Device.{may_leave}
use Rattle.shore_heap.specs.declared.heap.Heap.{Heap}
use Rattle.shore_heap.specs.Heaps as heaps
use Rattle.laws_heaps.specs.LoggedHeaps.{LeavesStore}
use Rattle.laws_heaps.proofs.LoggedLeft.{left_settled}
use Rattle.laws_lives.specs.Pages.{LoggedPages}
use Rattle.shore_heap.proofs.Going.{ok_same}
use Rattle.shore_core.specs.declared.core_calls.Core.{Core}
use Rattle.shore_core.specs.Cores.{CoreComesTo, FailsOver, IsBeside, IsIn, IsKept, IsKeptBehind, IsOver, control_of, durable_of, geometry_of, has_failed, heap_of, tail_of, waiting_of}
use Rattle.laws_lives.specs.Recovery.{CrashMayLeave}
use Rattle.shore_model.specs.declared.step.Step.{Step}
use Rattle.shore_model.specs.declared.step.Step.TheVariants.{Refused}
use Rattle.shore_model.specs.declared.calls.Call.{Call}
use Rattle.shore_core.specs.Replies.{IsServedBehind, Replied, Served}
use Rattle.shore_core.proofs.Coming.{StaysRefused, comes_failed}
use Rattle.shore_core.specs.Parts.{HasParts}
use Rattle.shore_sessions.specs.declared.control.Control.{Control}
use Rattle.shore_sessions.specs.Controls.{txns_in}
use Rattle.shore_sessions.specs.Seated.{IsSeated}
use Rattle.shore_sessions.specs.Standing.{HasControl, HasTxns, IsLogged}
use Rattle.shore_txn.specs.Transactions.{next_in, prepared_in}
use Rattle.shore_txn.specs.Transactions as table
use Rattle.shore_txn.specs.declared.transactions.Transactions.{Transactions}
use Rattle.std.specs.List.{AllByRecursion}
use Rattle.std.specs.List.Sorted.{IsPermutation}

pub true_false : true ≡ false → ⊥
true_false clash = cc

pub map_err : {A : Type 0} (P Q : Fault → Type 0) (r : Result A Fault) → ((f : Fault) → P f → Q f) → IfErr r P → IfErr r Q
map_err P Q (Ok x) each holds = tt
map_err P Q (Err f) each holds = each f holds

-- the transactions are those of a state with the same sessions, stream and log
txns_as : (txns : Transactions) (s t : State) → t.sessions ≡ s.sessions → t.stream_bytes ≡ s.stream_bytes → t.log ≡ s.log → HasTxns txns s → HasTxns txns t
txns_as txns s t sessions stream log was = record {
  active = ap (λ (x : Sessions). x.active) sessions ∙ was.active;
  prepared = subst (λ (x : Sessions). IsPermutation x.prepared (prepared_in txns)) (sym sessions) was.prepared;
  seats = subst (λ (x : Sessions). AllByRecursion (IsSeated x) (table.txns_in txns)) (sym sessions) was.seats;
  entered = subst (λ (x : Sessions). (n : ℕ) → (x.seats n).txn < next_in txns) (sym sessions) was.entered;
  names = was.names;
  next = ap (λ (x : Sessions). x.next_txn) sessions ∙ was.next;
  room = omega (arith, stream, ap cost_of_log log, was.room);
  each = subst (λ l. AllByRecursion (IsLogged l) (table.txns_in txns)) (sym log) was.each;
  above = subst (λ (l : List LogRecord). AllByRecursion (λ r. r.txn < next_in txns) l) (sym log) was.above;
}

-- a device that failed is noted
control_failed : (control : Control) (s : State) → HasControl control s → HasControl control (with_failure s)
control_failed control s was = record {
  txns = txns_as (txns_in control) s (with_failure s) refl refl refl was.txns;
  waits = record {
    waiting = was.waits.waiting;
    kinds = was.waits.kinds;
    asking = was.waits.asking;
    preparing = was.waits.preparing;
    ended = was.waits.ended;
    once = was.waits.once;
  };
  resolving = λ works. absurd (true_false works);
  locks = was.locks;
}

pub parts_failed : (control : Control) (waiting : List LogRecord) (durable : ℕ) (failed : Bool) (before : List LogRecord) (s : State) → HasParts control waiting durable failed before s
    → HasParts control waiting durable true before (with_failure s)
parts_failed control waiting durable failed before s was = record { stands = control_failed control s was.stands; log = was.log; durable_is = was.durable_is; failed_is = refl }

-- a force is told
pub parts_told : (control : Control) (waiting : List LogRecord) (durable n : ℕ) (failed : Bool) (before : List LogRecord) (s : State) → HasParts control waiting durable failed before s
    → HasParts control waiting n failed before (with_durable n s)
parts_told control waiting durable n failed before s was = record {
  stands = record {
    txns = txns_as (txns_in control) s (with_durable n s) refl refl refl was.stands.txns;
    waits = record {
      waiting = was.stands.waits.waiting;
      kinds = was.stands.waits.kinds;
      asking = was.stands.waits.asking;
      preparing = was.stands.waits.preparing;
      ended = was.stands.waits.ended;
      once = was.stands.waits.once;
    };
    resolving = was.stands.resolving;
    locks = was.stands.locks;
  };
  log = was.log;
  durable_is = refl;
  failed_is = was.failed_is;
}

-- ---- records that are reached

pub read_fault : (s : State) (id : Rid) (f : Fault) → (f ≡ fault.Memory) ⊎ IsPageFault s f → (f ≡ fault.Memory) ⊎ RefusesRead s id f
read_fault s id f (inl memory) = inl memory
read_fault s id f (inr (inl device)) = inr (subst (RefusesRead s id) (sym device) (inl refl))
read_fault s id f (inr (inr (inl damaged))) = inr (subst (RefusesRead s id) (sym damaged.1) (inr (inl (damaged.0, refl))))
read_fault s id f (inr (inr (inr force))) = inr (subst (RefusesRead s id) (sym force.1) (inr (inr (force.0, refl, force.2, force.3))))

-- a slot of a page has the image of its record
pub image_shown : (v : Version) (R : Records) (undos : List SessionTxn) (counts : SlotCounts) → Claimed v R undos counts → (id : Rid)
    → image_at_slot (slots_of R undos id.page (counts id.page)) id.slot ≡ get R id
image_shown v R undos counts k id = elim (nat_lt id.slot (counts id.page)) as (λ b. nat_lt id.slot (counts id.page) ≡ b → image_at_slot (slots_of R undos id.page (counts id.page)) id.slot ≡ get R id) [
  | true ↦ λ e. ap (λ (o : Option Slot). option_and_then (λ (x : Slot). x.image) o)
      (ap (λ (l : List Slot). slice_get l id.slot) (map_each claiming (λ i. undecided_at R undos (rid_on id.page i)) 0 (counts id.page))
      ∙ each_at (λ i. claiming (undecided_at R undos (rid_on id.page i))) (counts id.page) id.slot (ltb-true id.slot (counts id.page) e))
  | false ↦ λ e.
      let behind : counts id.page ≤ id.slot = ltb-false id.slot (counts id.page) e in
      ap (λ (o : Option Slot). option_and_then (λ (x : Slot). x.image) o)
      (slice_get_past (slots_of R undos id.page (counts id.page)) id.slot (omega (arith, behind, length-slots R undos id.page (counts id.page))))
      ∙ sym (k.behind id behind)
] refl

pub framed_is : (v : Version) (P : List Slot → Type 0) (o : Option Frame) (text : List ℕ) (id : PageId) (kept : List (ℕ × ℕ)) (slots : List Slot) → HasSlots v o text id kept slots → IsSomeAnd o (λ f. P f.page.slots) → P slots
framed_is v P (Some f) text id kept slots has holds = subst P has holds
framed_is v P None text id kept slots has holds = absurd holds

-- ---- refusals

module _ {T V : Type 0} {G : tail.Ghosts T} {H : disk.Ghosts V} where
  -- a failure that is noted
  pub beside_failed : (core new : Core T V G H) (before : List LogRecord) (s : State) → IsBeside before core s → tail_of new ≡ tail_of core → control_of new ≡ control_of core
      → durable_of new ≡ durable_of core → has_failed new ≡ true → IsBeside before new (with_failure s)
  beside_failed core new before s was tail control durable failed = record {
    first = ap G.first tail ∙ was.first;
    parts =
        subst (λ t. HasParts t (waiting_of new) (durable_of new) (has_failed new) before (with_failure s)) (sym control)
        (subst (λ l. HasParts (control_of core) (G.records l) (durable_of new) (has_failed new) before (with_failure s)) (sym tail)
        (subst (λ d. HasParts (control_of core) (waiting_of core) d (has_failed new) before (with_failure s)) (sym durable)
        (subst (λ b. HasParts (control_of core) (waiting_of core) (durable_of core) b before (with_failure s)) (sym failed)
        (parts_failed (control_of core) (waiting_of core) (durable_of core) (has_failed core) before s was.parts))));
  }

  pub in_failed : (core new : Core T V G H) (front : List ℕ) (disk : ℕ → List ℕ) (before : List LogRecord) (s : State) → IsBeside before core s
      → tail_of new ≡ tail_of core → control_of new ≡ control_of core → durable_of new ≡ durable_of core → has_failed new ≡ true
      → IsIn front disk before new (with_failure s)
  in_failed core new front disk before s was tail control durable failed = record { beside = beside_failed core new before s was tail control durable failed; pages = λ works. absurd (true_false works) }

-- the store of a state that has failed is the same
pub kept_failed : (s : State) (store : CheckpointedStore) → IsKept s store → IsKept (with_failure s) store
kept_failed s store kept = record { stored = record { log = kept.stored.log; durable = kept.stored.durable }; redone = kept.redone; recoverable = kept.recoverable }

-- .. and so is what works have made of it
pub behind_failed : (s : State) (store : CheckpointedStore) → IsKeptBehind s store → IsKeptBehind (with_failure s) store
behind_failed s store behind = record { works = behind.works; after = behind.after; work = behind.work; kept = kept_failed s behind.after behind.kept }

pub over_failed : {T V : Type 0} {G : tail.Ghosts T} {H : disk.Ghosts V} (core : Core T V G H) (disk : ℕ → List ℕ) (s : State) (store : CheckpointedStore) → IsKept s store → IsOver disk core (with_failure s) store
over_failed core disk s store kept = record { kept = kept_failed s store kept; pages = λ works. absurd (true_false works) }

-- a device that failed, or a page that was damaged, is noted
pub comes_noted : {T V : Type 0} {G : tail.Ghosts T} {H : disk.Ghosts V} (old new : Core T V G H) (front : List ℕ) (before : List LogRecord) (s : State) (store : CheckpointedStore) (f : Fault)
    → tail_of new ≡ tail_of old → control_of new ≡ control_of old → durable_of new ≡ durable_of old → has_failed new ≡ true
    → (f ≡ fault.Device) ⊎ ((d : Device) × (offset : ℕ) × (f ≡ fault.Damaged d offset)) → StaysRefused old front before s store f → CoreComesTo new front before store (after_refusal f s)
comes_noted old new front before s store f tail control durable noted why stays =
    let failed : CoreComesTo new front before store (with_failure s) = elim stays [
      | inl device ↦ comes_failed new front before (with_failure s) store refl (beside_failed old new before s device.1 tail control durable noted) (behind_failed s store device.2.behind)
      | inr comes ↦ record {
        left = comes.left;
        is_in = record { beside = beside_failed old new before s comes.is_in.beside tail control durable noted; pages = λ works. absurd (true_false works) };
        works = comes.works;
        after = comes.after;
        work = comes.work;
        over = record { kept = kept_failed s comes.after comes.over.kept; pages = λ works. absurd (true_false works) };
      }
    ] in
    elim why [
      | inl device ↦ subst (λ (f : Fault). CoreComesTo new front before store (after_refusal f s)) (sym device) failed
      | inr damaged ↦ subst (λ (f : Fault). CoreComesTo new front before store (after_refusal f s)) (sym damaged.2) failed
    ]

-- no other fault is noted
pub stays_after : (s : State) (f : Fault) → (f ≡ fault.Device → ⊥) → ((d : Device) (offset : ℕ) → f ≡ fault.Damaged d offset → ⊥) → after_refusal f s ≡ s
stays_after s fault.NoTransaction device damaged = refl
stays_after s fault.AlreadyActive device damaged = refl
stays_after s fault.TooManyTransactions device damaged = refl
stays_after s fault.NoStore device damaged = refl
stays_after s fault.NoPage device damaged = refl
stays_after s fault.NoRecord device damaged = refl
stays_after s fault.TooLong device damaged = refl
stays_after s fault.StoreFull device damaged = refl
stays_after s fault.LogFull device damaged = refl
stays_after s fault.LockTableFull device damaged = refl
stays_after s fault.BadMode device damaged = refl
stays_after s (fault.Deadlock cycle) device damaged = refl
stays_after s fault.MustAbort device damaged = refl
stays_after s fault.Busy device damaged = refl
stays_after s fault.NoSavepoint device damaged = refl
stays_after s fault.TooManySavepoints device damaged = refl
stays_after s fault.IsPrepared device damaged = refl
stays_after s fault.BadGlobalId device damaged = refl
stays_after s fault.GlobalIdInUse device damaged = refl
stays_after s fault.NoGlobalId device damaged = refl
stays_after s (fault.WouldBlock holder) device damaged = refl
stays_after s (fault.NeedForce number) device damaged = refl
stays_after s fault.Failed device damaged = refl
stays_after s fault.WrongVersion device damaged = refl
stays_after s fault.Memory device damaged = refl
stays_after s fault.NotQuiet device damaged = refl
stays_after s fault.NotFormatted device damaged = refl
stays_after s fault.WrongPair device damaged = refl
stays_after s (fault.BadConfig place) device damaged = refl
stays_after s fault.Device device damaged = absurd (device refl)
stays_after s (fault.Damaged d offset) device damaged = absurd (damaged d offset refl)

-- a refusal takes nothing from the store
kept_refused : (f : Fault) (s : State) (store : CheckpointedStore) → IsKept s store → IsKept (after_refusal f s) store
kept_refused fault.Device s store kept = kept_failed s store kept
kept_refused (fault.Damaged d offset) s store kept = kept_failed s store kept
kept_refused _ s store kept = kept

behind_refused : (f : Fault) (s : State) (store : CheckpointedStore) → IsKeptBehind s store → IsKeptBehind (after_refusal f s) store
behind_refused f s store behind = record { works = behind.works; after = behind.after; work = behind.work; kept = kept_refused f s behind.after behind.kept }

-- A core that ran is refused, be it for a failure or not: a crash leaves of its volume what the store may lose power with.
pub fails_refused : {T V : Type 0} {G : tail.Ghosts T} {H : disk.Ghosts V} (old new : Core T V G H) (front : List ℕ) (before : List LogRecord) (s : State) (store : CheckpointedStore) (f : Fault)
    → heap_of new ≡ heap_of old → s.failed ≡ false → StaysRefused old front before s store f → FailsOver new front (after_refusal f s) store
unfolding behind_refused
fails_refused {V = V} {H = H} old new front before s store f heap works stays = record { behind = behind_refused f s store so.0; left = subst (λ h. Left h so.0) (sym heap) so.1 }
  where
    Left : Heap V H → IsKeptBehind s store → Type 0
    Left h behind = (image : List ℕ) → may_leave (heaps.history_of h) image
        → (pages : LoggedPages) × CrashMayLeave behind.after.store pages × LeavesStore behind.after.store.log (heaps.geometry_of h) front pages image

    by_cause : StaysRefused old front before s store f → (behind : IsKeptBehind s store) × Left (heap_of old) behind
    by_cause (inl device) = (device.2.behind, device.2.left)
    by_cause (inr comes) = (
      record { works = comes.works; after = comes.after; work = comes.work; kept = comes.over.kept },
      λ image may. (comes.after.store.volume, (λ p. inl refl), left_settled (heap_of old) front comes.left comes.after.store image (comes.over.pages works).pages (comes.is_in.pages works).holds may),
    )

    so : (behind : IsKeptBehind s store) × Left (heap_of old) behind
    so = by_cause stays

-- ---- replies

-- a refusal that is no failure is noted nowhere
pub plain_refusal : {A : Type 0} (r : Result A Fault) (P : Fault → Type 0) (f : Fault) → IsErrAnd r (λ e. e ≡ f) → P f → IfErr r P
plain_refusal (Err e) P f same holds = subst P (sym same) holds
plain_refusal (Ok x) P f same holds = absurd same

module _ {T V : Type 0} {G : tail.Ghosts T} {H : disk.Ghosts V} (old new : Core T V G H) (front : List ℕ) (before : List LogRecord) (s : State) (store : CheckpointedStore) where
  -- a call that is refused before it has changed anything, by a fault that is no failure
  pub replied_as : (session : ℕ) (c : Call) (r : Result Step Fault) (f : Fault) → IsErrAnd r (λ e. e ≡ f) → CallStep (geometry_of old) s session c (Refused f) (after_refusal f s)
      → StaysRefused new front before s store f → Replied session c r old new front before s store
  replied_as session c (Err e) f same step stays = record {
    later = s;
    replies = subst (λ x. CallStep (geometry_of old) s session c (Refused x) (after_refusal x s)) (sym same) step;
    comes = subst (λ x. StaysRefused new front before s store x) (sym same) stays;
  }
  replied_as session c (Ok step) f same h stays = absurd same

  -- .. behind its locks
  pub served_as : (a : SessionTxn) (c : Call) (r : Result Step Fault) (f : Fault) → IsErrAnd r (λ e. e ≡ f) → IsServedBehind (geometry_of old) s a c (Err f) (after_refusal f s)
      → StaysRefused new front before s store f → Served a c r old new front before s store
  served_as a c (Err e) f same serves stays = record {
    later = s;
    serves = subst (λ x. IsServedBehind (geometry_of old) s a c (Err x) (after_refusal x s)) (sym same) serves;
    comes = subst (λ x. StaysRefused new front before s store x) (sym same) stays;
  }
  served_as a c (Ok step) f same serves stays = absurd same

-- a step that is no fault has the cause of its answer
pub plain_cause : (step : Step) (r : Result (Unit {0}) Fault) (old new : ℕ) → r ≡ Ok tt → HasCause (Ok step) old new → HasCause r old new
plain_cause step r old new plain cause = record {
  no_lower = cause.no_lower;
  reported = λ is. let clash : Ok tt ≡ Err fault.Device = sym plain ∙ is in absurd (ok_err clash);
  unreported = λ other. ok_same step old new cause;
}
  where
    ok_err : ◌≡◌ {A = Result (Unit {0}) Fault} (Ok tt) (Err fault.Device) → ⊥
    ok_err clash = cc

-- a fault has one cause, whatever an Ok would have had
pub refused_cause : {A B : Type 0} (f : Fault) (old new : ℕ) → HasCause {T = A} (Err f) old new → HasCause {T = B} (Err f) old new
refused_cause {A} {B} f old new cause = record {
  no_lower = cause.no_lower;
  reported = λ is. cause.reported (ap Err (fault_is is));
  unreported = λ other. cause.unreported (λ is. other (ap Err (fault_at is)));
}
  where
    fault_is : ◌≡◌ {A = Result B Fault} (Err f) (Err fault.Device) → f ≡ fault.Device
    fault_is e = cc

    fault_at : ◌≡◌ {A = Result A Fault} (Err f) (Err fault.Device) → f ≡ fault.Device
    fault_at e = cc
