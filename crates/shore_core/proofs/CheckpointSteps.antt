-- The steps of a checkpoint: its records, its tables and its room.
use Rattle.std.proofs.Common.{inl, inr, ◌≡◌, ◌⊎◌, ◌+◌, ◌-◌, ◌*◌, ◌<◌, ◌≤◌, ◌++◌, ◌∷◌, [], List, ℕ, None, All, Result, Ok, Err, IsErrAnd, false, length, length-append, length-take-le, take, drop, refl, sym, ap, ◌∙◌, subst, arith}
use Rattle.shore_types.specs.declared.layout.TheConstants.{LAST_OPENED, LONGEST_FRAME}
use Rattle.shore_types.specs.declared.faults.Fault.{Fault}
use Rattle.shore_types.specs.declared.faults.Fault.TheVariants as fault
use Rattle.shore_disk.specs.declared.device.Disk as disk
use Rattle.shore_model.specs.declared.log_records.DirtyPage.{DirtyPage}
use Rattle.shore_model.specs.declared.log_records.LogRecord.{LogRecord}
use Rattle.shore_model.specs.declared.log_records.LogTxn.{LogTxn}
use Rattle.shore_model.specs.declared.log_records.Payload.TheVariants.{CheckpointBegin}
use Rattle.shore_model.specs.Logs.{IsEntry, IsListed, IsTable, image_in}
use Rattle.shore_frames.proofs.CostLemmas.{cost_texts}
use Rattle.shore_log.specs.declared.device.LogDev.{LogDev}
use Rattle.shore_log.specs.declared.tail.Tail as tail
use Rattle.shore_log.specs.Settled.{FreesBelow, cut_of_log, records_of_log, stable}
use Rattle.shore_check.specs.Stages.{IsAt, IsBegun}
use Rattle.shore_check.specs.declared.stage.Stage.{Stage}
use Rattle.shore_model.specs.declared.step.Step.{Step}
use Rattle.shore_sessions.specs.Controls.{txns_in}
use Rattle.shore_sessions.specs.declared.control.Control.{Control}
use Rattle.shore_core.proofs.Decided.{in_logged}
use Rattle.shore_core.proofs.Leaving.{in_lacking}
use Rattle.shore_check.specs.Tables.{Takes}
use Rattle.shore_check.specs.declared.stage.Begun.{Begun}
use Rattle.shore_check.proofs.TablesTaken.{tables_now}
use Rattle.laws_room.specs.LogRooms.{LogRoom}
use Rattle.laws_calls.specs.States.{State, cost_of_log, log_room, next_number, page_slots}
use Rattle.laws_checkpoints.specs.Checkpoints.{Anchored, Checkpoint, cut_of, cut_point, of_checkpoint}
use Rattle.laws_checkpoints.specs.CheckpointedStores.{AreTablesNow, BeginCheckpoint, BeginLogged, CheckpointedLeadsTo, CheckpointedStore, CheckpointStage, NoCheckpoint, begun_now}
use Rattle.laws_checkpoints.specs.RingRooms.{AdmitsCheckpoint, HasRingRoom}
use Rattle.laws_checkpoints.specs.StoresInOrder.{IsInOrder}
use Rattle.laws_checkpoints.proofs.Orders.{order_kept}
use Rattle.laws_lives.specs.Recovery.{AppendRecord, LeadsTo, after_append}
use Rattle.laws_lives.proofs.Invariant.{event_kept}
use Rattle.laws_runs.specs.StoredRuns.{IsStored}
use Rattle.shore_heap.specs.declared.heap.Heap.{Heap}
use Rattle.laws_heaps.specs.HeapRecoveries.{HasRecoveries}
use Rattle.laws_heaps.specs.LoggedHeaps.{IsStoreOf}
use Rattle.laws_heaps.proofs.Made.{appended_without}
use Rattle.laws_checkpoints.specs.RecoveryNumbers.{IsDirtyTableOf}
use Rattle.shore_logrec.specs.Text.{texts}
use Rattle.std.proofs.lemmas.List.{drop-take, take-append-le}
use Rattle.laws_runs.specs.CheckpointSteps.{CheckpointMoves, CheckpointedState, IsCheckpointNow, freed_to, moved_to, noted, owed_to, ring_room, with_record}
use Rattle.shore_core.specs.declared.core_calls.Core.{Core}
use Rattle.shore_core.specs.Checkpointing.{Begins, HasKept, IsNow, IsReady, MakesStep, sums_of, with_store}
use Rattle.shore_core.specs.Cores.{IsIn, IsOver, control_of, durable_of, first_of, has_failed, heap_of, last_of, txns_of, waiting_of}
use Rattle.shore_core.proofs.Tables.{reserved_is, next_is}
use Rattle.shore_types.specs.declared.ids.PageId.{PageId}
use Rattle.shore_heap.specs.Heaps.{Shows}
use Rattle.shore_sessions.specs.Standing.{HasControl}
use Rattle.shore_core.specs.Stores.{IsHeapOf}
use Rattle.shore_core.proofs.Coming.{over_as, pages_told}
use Rattle.shore_txn.specs.Transactions.{kept_in, room_in}

-- no more are forced than it has
stable_short : {D : Type 0} {L : disk.Ghosts D} (log : LogDev D L) → length (stable log) ≤ length (records_of_log log)
stable_short log = let long = length-take-le log.forced (records_of_log log) log.forced_inside in omega (arith, long, log.forced_inside)

-- ---- the begin

pub first_some : (store : CheckpointedStore) → IsInOrder store → 1 ≤ store.anchored.tail
first_some store order = elim order.anchor [ inl none ↦ omega (arith, ap (λ (a : Anchored). a.tail) none) | inr at ↦ at.1.first ]

module _ (s : State) (store : CheckpointedStore) (logged : IsStored s store.store) (redone : store.store.redone ≡ length store.store.log) (order : IsInOrder store) (rests : store.stage ≡ NoCheckpoint)
    (next : ℕ) (txns : List LogTxn) (dirty : List DirtyPage) (c : Checkpoint) (b : Begun)
    (table : IsTable s.log txns) (above : All (λ r. r.txn < next) s.log) (pages : IsDirtyTableOf store.recovery dirty) (takes : Takes (next_number s) next txns dirty c) (begun : IsBegun c b) where
  pub tables : AreTablesNow store c.next c.txns c.dirty
  tables = subst (λ n. AreTablesNow store n c.txns c.dirty) (sym takes.next_txn) (tables_now store (next_number s) next txns dirty c b (record {
    each = subst (λ l. All (IsEntry l) txns) (sym logged.log) table.each;
    every = subst (λ l. All (IsListed l txns) l) (sym logged.log) table.every;
    above = subst (λ (l : List LogRecord). All (λ r. r.txn < next) l) (sym logged.log) above;
    dirty_now = pages;
  }) takes begun)

  -- it is behind what is kept, and so is all that it may cut
  pub cut_behind : store.anchored.tail ≤ cut_point c
  cut_behind =
      let now = begun_now store.store c.next c.txns c.dirty in
      let begin_is : length store.store.log + 1 ≡ c.begin = omega (arith, takes.begin, ap length logged.log) in
      let is : now ≡ c = ap (λ n. record c { begin = n }) begin_is in
      let new = record store { store = after_append store.store (of_checkpoint CheckpointBegin); stage = BeginLogged now } in
      let leads : CheckpointedLeadsTo store (BeginCheckpoint c.next c.txns c.dirty) new = (rests, redone, tables, refl) in
      let right = (order_kept store (BeginCheckpoint c.next c.txns c.dirty) new order leads).stage_right in
      subst (λ (x : Checkpoint). store.anchored.tail ≤ cut_point x) is right.0.no_lower

  pub ready : c.next ≡ s.sessions.next_txn → IsReady (with_store s store) b
  ready next_is = (c, record { begin = takes.begin; next = next_is; tables = tables; fits = begun.fits; behind = cut_behind }, begun)

-- what is freed by what the log device has is what the checkpoint counts on
pub counts_on : {D : Type 0} {L : disk.Ghosts D} (log : LogDev D L) (s : State) (store : CheckpointedStore) (c : Checkpoint) → IsInOrder store → HasKept log (with_store s store)
    → IsNow (with_store s store) c → (kept_from freed : ℕ) → FreesBelow log (cut_point c) kept_from freed → IsCheckpointNow (with_store s store) c kept_from
counts_on log s store c order kept now kept_from freed frees = record {
  begin = now.begin;
  next = now.next;
  tables = now.tables;
  fits = now.fits;
  no_lower = omega (arith, frees.from, kept.cut, first_some store order);
  forced = omega (arith, frees.forced, kept.forced);
  no_higher = frees.below;
}

-- ---- what a cut frees

module _ {D : Type 0} {L : disk.Ghosts D} (log : LogDev D L) (s : State) (store : CheckpointedStore) (kept : HasKept log (with_store s store)) where
  abbrev cut : ℕ
  cut = cut_of store.anchored

  pub freed_is : (number kept_from freed : ℕ) → FreesBelow log number kept_from freed → freed ≡ freed_to (with_store s store) kept_from
  freed_is number kept_from freed frees =
      let more = kept_from - 1 - cut in
      let from : cut < kept_from = omega (arith, frees.from, kept.cut) in
      let same : kept_from - 1 - cut_of_log log ≡ more = ap (λ n. kept_from - 1 - n) kept.cut in
      let all = records_of_log log in
      let records : take (kept_from - 1 - cut_of_log log) all ≡ take more all = ap (λ n. take n all) same in
      let least : length (stable log) ≤ length all = stable_short log in
      let long : more ≤ length all = omega (arith, from, frees.forced, least, kept.cut) in
      let sum : kept_from - 1 ≡ cut + more = omega (arith, from) in
      let those : drop cut (take (kept_from - 1) s.log) ≡ take more all =
      ap (λ n. drop cut (take n s.log)) sum ∙ drop-take cut more s.log ∙ ap (take more) kept.kept ∙ take-append-le more all kept.coming long in
      let cost = cost_texts (take more all) in
      let count = length-take-le more all long in
      omega (arith, frees.cost, same, ap (λ l. length (texts l)) records, cost, count, ap cost_of_log those)

-- ---- cores

module _ {T V : Type 0} {G : tail.Ghosts T} {H : disk.Ghosts V} where
  -- ---- room

  pub sums_are : (core : Core T V G H) (sums : LogRoom) → sums.kept ≡ (sums_of core).kept → sums.reserved ≡ (sums_of core).reserved → sums.stream_bytes ≡ (sums_of core).stream_bytes
      → sums.last_lsn ≡ (sums_of core).last_lsn → sums ≡ sums_of core
  sums_are core sums kept reserved stream last = λ i. record { kept = kept i; reserved = reserved i; stream_bytes = stream i; last_lsn = last i }

  -- the sums have the same room as those of the state, of which both sides count what is cut off
  module _ (core : Core T V G H) (before : List LogRecord) (s : State) (front : List ℕ) (left : ℕ → List ℕ) (is : IsIn front left before core s) where
    last_is : last_of core ≡ length s.log
    last_is = let next = next_is core.control (waiting_of core) (durable_of core) (has_failed core) before s is.beside.parts (first_of core) is.beside.first 0 in omega (arith, next)

    owed_is : (log_room s).reserved ≡ (room_in (txns_of core)).reserved
    owed_is = reserved_is core.control (waiting_of core) (durable_of core) (has_failed core) before s is.beside.parts (first_of core) is.beside.first 0

    pub admits_as : (cost freed : ℕ) → AdmitsCheckpoint (sums_of core) cost freed → AdmitsCheckpoint (log_room s) cost freed
    admits_as cost freed h =
        let room = is.beside.parts.stands.txns.room in
        record { numbers = omega (arith, h.numbers, last_is); fits = omega (arith, h.fits, room, owed_is); leaves = omega (arith, h.leaves, room, owed_is) }

    pub admits_back : (cost freed : ℕ) → AdmitsCheckpoint (log_room s) cost freed → AdmitsCheckpoint (sums_of core) cost freed
    admits_back cost freed h =
        let room = is.beside.parts.stands.txns.room in
        record { numbers = omega (arith, h.numbers, last_is); fits = omega (arith, h.fits, room, owed_is); leaves = omega (arith, h.leaves, room, owed_is) }

    -- what is owed has its room
    pub has_owed : (cost owed : ℕ) → cost ≤ owed → (log_room s).kept + (log_room s).reserved + owed + LONGEST_FRAME ≤ (log_room s).stream_bytes
        → (room_in (txns_of core)).kept + (room_in (txns_of core)).reserved + cost + LONGEST_FRAME ≤ (room_in (txns_of core)).stream_bytes
    has_owed cost owed less h = let room = is.beside.parts.stands.txns.room in omega (arith, less, h, room, owed_is)

    pub number_owed : (owed limit : ℕ) → 0 < owed → (log_room s).last_lsn + (log_room s).reserved + owed < limit → first_of core + length (waiting_of core) + (room_in (txns_of core)).reserved < limit
    number_owed owed limit some h = let first = is.beside.first in let next = next_is core.control (waiting_of core) (durable_of core) (has_failed core) before s is.beside.parts (first_of core) is.beside.first 0 in
        omega (arith, some, h, owed_is, next)

  -- ---- a record

  -- a record of the checkpoint is logged, and the heap is the same
  pub over_noted : (old new : Core T V G H) (left : ℕ → List ℕ) (s : State) (store : CheckpointedStore) (r : LogRecord) (to : CheckpointStage) → heap_of new ≡ heap_of old → image_in r.payload ≡ None
      → IsOver left old s store → IsOver left new (with_record r s) (noted (with_store s store) r to).store
  over_noted old new left s store r to heap none over =
      let leads : LeadsTo store.store (AppendRecord r) (after_append store.store r) = (over.kept.redone, refl) in
      let long = length-append store.store.log (r ∷ []) in
      record {
        kept = record {
          stored = record { log = ap (λ l. l ++ r ∷ []) over.kept.stored.log; durable = over.kept.stored.durable };
          redone = omega (arith, over.kept.redone, long);
          recoverable = event_kept store.store (AppendRecord r) (after_append store.store r) over.kept.recoverable leads;
        };
        pages = λ works. record {
          pages = subst (λ (h : Heap V H). IsStoreOf h left (after_append store.store r)) (sym heap) (appended_without (heap_of old) left store.store r (over.pages works).pages over.kept.recoverable over.kept.redone none).1;
          recoveries = subst (λ (h : Heap V H). HasRecoveries h store.recovery) (sym heap) (over.pages works).recoveries;
        };
      }

  -- a step that logs this record
  pub logged_step : (old new : Core T V G H) (front : List ℕ) (left : ℕ → List ℕ) (before : List LogRecord) (s : State) (store : CheckpointedStore) → IsIn front left before old s → IsOver left old s store
      → (r : LogRecord) (to : CheckpointStage) (step : Step) (now : Stage) → heap_of new ≡ heap_of old → first_of new ≡ first_of old → durable_of new ≡ durable_of old → has_failed new ≡ has_failed old
      → ((p : PageId) → kept_in (txns_of new) p ≡ kept_in (txns_of old) p) → waiting_of new ≡ waiting_of old ++ r ∷ [] → image_in r.payload ≡ None → HasControl (control_of new) (with_record r s)
      → CheckpointMoves (with_store s store) step (noted (with_store s store) r to) → IsAt now to → MakesStep step now new front left before (with_store s store)
  logged_step old new front left before s store is over r to step now heap first durable failed claims added none stands moves at = record {
    later = noted (with_store s store) r to;
    moves = moves;
    comes = record {
      is_in = in_logged old new front left before s (with_record r s) store is over heap first durable failed claims (λ p. refl) r added stands refl refl refl;
      over = over_noted old new left s store r to heap none over;
      at = at;
    };
  }

  -- one that leaves state and store
  pub same_step : (old new : Core T V G H) (front : List ℕ) (left : ℕ → List ℕ) (before : List LogRecord) (s : State) (store : CheckpointedStore) → IsIn front left before old s → IsOver left old s store → (step : Step) (now : Stage)
      → heap_of new ≡ heap_of old → first_of new ≡ first_of old → waiting_of new ≡ waiting_of old → durable_of new ≡ durable_of old → has_failed new ≡ has_failed old → control_of new ≡ control_of old
      → CheckpointMoves (with_store s store) step (with_store s store) → IsAt now store.stage → MakesStep step now new front left before (with_store s store)
  same_step old new front left before s store is over step now heap first waiting durable failed control moves at = record {
    later = with_store s store;
    moves = moves;
    comes = record {
      is_in = in_lacking old new front left before s store heap first waiting durable failed (ap txns_in control) (subst (λ (x : Control). HasControl x s) (sym control) is.beside.parts.stands) is;
      over = over_as old new left s s store heap refl refl refl over;
      at = at;
    };
  }

  -- ---- what is owed

  -- a record that is owed to the checkpoint has its room, and a number
  pub holds_owed : (core : Core T V G H) (front : List ℕ) (left : ℕ → List ℕ) (before : List LogRecord) (s : State) (store : CheckpointedStore) → IsIn front left before core s → HasRingRoom (ring_room (with_store s store))
      → (cost : ℕ) → 0 < cost → cost ≤ owed_to store.stage
      → ((room_in (txns_of core)).kept + (room_in (txns_of core)).reserved + cost + LONGEST_FRAME ≤ (room_in (txns_of core)).stream_bytes)
      × (first_of core + length (waiting_of core) + (room_in (txns_of core)).reserved < LAST_OPENED)
  holds_owed core front left before s store is room cost some less =
      let fits = room.fits in
      let numbers = room.numbers in (
        has_owed core before s front left is cost (owed_to store.stage) less (omega (arith, fits)),
        number_owed core before s front left is (owed_to store.stage) LAST_OPENED (omega (arith, some, less)) (omega (arith, numbers)),
      )

  -- an allocation failed
  pub begins_none : (tail : ℕ) (groups : List (List LogRecord)) (new : Core T V G H) (front : List ℕ) (left : ℕ → List ℕ) (before : List LogRecord) (s : State) (store : CheckpointedStore) (r : Result (ℕ × Begun) Fault)
      → IsErrAnd r (λ f. f ≡ fault.Memory) → IsIn front left before new s → IsOver left new s store → Begins tail groups r new front left before (with_store s store)
  begins_none tail groups new front left before s store (Err f) memory is over = (inl memory, is, over)
  begins_none tail groups new front left before s store (Ok begun) memory is over = absurd memory

  -- ---- the move

  -- the anchor has moved, and as much is free
  module _ (old new : Core T V G H) (front : List ℕ) (left : ℕ → List ℕ) (before : List LogRecord) (s : State) (store : CheckpointedStore) (is : IsIn front left before old s) (over : IsOver left old s store)
      (a : Anchored) (freed : ℕ) (heap : heap_of new ≡ heap_of old) (first : first_of new ≡ first_of old) (waiting : waiting_of new ≡ waiting_of old) (durable : durable_of new ≡ durable_of old)
      (failed : has_failed new ≡ has_failed old) (claims : (p : PageId) → kept_in (txns_of new) p ≡ kept_in (txns_of old) p) (stands : HasControl (control_of new) (record s { stream_bytes = s.stream_bytes + freed }))
      (frees : freed ≡ freed_to (with_store s store) a.tail) where
    abbrev later : CheckpointedState
    later = moved_to (with_store s store) a

    pub in_moved : IsIn front left before new later.state
    in_moved = record {
      beside = record {
        first = first ∙ is.beside.first;
        parts = record {
          stands = subst (λ n. HasControl (control_of new) (record s { stream_bytes = s.stream_bytes + n })) frees stands;
          log = is.beside.parts.log ∙ ap (λ l. before ++ l) (sym waiting);
          durable_is = is.beside.parts.durable_is ∙ sym durable;
          failed_is = is.beside.parts.failed_is ∙ sym failed;
        };
      };
      pages = λ works. subst (λ (h : Heap V H). Shows (kept_in (txns_of new)) h front left (page_slots s)) (sym heap) (pages_told (heap_of old) (txns_of old) (txns_of new) front left (page_slots s) claims (is.pages works));
    }

    pub over_moved : IsOver left new later.state later.store
    over_moved = record {
      kept = record { stored = record { log = over.kept.stored.log; durable = over.kept.stored.durable }; redone = over.kept.redone; recoverable = over.kept.recoverable };
      pages = λ works. subst (λ (h : Heap V H). IsHeapOf h left later.store) (sym heap) (record { pages = (over.pages works).pages; recoveries = (over.pages works).recoveries });
    }
