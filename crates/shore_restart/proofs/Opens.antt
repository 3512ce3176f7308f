-- A core over a restart opens over its store: what the log leaves is in place, those in doubt are under way with what is theirs, and nobody else is.
use Rattle.std.proofs.Common.{◌≡◌, ◌+◌, ◌≤◌, ℕ, List, Option, false, map, refl, sym, ap, subst, ◌∙◌, drop, length, length-append, arith}
use Rattle.shore_disk.specs.declared.device.Disk as disk
use Rattle.shore_types.specs.declared.layout.Geometry.{Geometry}
use Rattle.shore_types.specs.declared.layout.TheConstants.{LAST_OPENED}
use Rattle.shore_types.specs.Versions.{slot_limit}
use Rattle.shore_model.specs.declared.histories.Opening.{Opening}
use Rattle.shore_model.specs.declared.log_records.LogRecord.{LogRecord}
use Rattle.shore_model.specs.declared.log_records.LogTxn.{LogTxn}
use Rattle.shore_model.specs.Logs.{Lawful}
use Rattle.laws_lives.specs.Doubts.{IsOpeningOf, doubts_in, pair_logged, undo_in}
use Rattle.laws_lives.specs.Recovery.{IsRecoverable, RecoveryState}
use Rattle.laws_lives.specs.Sessions.{SessionTxn}
use Rattle.laws_lives.specs.Undo.{HasNoLosers, IsUndoneTo}
use Rattle.laws_lives.specs.Views.{IsAmong}
use Rattle.laws_lives.proofs.Invariant.{redone_whole}
use Rattle.laws_lives.proofs.SessionsAgree.{each_at}
use Rattle.laws_lives.proofs.UndoRecords.{undone_grows, undone_lawful}
use Rattle.laws_lives.proofs.WritersTold.{leaves_told}
use Rattle.laws_calls.specs.States.{State, page_slots}
use Rattle.laws_checkpoints.specs.Checkpoints.{Checkpoint, end_among, redo_behind}
use Rattle.laws_checkpoints.specs.CheckpointedStores.{CheckpointedStore}
use Rattle.laws_checkpoints.specs.KeptTables.{IsKeptTable}
use Rattle.laws_runs.specs.StoredRuns.{IsOpenedOver}
use Rattle.laws_heaps.specs.HeapRecoveries.{HasRecoveries}
use Rattle.shore_analysis.specs.Doubts.{doubts_left}
use Rattle.shore_analysis.specs.KeptMeant.{AreMeantKept}
use Rattle.shore_analysis.specs.KeptTables.{IsNextKept}
use Rattle.shore_analysis.specs.Padded.{padded}
use Rattle.shore_analysis.proofs.InTurn.{in_order_undone}
use Rattle.shore_heap.specs.declared.heap.Heap.{Heap}
use Rattle.shore_heap.specs.Heaps.{Shows}
use Rattle.shore_log.specs.declared.tail.Tail as tail
use Rattle.shore_txn.specs.Transactions as table
use Rattle.shore_txn.specs.Transactions.{kept_in, next_in, room_in}
use Rattle.shore_txn.specs.Txns.{last_of}
use Rattle.shore_txn.specs.declared.txn.Txn.{Txn}
use Rattle.shore_sessions.specs.declared.control.Control.{Control}
use Rattle.shore_sessions.specs.Controls.{txns_in}
use Rattle.shore_sessions.specs.Standing.{HasControl}
use Rattle.shore_core.specs.declared.core_calls.Core.{Core}
use Rattle.shore_core.specs.Cores.{IsIn, IsKept, IsOver}
use Rattle.shore_core.specs.Stores.{IsHeapOf}
use Rattle.shore_restart.specs.Anchors.{EndsBehind}
use Rattle.shore_restart.specs.GivenBack.{HasDoubtsBack, StandsWith}
use Rattle.shore_restart.specs.Opened.{OpensIn}
use Rattle.shore_restart.specs.Room.{IsRoomBehind}
use Rattle.shore_restart.specs.Turns.{IsUndoneSoFar}
use Rattle.shore_restart.proofs.DoubtsKept.{few_doubts}
use Rattle.shore_restart.proofs.DoubtsTold.{active_listed, as_many_undos, each_given, one_of_them, prepared_listed}
use Rattle.shore_restart.proofs.KeptPages.{shows_opened}
use Rattle.shore_restart.proofs.OpenedTxns.{given_earlier, opened_above, opened_control, opened_locks, opened_state}
use Rattle.shore_restart.proofs.Unkept.{are_told}
use Rattle.shore_restart.proofs.WholeDoubts.{doubts_found, found_below, locks_still, told_still, undo_still}

-- ---- the state

module _ (cut : ℕ) (ready : RecoveryState) (control : Control) (ring_bytes slots : ℕ) (g : Geometry) (kept found : List LogRecord) (ends : EndsBehind cut found) (same : drop cut found ≡ kept) (meant : AreMeantKept g cut kept)
    (turns : List ℕ) (undone : IsUndoneTo found turns ready.log) (limit : ℕ) (back : HasDoubtsBack limit (padded cut kept) control) (checkpoint : ℕ)
    (next : IsNextKept kept (end_among checkpoint kept) (next_in (txns_in control))) (behind : cut ≤ redo_behind (end_among checkpoint found)) (is : end_among checkpoint found ≡ end_among checkpoint kept) where
  abbrev seen : List LogRecord
  seen = padded cut kept

  opened_over : IsRecoverable ready → ready.redone ≡ length ready.log → Lawful found → HasNoLosers ready.log → (txns : List LogTxn) → IsKeptTable cut kept txns → (o : Opening) → IsOpeningOf found o → o.slots ≡ slots
      → IsOpenedOver o ready (opened_state cut ready control ring_bytes slots)
  opened_over recoverable redone lawful quiet txns entries o opening sized =
      let below = found_below cut checkpoint (next_in (txns_in control)) found lawful kept same is behind next in
      record {
        sessions = record {
          slots = sym sized;
          records = λ id. sym (redone_whole ready recoverable redone id.page id.slot ∙ leaves_told ready.log (undone_lawful found turns ready.log undone lawful) quiet id);
          seats = λ n. refl;
          resolving = refl;
          prepared = prepared_listed seen (txns_in control) back.txns o.in_doubt (opening.in_doubt ∙ sym listed);
          active = active_listed seen (txns_in control) back.txns o.in_doubt (opening.in_doubt ∙ sym listed);
          undo_lists = λ a among.
              let of = one_of_them seen (txns_in control) back.txns a among in
              subst (λ (a : SessionTxn). a.undo ≡ undo_in ready.log a.txn) of.2 (sym (undo_still g cut kept found ends same meant turns ready.log undone of.0 of.1));
          locks = locks_still g cut kept found ends same meant turns ready.log undone lawful _ back.locks.restored;
          some = next.some;
          below = opened_above cut ready control ring_bytes slots g kept found ends same meant turns undone limit back next.some next.above below;
        };
        stored = record { log = refl; durable = refl };
        locks = opened_locks cut ready control ring_bytes slots g kept found ends same meant turns undone limit back next.some next.above below;
        waiting = refl;
        running = refl;
        few = let few = few_doubts g cut kept meant txns entries in let many = as_many_undos seen (txns_in control) back.txns in omega (arith, few, many);
      }
    where
      listed : map pair_logged (doubts_left seen) ≡ map pair_logged (doubts_in found)
      listed = ap (map pair_logged) (doubts_found g cut kept found ends same meant turns ready.log undone lawful)

-- ---- the core

module _ {T V : Type 0} {G : tail.Ghosts T} {H : disk.Ghosts V} (core : Core T V G H) (heap : Heap V H) (control : Control) (front : List ℕ) (left : ℕ → List ℕ)
    (cut checkpoint : ℕ) (kept found : List LogRecord) (ring_bytes : ℕ) (ready : CheckpointedStore) where
  -- What is made of a heap and a control that a restart has left opens over its store: `found` is the whole log that the restart has found, and `kept` what is kept of it.
  pub opens_in : (g : Geometry) → AreMeantKept g cut kept → EndsBehind cut found → drop cut found ≡ kept → Lawful found → IsUndoneSoFar found ready.store.log → HasNoLosers ready.store.log
      → ready.store.redone ≡ length ready.store.log → StandsWith (kept_in (txns_in control)) front left heap ready.store → HasRecoveries heap ready.recovery → (limit : ℕ) → HasDoubtsBack limit (padded cut kept) control
      → IsNextKept kept (end_among checkpoint kept) (next_in (txns_in control)) → cut ≤ redo_behind (end_among checkpoint found) → end_among checkpoint found ≡ end_among checkpoint kept
      → IsRoomBehind cut (drop cut ready.store.log) ring_bytes (room_in (txns_in control)) → (txns : List LogTxn) → IsKeptTable cut kept txns
      → ((s : State) → s.log ≡ ready.store.log → s.durable ≡ ready.store.durable → s.failed ≡ false → HasControl control s → Shows (kept_in (txns_in control)) heap front left (page_slots s) → IsIn front left s.log core s)
      → ((s : State) (store : CheckpointedStore) → IsKept s store → IsHeapOf heap left store → IsOver left core s store) → OpensIn g.version cut checkpoint core front left found ring_bytes ready
  opens_in g meant ends same lawful so_far quiet redone stands recoveries limit back next behind is room txns entries in_state over_store =
      let s = opened_state cut ready.store control ring_bytes (slot_limit g.version) in
      let turns = so_far.0 in
      let undone : IsUndoneTo found turns ready.store.log = in_order_undone found turns ready.store.log so_far.1 in
      let still_lawful = undone_lawful found turns ready.store.log undone lawful in
      let below = found_below cut checkpoint (next_in (txns_in control)) found lawful kept same is behind next in
      let told = told_still g cut kept found ends same meant turns ready.store.log undone lawful (txns_in control) (are_told (padded cut kept) (txns_in control) back.txns) in
      record {
        first = s;
        slots = refl;
        opened = opened_over cut ready.store control ring_bytes (slot_limit g.version) g kept found ends same meant turns undone limit back checkpoint next behind is stands.recoverable redone lawful quiet txns entries;
        counts = λ p. refl;
        stream = refl;
        next = subst (λ (o : Option Checkpoint). IsNextKept (drop cut found) o (next_in (txns_in control))) (sym is)
            (subst (λ (rs : List LogRecord). IsNextKept rs (end_among checkpoint kept) (next_in (txns_in control))) (sym same) next);
        is_in = in_state s refl refl refl (opened_control cut ready.store control ring_bytes (slot_limit g.version) g kept found ends same meant turns undone limit back next.some next.above below room)
            (shows_opened (txns_in control) front left heap ready.store stands told redone still_lawful quiet);
        over = over_store s ready (record { stored = record { log = refl; durable = refl }; redone = redone; recoverable = stands.recoverable }) (record { pages = stands.store; recoveries = recoveries });
      }

-- ---- what the core asks

-- the last record of each is one of the log's
pub are_earlier : (g : Geometry) (cut : ℕ) (kept seen_later : List LogRecord) → AreMeantKept g cut kept → IsUndoneSoFar (padded cut kept) seen_later → (limit : ℕ) (control : Control) → HasDoubtsBack limit (padded cut kept) control
    → (t : Txn) → IsAmong t (table.txns_in (txns_in control)) → last_of t ≤ length seen_later
are_earlier g cut kept seen_later meant so_far limit control back t among =
    let seen = padded cut kept in
    let grown = undone_grows seen so_far.0 seen_later (in_order_undone seen so_far.0 seen_later so_far.1) in
    let all = each_given seen (txns_in control) back.txns (λ t. last_of t ≤ length seen) (λ d t there of. given_earlier g cut kept meant d t there of) in
    let low = each_at (λ (t : Txn). last_of t ≤ length seen) (table.txns_in (txns_in control)) t all among in
    omega (arith, low, ap length grown.1, length-append seen grown.0)

-- .. and numbers are left for all that is reserved
pub numbers_left : (cut : ℕ) (kept : List LogRecord) (control : Control) (ring_bytes : ℕ) → IsRoomBehind cut kept ring_bytes (room_in (txns_in control)) → cut + length kept + 1 + (room_in (txns_in control)).reserved ≤ LAST_OPENED
numbers_left cut kept control ring_bytes room = let numbers = room.leaves.numbers in let reserved = room.reserved in omega (arith, numbers, reserved)
