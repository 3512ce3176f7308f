-- An open over a log of which the front is cut off makes a manager that is under way with its checkpoints.
use Rattle.std.proofs.Common.{◌≡◌, ◌++◌, ◌+◌, ◌<◌, ◌≤◌, ℕ, zero, suc, List, [], ◌∷◌, Bool, true, false, cond, IfSome, None, Option, Some, refl, sym, ap, subst, ◌∙◌, length, take, drop, arith}
use Rattle.std.specs.Prelude.{◌==◌}
use Rattle.std.specs.List.{AllByRecursion}
use Rattle.std.proofs.lemmas.List.{take-append-le}
use Rattle.std.proofs.lemmas.List.Elements.{recursion_from_All}
use Rattle.shore_types.specs.declared.layout.Geometry.{Geometry}
use Rattle.shore_types.specs.declared.layout.TheConstants.{LAST_TXN}
use Rattle.shore_model.specs.declared.histories.Opening.{Opening}
use Rattle.shore_model.specs.declared.log_records.LogRecord.{LogRecord}
use Rattle.shore_model.specs.declared.log_records.Payload.{Payload}
use Rattle.shore_model.specs.declared.log_records.Payload.TheVariants.{CheckpointEnd}
use Rattle.shore_analysis.specs.Meant.{IsInBounds, next_in}
use Rattle.laws_lives.proofs.Lists.{recursion-weaker}
use Rattle.laws_lives.proofs.Restarts.{events_restart}
use Rattle.laws_lives.proofs.UndoRecords.{undone_grows}
use Rattle.laws_lives.specs.Doubts.{IsOpeningOf}
use Rattle.laws_lives.specs.Pages.{LoggedPages}
use Rattle.laws_lives.specs.Recovery.{RecoveryEvent, RecoveryState}
use Rattle.laws_lives.specs.Restarts.{IsRestartOf}
use Rattle.laws_lives.specs.Stretches.{MayBeFound}
use Rattle.laws_lives.specs.Undo.{HasNoLosers}
use Rattle.laws_calls.specs.CallHistories.{IsPrefix}
use Rattle.laws_calls.specs.States.{State, cost_of_log, log_room}
use Rattle.laws_checkpoints.proofs.CheckpointSteps.{cut_now}
use Rattle.laws_checkpoints.proofs.Ends.{end_longer}
use Rattle.laws_checkpoints.proofs.RingRooms.{ring_opens}
use Rattle.laws_checkpoints.specs.Checkpoints.{Anchored, Checkpoint, cut_of, end_among, end_in, or_next_end}
use Rattle.laws_checkpoints.specs.CheckpointedStores.{CheckpointStage, CheckpointedStore}
use Rattle.laws_checkpoints.specs.RingRooms.{HasRingRoom}
use Rattle.laws_runs.proofs.ManagerLogs.{restart_roomy}
use Rattle.laws_runs.proofs.Opens.{IsOpenedAs, numbers_below}
use Rattle.laws_runs.proofs.OwedRooms.{owing}
use Rattle.laws_runs.proofs.PlainWorks.{HasRestarted, restart_goes}
use Rattle.laws_runs.proofs.Prefixes.{whole_placed}
use Rattle.laws_runs.proofs.UnderWay.{as_under_way}
use Rattle.laws_runs.specs.CheckpointSteps.{log_limit, owed_to}
use Rattle.laws_runs.specs.CheckpointedStates.{BeganBehind, IsAtCheckpoints, IsOpenedBehind, MayBeOpenedBehind, NamesNextInBounds, found_behind}
use Rattle.laws_runs.specs.CheckpointedStays.{RestartsBehind}
use Rattle.laws_runs.specs.RoomyLogs.{AreRoomy}
use Rattle.laws_runs.specs.SoundStores.{IsUnderWay}
use Rattle.laws_runs.specs.StoredRuns.{IsOpenedOver}

-- ---- numbers

-- the End that is found is in bounds
names_in_bounds : (begin : ℕ) (p : Payload) (rest : Option Checkpoint) → next_in p ≤ LAST_TXN → IfSome rest (λ c. c.next ≤ LAST_TXN) → IfSome (or_next_end (end_in begin p) rest) (λ c. c.next ≤ LAST_TXN)
names_in_bounds begin (CheckpointEnd b next txns dirty) rest low h = by (b == begin)
  where
    by : (same : Bool) → IfSome (or_next_end (cond same (Some (record { begin = b; next = next; txns = txns; dirty = dirty })) None) rest) (λ c. c.next ≤ LAST_TXN)
    by true = low
    by false = h
names_in_bounds begin _ rest low h = h

end_in_bounds : (begin : ℕ) (log : List LogRecord) → AllByRecursion (λ r. next_in r.payload ≤ LAST_TXN) log → IfSome (end_among begin log) (λ c. c.next ≤ LAST_TXN)
end_in_bounds begin [] h = tt
end_in_bounds begin (r ∷ log) h = names_in_bounds begin r.payload (end_among begin log) h.0 (end_in_bounds begin log h.1)

each_dropped : {A : Type 0} (P : A → Type 0) (n : ℕ) (xs : List A) → AllByRecursion P xs → AllByRecursion P (drop n xs)
each_dropped P zero xs h = h
each_dropped P (suc n) [] h = h
each_dropped P (suc n) (x ∷ xs) h = each_dropped P n xs h.1

each_before : {A : Type 0} (P : A → Type 0) (xs ys : List A) → AllByRecursion P (xs ++ ys) → AllByRecursion P xs
each_before P [] ys h = tt
each_before P (x ∷ xs) ys h = (h.0, each_before P xs ys h.1)

from_behind : (g : Geometry) (stream_bytes : ℕ) (a : Anchored) (found : List LogRecord) (s : State) → IsOpenedBehind g stream_bytes a found s → IsOpenedAs g stream_bytes found s
from_behind g stream_bytes a found s h = record {
  slots = h.slots;
  log = h.log;
  as_long = h.as_long;
  records = h.records;
  prepared = h.prepared;
  active = h.active;
  undo_lists = h.undo_lists;
  counts = h.counts;
  some = h.some;
  locks = h.locks;
}

module _ (g : Geometry) (ring_bytes : ℕ) (a : Anchored) (rs : List LogRecord) (pages : LoggedPages) (may : MayBeOpenedBehind g ring_bytes a rs pages) where
  abbrev pub found_store : RecoveryState
  found_store = (found_behind a rs pages).store

  pub may_be_found : MayBeFound found_store
  may_be_found = record { recoverable = may.in_order.recoverable; lawful = may.opened.lawful; doubts = may.opened.doubts; durable = omega arith }

  cut_within : cut_of a ≤ length rs
  cut_within = (cut_now (found_behind a rs pages) may.in_order).within

  -- ---- a restart

  module _ (works : List RecoveryEvent) (ready : CheckpointedStore) (h : RestartsBehind (found_behind a rs pages) works ready) where
    pub restarted : HasRestarted (found_behind a rs pages) works ready
    restarted = restart_goes (found_behind a rs pages) works ready may.in_order h

    pub is_restart : IsRestartOf rs ready.store
    is_restart = (events_restart rs found_store works ready.store may.in_order.recoverable (record { turns = []; undone = refl; durable = omega arith }) restarted.restarts).1

    pub grown : IsPrefix rs ready.store.log
    grown = undone_grows rs is_restart.turns ready.store.log is_restart.undone

    pub same_limit : log_limit ring_bytes (cut_of a) rs ≡ log_limit ring_bytes (cut_of a) ready.store.log
    same_limit = ap (λ l. ring_bytes + cost_of_log l) (sym (ap (take (cut_of a)) grown.1 ∙ take-append-le (cut_of a) rs grown.0 cut_within))

    pub roomy_found : AreRoomy g (log_limit ring_bytes (cut_of a) ready.store.log) (length rs) rs
    roomy_found = subst (λ limit. AreRoomy g limit (length rs) rs) same_limit may.opened.roomy

    roomy_ready : AreRoomy g (log_limit ring_bytes (cut_of a) ready.store.log) ready.store.durable ready.store.log
    roomy_ready = restart_roomy g (log_limit ring_bytes (cut_of a) ready.store.log) found_store works ready.store roomy_found restarted.restarts

    -- ---- the next number

    module _ (n : ℕ) where
      pub each_found : AllByRecursion (λ r. r.txn < n) ready.store.log → AllByRecursion (λ r. r.txn < n) rs
      each_found h = each_before (λ r. r.txn < n) rs grown.0 (subst (AllByRecursion (λ (r : LogRecord). r.txn < n)) grown.1 h)

      pub end_found : IfSome (end_among a.checkpoint ready.store.log) (λ c. c.next ≤ n) → (c : Checkpoint) → end_among a.checkpoint rs ≡ Some c → c.next ≤ n
      end_found h c is = subst (λ o. IfSome o (λ (c : Checkpoint). c.next ≤ n)) (ap (end_among a.checkpoint) grown.1 ∙ end_longer a.checkpoint rs grown.0 c is) h

    -- ---- an open over it

    module _ (o : Opening) (opening : IsOpeningOf rs o) (first : State) (redone : ready.store.redone ≡ length ready.store.log) (no_losers : HasNoLosers ready.store.log)
        (opens : IsOpenedOver o ready.store first) (from : IsOpenedBehind g (log_limit ring_bytes (cut_of a) ready.store.log) a ready.store.log first) where
      numbers : first.sessions.next_txn ≤ LAST_TXN
      numbers =
          let limit = log_limit ring_bytes (cut_of a) ready.store.log in
          let inside = recursion_from_All (IsInBounds g) ready.store.log (whole_placed g limit ready.store.durable ready.store.log roomy_ready).inside in
          from.least LAST_TXN (omega arith)
          (each_dropped (λ (r : LogRecord). r.txn < LAST_TXN) (cut_of a) ready.store.log (numbers_below g limit ready.store.durable ready.store.log roomy_ready))
          (end_in_bounds a.checkpoint ready.store.log (recursion-weaker (IsInBounds g) (λ r. next_in r.payload ≤ LAST_TXN) (λ r h. h.next) ready.store.log inside))

      way : IsUnderWay g (log_limit ring_bytes (cut_of a) ready.store.log) o rs [] (record { state = first; store = ready.store })
      way =
          as_under_way g (log_limit ring_bytes (cut_of a) ready.store.log) o found_store may_be_found opening roomy_found works ready.store first restarted.restarts redone no_losers opens
          (from_behind g (log_limit ring_bytes (cut_of a) ready.store.log) a ready.store.log first from) numbers

      pub open_goes : IsAtCheckpoints g ring_bytes o rs [] (record { state = first; store = ready })
      open_goes = record {
        under_way = subst (λ n. IsUnderWay g n o rs [] (record { state = first; store = ready.store })) (sym from.as_long) way;
        in_order = restarted.in_order;
        room = subst (λ (st : CheckpointStage). HasRingRoom (owing (owed_to st) first)) (sym restarted.stage) (ring_opens (length first.sessions.prepared) first.sessions.active (log_room first) way.roomy.log);
        limit = from.as_long ∙ ap (log_limit ring_bytes (cut_of a)) (sym from.log) ∙ ap (λ (x : Anchored). log_limit ring_bytes (cut_of x) first.log) (sym restarted.anchored);
        short = may.short;
        next = subst NamesNextInBounds (sym restarted.stage) tt;
        later = subst (BeganBehind ready.anchored.checkpoint) (sym restarted.stage) tt;
      }
