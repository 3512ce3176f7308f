-- A manager under way stays so with each event over its store, and its store may lose power at any time.
use Rattle.std.proofs.Common.{◌≡◌, ◌≤◌, inl, ⊎_elim, ◌++◌, ℕ, List, [], ◌∷◌, refl, sym, ap, subst, ◌∙◌, length, take, take_all, arith, append-nil, append_assoc}
use Rattle.std.proofs.Math.Seq.{take-length}
use Rattle.shore_types.specs.declared.layout.Geometry.{Geometry}
use Rattle.shore_types.specs.declared.layout.TheConstants.{LAST_TXN}
use Rattle.shore_model.specs.declared.histories.Entry.{Entry}
use Rattle.shore_model.specs.declared.histories.Opening.{Opening}
use Rattle.shore_model.specs.declared.log_records.LogRecord.{LogRecord}
use Rattle.shore_model.specs.Logs.{Lawful}
use Rattle.shore_model.specs.Records.{AreRecords}
use Rattle.laws_lives.specs.Views.{IsAmong}
use Rattle.laws_lives.proofs.Invariant.{from_the_first}
use Rattle.laws_lives.proofs.Restarts.{events_restart}
use Rattle.laws_lives.proofs.UndoRecords.{undone_lawful}
use Rattle.laws_lives.specs.Pages.{AreAsOfOwnNumbers}
use Rattle.laws_lives.specs.Recovery.{IsRecoverable, RecoveryEvent, RecoveryState}
use Rattle.laws_lives.specs.Restarts.{IsRestartOf, RestartsTo}
use Rattle.laws_lives.specs.Undo.{HasNoLosers}
use Rattle.laws_lives.proofs.WholeLogs.{image_in_place}
use Rattle.laws_lives.proofs.Works.{all_work}
use Rattle.laws_lives.specs.Stretches.{MayBeFound}
use Rattle.laws_lives.proofs.Lists.{within_or_beyond}
use Rattle.laws_lives.specs.Doubts.{DoubtsStand, IsOpeningOf}
use Rattle.laws_calls.proofs.LockWaits.{waits_may_ask}
use Rattle.laws_calls.proofs.SettledCycles.{events_free, none_in_none}
use Rattle.laws_calls.specs.Events.{EventsMove}
use Rattle.laws_calls.specs.Shapes.{LockWaitsMayAsk}
use Rattle.laws_calls.specs.States.{State}
use Rattle.laws_runs.proofs.Runs.{events_come, opened}
use Rattle.laws_runs.specs.StoredRuns.{IsOpenedOver, IsStoredRun, Manage, StoredEvent, StoredMoves, StoredRun, StoredState, StoredSteps, Tend, entries_made}
use Rattle.laws_runs.proofs.ManagerLogs.{moves_leaving, restart_roomy}
use Rattle.laws_runs.proofs.Opens.{IsOpenedAs, as_leaving, as_roomy, from_as, numbers_below, records_inside}
use Rattle.laws_runs.proofs.Prefixes.{whole_placed, whole_roomy}
use Rattle.laws_runs.specs.RoomyLogs.{AreRoomy}
use Rattle.laws_runs.specs.RoomyStates.{IsOpenedFrom}
use Rattle.laws_runs.specs.SoundStores.{IsSoundStore, IsUnderWay, managed}

-- ---- an open

module _ (g : Geometry) (stream_bytes : ℕ) (o : Opening) (s : RecoveryState) (f : MayBeFound s) (opening : IsOpeningOf s.log o) (roomy : AreRoomy g stream_bytes s.durable s.log) (works : List RecoveryEvent) (ready : RecoveryState)
    (first : State) (restarts : RestartsTo s works ready) (redone : ready.redone ≡ length ready.log) (no_losers : HasNoLosers ready.log)
    (opens : IsOpenedOver o ready first) (from : IsOpenedAs g stream_bytes ready.log first) (numbers : first.sessions.next_txn ≤ LAST_TXN) where
  restarted : IsRecoverable ready × IsRestartOf s.log ready
  restarted = events_restart s.log s works ready f.recoverable (record { turns = []; undone = refl; durable = f.durable }) restarts

  -- no event happens, and power is lost with all of the log left
  abbrev no_run : StoredRun
  no_run = record {
    restart = works;
    ready = ready;
    first = first;
    events = [];
    last = record { state = first; store = ready };
    made = [];
    survive = length ready.log;
    pages = ready.volume;
    begin = 0;
  }

  is_no_run : IsStoredRun g o s no_run
  is_no_run = record {
    restarts = restarts;
    redone = redone;
    no_losers = no_losers;
    opens = opens;
    moves = (refl, refl);
    crash = (
      restarted.0.durable,
      omega arith,
      λ p. inl refl,
      from_the_first (take (length ready.log) ready.log) ready.volume (subst (λ rs. AreAsOfOwnNumbers rs ready.volume) (sym (take-length ready.log)) restarted.0.volume),
    );
  }

  pub as_under_way : IsUnderWay g stream_bytes o s.log [] (record { state = first; store = ready })
  as_under_way =
      let room = restart_roomy g stream_bytes s works ready roomy restarts in
      record {
        state = opened g o s f opening no_run is_no_run;
        asks = λ w there. absurd (subst (IsAmong w) opens.waiting there);
        no_cycle = none_in_none first.locks.requests opens.locks.nobody_waits;
        stored = opens.stored;
        roomy = as_roomy g stream_bytes ready.log first from (whole_roomy g stream_bytes ready.durable ready.log room) (undone_lawful s.log restarted.1.turns ready.log restarted.1.undone f.lawful);
        leaves = as_leaving g stream_bytes ready.log first from first.durable (subst (λ n. AreRoomy g stream_bytes n ready.log) opens.stored.durable room) (undone_lawful s.log restarted.1.turns ready.log restarted.1.undone f.lawful) no_losers numbers;
        recoverable = restarted.0;
        redone = redone;
      }

pub opens_under_way : (g : Geometry) (stream_bytes : ℕ) (o : Opening) (s : RecoveryState) → MayBeFound s → IsOpeningOf s.log o → AreRoomy g stream_bytes s.durable s.log
    → (works : List RecoveryEvent) (ready : RecoveryState) (first : State) → RestartsTo s works ready → ready.redone ≡ length ready.log → HasNoLosers ready.log → IsOpenedOver o ready first
    → IsOpenedFrom g stream_bytes ready.log first → IsUnderWay g stream_bytes o s.log [] (record { state = first; store = ready })
opens_under_way g stream_bytes o s f opening roomy works ready first restarts redone no_losers opens from =
    as_under_way g stream_bytes o s f opening roomy works ready first restarts redone no_losers opens (from_as g stream_bytes ready.log first from)
    (from.least LAST_TXN (omega arith) (numbers_below g stream_bytes ready.durable ready.log (restart_roomy g stream_bytes s works ready roomy restarts)))

-- ---- events

record HasWorkedOn (m : StoredState) : Type 0 where
  recoverable : IsRecoverable m.store
  redone : m.store.redone ≡ length m.store.log

step_works : (g : Geometry) (m : StoredState) (e : StoredEvent) (new : StoredState) → HasWorkedOn m → StoredSteps g m e new → HasWorkedOn new
step_works g m (Manage e works) new k h =
    let worked = all_work m.store works new.store k.recoverable k.redone h.1 in
    record { recoverable = worked.recoverable; redone = worked.redone }
step_works g m (Tend works) new k h =
    let worked = all_work m.store works new.store k.recoverable k.redone h.1 in
    record { recoverable = worked.recoverable; redone = worked.redone }

moves_work : (g : Geometry) (m : StoredState) (events : List StoredEvent) (last : StoredState) (made : List Entry) → HasWorkedOn m → StoredMoves g m events last made
    → HasWorkedOn last
moves_work g m [] last made k h = subst HasWorkedOn (sym h.0) k
moves_work g m (e ∷ events) last made k h = moves_work g h.0 events last h.1 (step_works g m e h.0 k h.2) h.3

step_asks : (g : Geometry) (m : StoredState) (e : StoredEvent) (new : StoredState) → LockWaitsMayAsk g m.state → StoredSteps g m e new → LockWaitsMayAsk g new.state
step_asks g m (Manage e works) new k h = waits_may_ask g m.state new.state (e ∷ []) (new.state, h.0, refl) k
step_asks g m (Tend works) new k h = subst (LockWaitsMayAsk g) (sym h.0) k

moves_ask : (g : Geometry) (m : StoredState) (events : List StoredEvent) (last : StoredState) (made : List Entry) → LockWaitsMayAsk g m.state → StoredMoves g m events last made
    → LockWaitsMayAsk g last.state
moves_ask g m [] last made k h = subst (λ (x : StoredState). LockWaitsMayAsk g x.state) (sym h.0) k
moves_ask g m (e ∷ events) last made k h = moves_ask g h.0 events last h.1 (step_asks g m e h.0 k h.2) h.3

-- without its store
pub plain_moves : (g : Geometry) (m : StoredState) (events : List StoredEvent) (last : StoredState) (made : List Entry) → StoredMoves g m events last made
    → EventsMove g m.state (managed events) last.state
plain_moves g m [] last made h = ap (λ (x : StoredState). x.state) h.0
plain_moves g m (Manage e works ∷ events) last made h = (h.0.state, h.2.0, plain_moves g h.0 events last h.1 h.3)
plain_moves g m (Tend works ∷ events) last made h = subst (λ (s : State). EventsMove g s (managed events) last.state) h.2.0 (plain_moves g h.0 events last h.1 h.3)

module _ (g : Geometry) (stream_bytes : ℕ) (o : Opening) (found : List LogRecord) where
  pub moves_under_way : (es : List Entry) (m : StoredState) (events : List StoredEvent) (last : StoredState) (made : List Entry) → IsUnderWay g stream_bytes o found es m
      → StoredMoves g m events last made → IsUnderWay g stream_bytes o found (es ++ made) last
  moves_under_way es m events last made k h =
      let come = events_come g o found es m k.stored k.state events last made h in
      let room = moves_leaving g stream_bytes o found es m events last made k.state k.asks k.roomy k.leaves h in
      let worked = moves_work g m events last made (record { recoverable = k.recoverable; redone = k.redone }) h in
      record {
        state = come.state;
        asks = moves_ask g m events last made k.asks h;
        no_cycle = events_free g o found es m.state (managed events) last.state k.state k.no_cycle (plain_moves g m events last made h);
        stored = come.stored;
        roomy = room.0;
        leaves = room.1;
        recoverable = worked.recoverable;
        redone = worked.redone;
      }

  pub step_under_way : (es : List Entry) (m : StoredState) (e : StoredEvent) (new : StoredState) → IsUnderWay g stream_bytes o found es m → StoredSteps g m e new
      → IsUnderWay g stream_bytes o found (es ++ entries_made m e new) new
  step_under_way es m e new k h = moves_under_way es m (e ∷ []) new (entries_made m e new) k (new, [], h, (refl, refl), sym (append-nil (entries_made m e new)))

  pub under_way_inside : (es : List Entry) (m : StoredState) → IsUnderWay g stream_bytes o found es m → AreRecords g m.state.sessions.records
  under_way_inside es m k =
      records_inside g m.state.log m.state.sessions.records (whole_placed g stream_bytes m.state.durable m.state.log k.leaves.prefixes)
      (λ id. sym (image_in_place k.state.sessions.sound k.state.sessions.log k.leaves.whole id))

  -- in each prefix that a crash may leave those in doubt stand beside each other
  stands : (es : List Entry) (m : StoredState) → IsUnderWay g stream_bytes o found es m → (n : ℕ) → m.state.durable ≤ n → DoubtsStand (take n m.state.log)
  stands es m k n least = ⊎_elim
      (λ within. (k.state.sessions.decides.prefixes n (omega (arith, base, least)) within).stand)
      (λ beyond. subst DoubtsStand (sym (take_all n m.state.log (omega (arith, beyond)))) k.state.sessions.doubts.stand)
      (within_or_beyond n (length m.state.log))
    where
      base : length found ≤ m.state.durable
      base = k.state.forced.least

  pub under_way_sound : (es : List Entry) (m : StoredState) → IsUnderWay g stream_bytes o found es m → IsSoundStore g stream_bytes m.store
  under_way_sound es m k =
      let same = sym k.stored.log in
      record {
        recoverable = k.recoverable;
        lawful = subst Lawful same k.leaves.whole.lawful;
        doubts = λ n least. subst (λ rs. DoubtsStand (take n rs)) same (stands es m k n (subst (λ d. d ≤ n) k.stored.durable least));
        roomy = subst (λ n. AreRoomy g stream_bytes n m.store.log) (sym k.stored.durable) (subst (AreRoomy g stream_bytes m.state.durable) same k.leaves.prefixes);
      }

-- ---- events one after another

pub moves_join : (g : Geometry) (m : StoredState) (events : List StoredEvent) (mid : StoredState) (made : List Entry) (later : List StoredEvent) (last : StoredState) (more : List Entry)
    → StoredMoves g m events mid made → StoredMoves g mid later last more → StoredMoves g m (events ++ later) last (made ++ more)
moves_join g m [] mid made later last more h k =
    subst (λ x. StoredMoves g x later last (made ++ more)) h.0 (subst (λ es. StoredMoves g mid later last (es ++ more)) (sym h.1) k)
moves_join g m (e ∷ events) mid made later last more h k = (
  h.0,
  h.1 ++ more,
  h.2,
  moves_join g h.0 events mid h.1 later last more h.3 k,
  ap (λ es. es ++ more) h.4 ∙ append_assoc (entries_made m e h.0) h.1 more,
)

pub managed_join : (events later : List StoredEvent) → managed (events ++ later) ≡ managed events ++ managed later
managed_join [] later = refl
managed_join (Manage e works ∷ events) later = ap (λ es. e ∷ es) (managed_join events later)
managed_join (Tend works ∷ events) later = managed_join events later
