-- Managers over their stores leave logs that the next restart takes.
use Rattle.std.proofs.Common.{◌≡◌, ◌++◌, ◌∙◌, ◌<◌, length, map, arith, ℕ, List, [], ◌∷◌, Option, Some, None, refl, sym, ap, subst}
use Rattle.shore_types.specs.Versions.{slot_limit}
use Rattle.std.specs.Prelude.{IsSomeAnd, slice_get}
use Rattle.std.specs.List.{AllByRecursion}
use Rattle.std.proofs.lemmas.List.Elements.{All-from_recursion}
use Rattle.shore_types.specs.declared.ids.PageId.{PageId}
use Rattle.shore_types.specs.declared.layout.Geometry.{Geometry}
use Rattle.shore_analysis.specs.Tables.{IsNext}
use Rattle.laws_lives.proofs.Lists.{recursion-unpush}
use Rattle.laws_calls.specs.States.{State}
use Rattle.laws_runs.specs.SlotCounts.{slot_count}
use Rattle.shore_model.specs.declared.histories.Entry.{Entry}
use Rattle.shore_model.specs.declared.histories.InDoubt.{InDoubt}
use Rattle.shore_model.specs.declared.histories.Opening.{Opening}
use Rattle.shore_model.specs.Lives.{next_opening}
use Rattle.laws_lives.proofs.Openings.{undone_opening}
use Rattle.laws_lives.specs.Doubts.{IsOpeningOf, LoggedDoubt, doubts_in, pair_logged}
use Rattle.laws_lives.specs.Sessions.{pairs_of}
use Rattle.laws_lives.specs.Soundness.{found_in_doubt}
use Rattle.shore_model.specs.declared.log_records.LogRecord.{LogRecord}
use Rattle.laws_calls.proofs.LockWaits.{waits_may_ask}
use Rattle.laws_calls.proofs.SessionRooms.{session_event_roomy}
use Rattle.laws_calls.proofs.SettledStates.{session_event_stays}
use Rattle.laws_calls.specs.CallHistories.{IsRoomyState}
use Rattle.laws_calls.specs.Events.{IsStateAfter, entries_of}
use Rattle.laws_calls.specs.Shapes.{LockWaitsMayAsk}
use Rattle.laws_lives.specs.Stretches.{MayBeFound}
use Rattle.laws_lives.proofs.Invariant.{redone_whole}
use Rattle.laws_lives.proofs.Restarts.{events_restart}
use Rattle.laws_lives.proofs.UndoRecords.{undone_lawful}
use Rattle.laws_lives.specs.Recovery.{AppendRecord, FlushPage, ForceLog, IsRecoverable, LeadsTo, LosePower, RecoveryEvent, RecoveryState, RedoRecord, after_redo}
use Rattle.shore_model.specs.Logs.{Lawful}
use Rattle.laws_lives.specs.Undo.{IsUndoneTo, undo_record}
use Rattle.laws_lives.specs.Views.{IsAmong}
use Rattle.laws_lives.specs.Restarts.{IsRestartOf, IsRestartStep, RestartsTo}
use Rattle.laws_runs.proofs.Runs.{events_come, found_next, opened, opens_next}
use Rattle.laws_runs.specs.StoredRuns.{AreStoredRuns, IsOpenedOver, IsStoredRun, Manage, StoredEvent, StoredMoves, StoredRun, StoredState, Tend, left_by_run, span_of_run}
use Rattle.laws_runs.proofs.Opens.{opens_leaving, opens_roomy}
use Rattle.laws_runs.proofs.Prefixes.{later_roomy, left_roomy, whole_roomy}
use Rattle.laws_runs.proofs.Running.{event_leaving}
use Rattle.laws_runs.proofs.Undoing.{undone_are_roomy}
use Rattle.laws_runs.specs.RoomyLogs.{AreRoomy}
use Rattle.laws_runs.specs.RoomyRuns.{AreOpenedFrom}
use Rattle.laws_runs.specs.RoomyStates.{HasLocksInBounds, IsOpenedFrom, LeavesRoomyLogs}

-- ---- a restart

module _ (g : Geometry) (stream_bytes : ℕ) where
  step_roomy : (s : RecoveryState) (e : RecoveryEvent) (new : RecoveryState) → AreRoomy g stream_bytes s.durable s.log → IsRestartStep s e → LeadsTo s e new
      → AreRoomy g stream_bytes new.durable new.log
  step_roomy s (AppendRecord r) new k is leads =
      subst (λ (x : RecoveryState). AreRoomy g stream_bytes x.durable x.log) (sym leads.1)
      (subst (λ r. AreRoomy g stream_bytes s.durable (s.log ++ r ∷ [])) (sym is.2) (undone_are_roomy g stream_bytes s.durable s.log is.0 k is.1))
  step_roomy s RedoRecord new k is leads = redone_keeps (slice_get s.log s.redone) leads
    where
      redone_keeps : (o : Option LogRecord) → IsSomeAnd o (λ r. new ≡ after_redo s r) → AreRoomy g stream_bytes new.durable new.log
      redone_keeps None h = absurd h
      redone_keeps (Some r) h = subst (λ (x : RecoveryState). AreRoomy g stream_bytes x.durable x.log) (sym h) k
  step_roomy s (ForceLog n) new k is leads =
      subst (λ (x : RecoveryState). AreRoomy g stream_bytes x.durable x.log) (sym leads.2) (later_roomy g stream_bytes s.durable n s.log leads.0 k)
  step_roomy s (FlushPage p) new k is leads = subst (λ (x : RecoveryState). AreRoomy g stream_bytes x.durable x.log) (sym leads.1) k
  step_roomy s (LosePower n left begin) new k is leads =
      subst (λ (x : RecoveryState). AreRoomy g stream_bytes x.durable x.log) (sym leads.1) (left_roomy g stream_bytes s.durable s.log n leads.0.0 k)

  pub restart_roomy : (s : RecoveryState) (works : List RecoveryEvent) (last : RecoveryState) → AreRoomy g stream_bytes s.durable s.log → RestartsTo s works last
      → AreRoomy g stream_bytes last.durable last.log
  restart_roomy s [] last k h = subst (λ (x : RecoveryState). AreRoomy g stream_bytes x.durable x.log) (sym h) k
  restart_roomy s (e ∷ works) last k h = restart_roomy h.1 works last (step_roomy s e h.1 k h.0 h.2) h.3

-- ---- the open over it

-- what all records of the longer log have, those that were found have
found_have : (P : LogRecord → Type 0) (log : List LogRecord) (ts : List ℕ) (last : List LogRecord) → IsUndoneTo log ts last → AllByRecursion P last
    → AllByRecursion P log
found_have P log [] last u all = subst (AllByRecursion P) u all
found_have P log (t ∷ ts) last u all =
    recursion-unpush P log (undo_record log t) (found_have P (log ++ undo_record log t ∷ []) ts last u.1 all)

pub opened_over : (g : Geometry) (stream_bytes : ℕ) (o : Opening) (found : List LogRecord) (ready : RecoveryState) (first : State) → IsRecoverable ready → ready.redone ≡ length ready.log
    → IsRestartOf found ready → IsOpeningOf found o → IsOpenedOver o ready first → first.stream_bytes ≡ stream_bytes → ((p : PageId) → first.counts p ≡ slot_count ready.log p)
    → IsNext found first.sessions.next_txn → HasLocksInBounds g first → o.slots ≡ slot_limit g.version → IsOpenedFrom g stream_bytes ready.log first
opened_over g stream_bytes o found ready first kept redone restart opening opens long counts next locks sized = record {
  slots = opens.sessions.slots ∙ sized;
  log = sym opens.stored.log;
  as_long = long;
  records = λ id. opens.sessions.records id ∙ redone_whole ready kept redone id.page id.slot;
  prepared = ap pairs_of opens.sessions.prepared ∙ pairs_found o.in_doubt ∙ there.in_doubt;
  active = opens.sessions.active ∙ txns_paired o.in_doubt ∙ ap (map (λ (p : ℕ × List ℕ). p.0)) there.in_doubt ∙ txns_logged (doubts_in ready.log);
  undo_lists = opens.sessions.undo_lists;
  counts = counts;
  some = opens.sessions.some;
  least = λ n some all. next.least n (omega (arith, some))
      (All-from_recursion (λ (r : LogRecord). r.txn < n) found (found_have (λ (r : LogRecord). r.txn < n) found restart.turns ready.log restart.undone all));
  locks = locks;
}
  where
    there : IsOpeningOf ready.log o
    there = undone_opening o found restart.turns ready.log restart.undone opening

    pairs_found : (ds : List InDoubt) → pairs_of (map found_in_doubt ds) ≡ map (λ (d : InDoubt). (d.txn, d.global)) ds
    pairs_found [] = refl
    pairs_found (d ∷ ds) = ap (λ ps. (d.txn, d.global) ∷ ps) (pairs_found ds)

    txns_paired : (ds : List InDoubt) → map (λ (d : InDoubt). d.txn) ds ≡ map (λ (p : ℕ × List ℕ). p.0) (map (λ (d : InDoubt). (d.txn, d.global)) ds)
    txns_paired [] = refl
    txns_paired (d ∷ ds) = ap (λ ts. d.txn ∷ ts) (txns_paired ds)

    txns_logged : (ds : List LoggedDoubt) → map (λ (p : ℕ × List ℕ). p.0) (map pair_logged ds) ≡ map (λ (d : LoggedDoubt). d.txn) ds
    txns_logged [] = refl
    txns_logged (d ∷ ds) = ap (λ ts. d.txn ∷ ts) (txns_logged ds)

-- ---- events over a store

module _ (g : Geometry) (stream_bytes : ℕ) (o : Opening) (found : List LogRecord) where
  pub moves_leaving : (es : List Entry) (m : StoredState) (events : List StoredEvent) (last : StoredState) (made : List Entry) → IsStateAfter o found es m.state
      → LockWaitsMayAsk g m.state → IsRoomyState g.version m.state → LeavesRoomyLogs g stream_bytes m.state → StoredMoves g m events last made → IsRoomyState g.version last.state × LeavesRoomyLogs g stream_bytes last.state
  moves_leaving es m [] last made k asks roomy h x =
      (subst (λ (x : StoredState). IsRoomyState g.version x.state) (sym x.0) roomy, subst (λ (x : StoredState). LeavesRoomyLogs g stream_bytes x.state) (sym x.0) h)
  moves_leaving es m (Manage e works ∷ events) last made k asks roomy h x =
      moves_leaving (es ++ entries_of m.state e x.0.state) x.0 events last x.1 (session_event_stays g o found es m.state x.0.state e k x.2.0)
      (waits_may_ask g m.state x.0.state (e ∷ []) (x.0.state, x.2.0, refl) asks)
      (session_event_roomy g o found es m.state k roomy x.0.state e x.2.0) (event_leaving g stream_bytes o found es m.state x.0.state e k asks roomy h x.2.0) x.3
  moves_leaving es m (Tend works ∷ events) last made k asks roomy h x =
      let same = x.2.0 in
      moves_leaving es x.0 events last x.1 (subst (IsStateAfter o found es) (sym same) k) (subst (LockWaitsMayAsk g) (sym same) asks) (subst (IsRoomyState g.version) (sym same) roomy)
      (subst (LeavesRoomyLogs g stream_bytes) (sym same) h) x.3

-- ---- a manager from its restart to a crash

module _ (g : Geometry) (stream_bytes : ℕ) (o : Opening) (s : RecoveryState) (r : StoredRun) (f : MayBeFound s) (opening : IsOpeningOf s.log o) (h : IsStoredRun g o s r)
    (k : AreRoomy g stream_bytes s.durable s.log) (opens : IsOpenedFrom g stream_bytes r.ready.log r.first) where
  ready_roomy : AreRoomy g stream_bytes r.ready.durable r.ready.log
  ready_roomy = restart_roomy g stream_bytes s r.restart r.ready k h.restarts

  ready_lawful : Lawful r.ready.log
  ready_lawful =
      let restarted = events_restart s.log s r.restart r.ready f.recoverable (record { turns = []; undone = refl; durable = f.durable }) h.restarts in
      undone_lawful s.log restarted.1.turns r.ready.log restarted.1.undone f.lawful

  first_roomy : IsRoomyState g.version r.first
  first_roomy = opens_roomy g stream_bytes r.ready.log r.first opens (whole_roomy g stream_bytes r.ready.durable r.ready.log ready_roomy) ready_lawful

  first_leaves : LeavesRoomyLogs g stream_bytes r.first
  first_leaves =
      opens_leaving g stream_bytes r.ready.log r.first opens r.first.durable (subst (λ n. AreRoomy g stream_bytes n r.ready.log) h.opens.stored.durable ready_roomy) ready_lawful h.no_losers

  pub last_has_room : IsRoomyState g.version r.last.state × LeavesRoomyLogs g stream_bytes r.last.state
  last_has_room = moves_leaving g stream_bytes o s.log [] (record { state = r.first; store = r.ready }) r.events r.last r.made (opened g o s f opening r h)
      (λ w there. absurd (subst (IsAmong w) h.opens.waiting there)) first_roomy first_leaves h.moves

  pub crash_roomy : AreRoomy g stream_bytes (left_by_run r).durable (left_by_run r).log
  crash_roomy =
      let come = events_come g o s.log [] (record { state = r.first; store = r.ready }) h.opens.stored (opened g o s f opening r h) r.events r.last r.made h.moves in
      left_roomy g stream_bytes r.last.store.durable r.last.store.log r.survive h.crash.0
      (subst (λ n. AreRoomy g stream_bytes n r.last.store.log) (sym come.stored.durable) (subst (AreRoomy g stream_bytes r.last.state.durable) (sym come.stored.log) last_has_room.1.prefixes))

pub runs_roomy : (g : Geometry) (stream_bytes : ℕ) (o : Opening) (s : RecoveryState) (runs : List StoredRun) (last : RecoveryState) → MayBeFound s → IsOpeningOf s.log o
    → AreRoomy g stream_bytes s.durable s.log → AreStoredRuns g o s runs last → AreOpenedFrom g stream_bytes runs → AreRoomy g stream_bytes last.durable last.log
runs_roomy g stream_bytes o s [] last f opening k h opens = subst (λ (x : RecoveryState). AreRoomy g stream_bytes x.durable x.log) (sym h) k
runs_roomy g stream_bytes o s (r ∷ runs) last f opening k h opens =
    runs_roomy g stream_bytes (next_opening o (span_of_run s r)) (left_by_run r) runs last (found_next g o s f opening r h.0) (opens_next g o s f opening r h.0)
    (crash_roomy g stream_bytes o s r f opening h.0 k opens.0) h.1 opens.1
