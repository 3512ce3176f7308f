-- The log only grows, and what is durable survives a crash: so what a restart has found is a prefix of what every later one finds.
use Rattle.std.proofs.Common.{List, [], ◌∷◌, refl, sym, subst, arith}
use Rattle.std.specs.List.{AllByRecursion}
use Rattle.shore_types.specs.declared.layout.Geometry.{Geometry}
use Rattle.shore_model.specs.declared.histories.Entry.{Entry}
use Rattle.shore_model.specs.declared.histories.Opening.{Opening}
use Rattle.shore_model.specs.Lives.{next_opening}
use Rattle.laws_lives.specs.Doubts.{IsOpeningOf}
use Rattle.shore_model.specs.declared.log_records.LogRecord.{LogRecord}
use Rattle.laws_lives.proofs.Restarts.{events_restart}
use Rattle.laws_lives.proofs.UndoRecords.{undone_grows}
use Rattle.laws_lives.specs.Recovery.{RecoveryState}
use Rattle.laws_calls.proofs.LongerLogs.{session_event_goes_on}
use Rattle.laws_calls.proofs.Prefixes.{prefix_left, prefix_on, whole_prefix}
use Rattle.laws_calls.specs.CallHistories.{IsPrefix}
use Rattle.laws_lives.specs.Stretches.{MayBeFound}
use Rattle.laws_runs.proofs.Runs.{come, found_next, opens_next, works_on}
use Rattle.laws_runs.specs.StoredRuns.{AreFixed, AreStoredRuns, IsStoredRun, Manage, StoredEvent, StoredMoves, StoredRun, StoredState, StoredSteps, Tend, left_by_run, lists_found, span_of_run}

module _ (g : Geometry) where
  step_goes_on : (m new : StoredState) (e : StoredEvent) → StoredSteps g m e new → IsPrefix m.state.log new.state.log
  step_goes_on m new (Manage e works) h = session_event_goes_on g m.state new.state e h.0
  step_goes_on m new (Tend works) h = subst (λ s. IsPrefix m.state.log s.log) (sym h.0) (whole_prefix m.state.log)

  moves_go_on : (m : StoredState) (events : List StoredEvent) (last : StoredState) (made : List Entry) → StoredMoves g m events last made
      → IsPrefix m.state.log last.state.log
  moves_go_on m [] last made h = subst (λ (x : StoredState). IsPrefix m.state.log x.state.log) (sym h.0) (whole_prefix m.state.log)
  moves_go_on m (e ∷ events) last made h =
      prefix_on m.state.log h.0.state.log last.state.log (step_goes_on m h.0 e h.2) (moves_go_on h.0 events last h.1 h.3)

  -- ---- one manager

  module _ (o : Opening) (s : RecoveryState) (f : MayBeFound s) (opening : IsOpeningOf s.log o) (r : StoredRun) (h : IsStoredRun g o s r) where
    restart_goes_on : IsPrefix s.log r.ready.log
    restart_goes_on =
        let restarted = events_restart s.log s r.restart r.ready f.recoverable (record { turns = []; undone = refl; durable = f.durable }) h.restarts in
        undone_grows s.log restarted.1.turns r.ready.log restarted.1.undone

    run_goes_on : IsPrefix s.log r.last.store.log
    run_goes_on =
        subst (IsPrefix s.log) (sym (come g o s f opening r h).stored.log)
        (prefix_on s.log r.first.log r.last.state.log (subst (IsPrefix s.log) h.opens.stored.log restart_goes_on)
        (moves_go_on (record { state = r.first; store = r.ready }) r.events r.last r.made h.moves))

    pub crash_goes_on : IsPrefix s.log (left_by_run r).log
    crash_goes_on =
        let durable = (works_on g o s f opening r h).durable in
        let least = h.crash.0 in
        prefix_left r.survive s.log r.last.store.log run_goes_on (omega (arith, durable, least))

  -- ---- managers one after another

  found_is_prefix : (rs : List LogRecord) (o : Opening) (s : RecoveryState) (runs : List StoredRun) (last : RecoveryState) → MayBeFound s → IsOpeningOf s.log o → IsPrefix rs s.log
      → AreStoredRuns g o s runs last
      → AllByRecursion (IsPrefix rs) (lists_found s runs) × IsPrefix rs last.log
  found_is_prefix rs o s [] last f opening p h = (tt, subst (λ (x : RecoveryState). IsPrefix rs x.log) (sym h) p)
  found_is_prefix rs o s (r ∷ runs) last f opening p h =
      let rest =
      found_is_prefix rs (next_opening o (span_of_run s r)) (left_by_run r) runs last (found_next g o s f opening r h.0) (opens_next g o s f opening r h.0)
      (prefix_on rs s.log (left_by_run r).log p (crash_goes_on o s f opening r h.0)) h.1 in
      ((p, rest.0), rest.1)

  pub lists_are_fixed : (o : Opening) (s : RecoveryState) (runs : List StoredRun) (last : RecoveryState) → MayBeFound s → IsOpeningOf s.log o → AreStoredRuns g o s runs last
      → AreFixed (lists_found s runs) last.log
  lists_are_fixed o s [] last f opening h = tt
  lists_are_fixed o s (r ∷ runs) last f opening h =
      let next = next_opening o (span_of_run s r) in
      let found = found_next g o s f opening r h.0 in
      let opens = opens_next g o s f opening r h.0 in
      let later = found_is_prefix s.log next (left_by_run r) runs last found opens (crash_goes_on o s f opening r h.0) h.1 in
      (later.0, later.1, lists_are_fixed next (left_by_run r) runs last found opens h.1)

-- so they are of a list that goes on behind the last
pub fixed_on : (lists : List (List LogRecord)) (last later : List LogRecord) → IsPrefix last later → AreFixed lists last → AreFixed lists later
fixed_on [] last later p h = tt
fixed_on (rs ∷ lists) last later p h = (h.0, prefix_on rs last later h.1 p, fixed_on lists last later p h.2)
