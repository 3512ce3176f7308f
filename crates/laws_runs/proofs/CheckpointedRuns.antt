-- A manager with checkpoints from a restart to a crash is a stretch of a life.
use Rattle.std.proofs.Common.{◌≡◌, inl, inr, ◌++◌, ℕ, List, [], ◌∷◌, true, refl, sym, ap, subst, ◌∙◌, append-nil, append_assoc}
use Rattle.shore_types.specs.declared.faults.Fault.{Fault}
use Rattle.shore_types.specs.declared.layout.Geometry.{Geometry}
use Rattle.shore_model.specs.declared.calls.Answer.{Answer}
use Rattle.shore_model.specs.declared.calls.Answer.TheVariants.{Anchored, Begun, Ended, Moved}
use Rattle.shore_model.specs.declared.histories.Entry.{Entry}
use Rattle.shore_model.specs.declared.histories.Opening.{Opening}
use Rattle.shore_model.specs.declared.log_records.LogRecord.{LogRecord}
use Rattle.shore_model.specs.declared.log_records.Payload.TheVariants as payload
use Rattle.shore_model.specs.declared.step.Step.{Step}
use Rattle.shore_model.specs.declared.step.Step.TheVariants.{Done, Nothing, Refused, Waits}
use Rattle.shore_model.specs.Lives.{IsLife, next_opening}
use Rattle.shore_model.specs.Logs.{MayFollow, is_of_checkpoint}
use Rattle.laws_lives.proofs.LifeSteps.{stretches_are_a_life}
use Rattle.laws_lives.specs.Doubts.{IsOpeningOf}
use Rattle.laws_lives.specs.ManagerSteps.{ManagerRunsTo, Note, StretchEvent}
use Rattle.laws_lives.specs.Pages.{LoggedPages}
use Rattle.laws_lives.specs.Recovery.{AppendRecord, after_append}
use Rattle.laws_lives.specs.Stretches.{IsStretch, OpensShow, Stretch, opening_after}
use Rattle.laws_lives.specs.Stretches as lives
use Rattle.laws_lives.specs.Stretches.{MayBeFound}
use Rattle.laws_calls.specs.States.{next_number}
use Rattle.laws_checkpoints.specs.Checkpoints as checkpoints
use Rattle.laws_checkpoints.specs.Checkpoints.{end_payload, of_checkpoint}
use Rattle.laws_checkpoints.specs.CheckpointedStores.{AnchorLogged, BeginLogged, CheckpointStage, EndLogged}
use Rattle.laws_runs.proofs.CheckpointCrashes.{leaves_behind}
use Rattle.laws_runs.proofs.Checkpointing.{moves_go, step_goes}
use Rattle.laws_runs.proofs.Events.{over}
use Rattle.laws_runs.proofs.OpenedBehind.{found_store, may_be_found, open_goes, restarted}
use Rattle.laws_runs.proofs.Running.{last_follows}
use Rattle.laws_runs.proofs.Runs.{manage_comes, runs_join}
use Rattle.laws_runs.proofs.SoundStores.{may_crash}
use Rattle.laws_runs.proofs.UnderWay.{under_way_sound}
use Rattle.laws_runs.specs.CheckpointSteps.{CheckpointAnswers, CheckpointMoves, CheckpointRefused, CheckpointedMove, CheckpointedMoves, CheckpointedState, CheckpointedSteps, Checkpoints, Goes, entries_of_move, noted, stored_in}
use Rattle.laws_runs.specs.CheckpointedStates.{IsAtCheckpoints, MayBeOpenedBehind}
use Rattle.laws_runs.specs.CheckpointedStays.{CheckpointedRun, IsCheckpointedUp, left_by_up, span_of_up}
use Rattle.laws_runs.specs.SoundStores.{IsSoundStore}

-- ---- steps as events of a stretch

-- the sessions over their store go on by these events
pub record ComeBehind (es : List Entry) (m new : CheckpointedState) (made : List Entry) : Type 0 where
  pub events : List StretchEvent
  pub runs : ManagerRunsTo (over m.state m.store.store) events es (over new.state new.store.store) (es ++ made)

-- nothing that the sessions or the store know has changed
nothing_comes : (es : List Entry) (m new : CheckpointedState) → over new.state new.store.store ≡ over m.state m.store.store → ComeBehind es m new []
nothing_comes es m new same = record { events = []; runs = (same, append-nil es) }

module _ (g : Geometry) (ring_bytes : ℕ) (o : Opening) (found : List LogRecord) (es : List Entry) (m : CheckpointedState) (k : IsAtCheckpoints g ring_bytes o found es m) where
  -- a record of the checkpoint is appended
  record_comes : (new : CheckpointedState) (r : LogRecord) (stage : CheckpointStage) → is_of_checkpoint r.payload ≡ true → new ≡ noted m r stage
      → IsAtCheckpoints g ring_bytes o found es new → ComeBehind es m new []
  record_comes new r stage its is goes =
      let lawful = (subst (IsAtCheckpoints g ring_bytes o found es) is goes).in_order.lawful in
      let follows : MayFollow m.store.store.log r = last_follows m.store.store.log r lawful in
      record {
        events = Note r (AppendRecord r ∷ []) ∷ [];
        runs = (
          over new.state new.store.store,
          (
            follows,
            its,
            ap (λ (x : CheckpointedState). x.state.sessions) is,
            (tt, after_append m.store.store r, (k.under_way.redone, refl), ap (λ (x : CheckpointedState). x.store.store) is),
            ap (λ (x : CheckpointedState). x.store.store.log) is,
          ),
          (refl, refl),
        );
      }

  answer_comes : (answer : Answer) (new : CheckpointedState) → CheckpointAnswers m answer new → IsAtCheckpoints g ring_bytes o found es new → ComeBehind es m new []
  answer_comes (Begun n) new h goes = record_comes new (of_checkpoint payload.CheckpointBegin) (BeginLogged h.0) refl h.6 goes
  answer_comes (Ended n) new h goes = record_comes new (of_checkpoint (end_payload h.0)) (EndLogged h.0 n) refl h.3 goes
  answer_comes (Anchored checkpoint tail) new h goes =
      record_comes new (of_checkpoint (payload.Anchor checkpoint tail)) (AnchorLogged h.0 (next_number m.state)) refl h.6 goes
  answer_comes Moved new h goes = nothing_comes es m new (ap (λ (x : CheckpointedState). over x.state x.store.store) h.2)
  answer_comes _ new h goes = absurd h

  refusal_comes : (f : Fault) (new : CheckpointedState) → CheckpointRefused m f new → ComeBehind es m new []
  refusal_comes f new (inl short) = nothing_comes es m new (ap (λ (x : CheckpointedState). over x.state x.store.store) short.2)
  refusal_comes f new (inr (inl full)) = nothing_comes es m new (ap (λ (x : CheckpointedState). over x.state x.store.store) full.3)
  refusal_comes f new (inr (inr device)) = nothing_comes es m new (ap (λ (x : CheckpointedState). over x.state x.store.store) device.2)

  step_comes : (step : Step) (new : CheckpointedState) → CheckpointMoves m step new → IsAtCheckpoints g ring_bytes o found es new → ComeBehind es m new []
  step_comes (Done answer) new h goes = answer_comes answer new h.1 goes
  step_comes Nothing new h goes = nothing_comes es m new (ap (λ (x : CheckpointedState). over x.state x.store.store) h.2)
  step_comes (Refused f) new (inl failed) goes = nothing_comes es m new (ap (λ (x : CheckpointedState). over x.state x.store.store) failed.2)
  step_comes (Refused f) new (inr here) goes = refusal_comes f new here.1
  step_comes (Waits wait) new h goes = absurd h

  move_comes : (e : CheckpointedMove) (new : CheckpointedState) → CheckpointedSteps g m e new → ComeBehind es m new (entries_of_move m e new)
  move_comes (Goes e) new h =
      let come = manage_comes g o found es (stored_in m) (stored_in new) k.under_way.stored k.under_way.state e h.0 in
      record { events = come.events; runs = come.runs }
  move_comes (Checkpoints step) new h =
      step_comes step new h (subst (λ made. IsAtCheckpoints g ring_bytes o found made new) (append-nil es) (step_goes g ring_bytes o found es m k (Checkpoints step) new h))

all_come : (g : Geometry) (ring_bytes : ℕ) (o : Opening) (found : List LogRecord) (es : List Entry) (m : CheckpointedState) → IsAtCheckpoints g ring_bytes o found es m
    → (events : List CheckpointedMove) (last : CheckpointedState) (made : List Entry) → CheckpointedMoves g m events last made → ComeBehind es m last made
all_come g ring_bytes o found es m k [] last made h =
    record { events = []; runs = (ap (λ (x : CheckpointedState). over x.state x.store.store) h.0, ap (λ made. es ++ made) h.1 ∙ append-nil es) }
all_come g ring_bytes o found es m k (e ∷ events) last made h =
    let one = move_comes g ring_bytes o found es m k e h.0 h.2 in
    let rest = all_come g ring_bytes o found (es ++ entries_of_move m e h.0) h.0 (step_goes g ring_bytes o found es m k e h.0 h.2) events last h.1 h.3 in
    record {
      events = one.events ++ rest.events;
      runs = subst (λ made. ManagerRunsTo (over m.state m.store.store) (one.events ++ rest.events) es (over last.state last.store.store) made)
          (append_assoc es (entries_of_move m e h.0) h.1 ∙ ap (λ made. es ++ made) (sym h.4))
          (runs_join (over m.state m.store.store) one.events es (over h.0.state h.0.store.store) (es ++ entries_of_move m e h.0) rest.events (over last.state last.store.store)
          ((es ++ entries_of_move m e h.0) ++ h.1) one.runs rest.runs);
    }

-- ---- one manager

module _ (g : Geometry) (ring_bytes : ℕ) (o : Opening) (a : checkpoints.Anchored) (rs : List LogRecord) (pages : LoggedPages) (may : MayBeOpenedBehind g ring_bytes a rs pages)
    (opening : IsOpeningOf rs o) (r : CheckpointedRun) (h : IsCheckpointedUp g ring_bytes o a rs pages r) where
  abbrev pub first_state : CheckpointedState
  first_state = record { state = r.first; store = r.ready }

  first_goes : IsAtCheckpoints g ring_bytes o rs [] first_state
  first_goes = open_goes g ring_bytes a rs pages may r.restart r.ready h.restarts o opening r.first h.redone h.no_losers h.opens h.from

  pub last_goes : IsAtCheckpoints g ring_bytes o rs r.made r.last
  last_goes = moves_go g ring_bytes o rs [] first_state first_goes r.events r.last r.made h.moves

  pub up_leaves : MayBeOpenedBehind g ring_bytes r.anchor (left_by_up r) r.pages
  up_leaves = leaves_behind g ring_bytes o rs r.made r.last last_goes r.survive r.pages h.lost r.anchor h.anchored

  pub come : ComeBehind [] first_state r.last r.made
  come = all_come g ring_bytes o rs [] first_state first_goes r.events r.last r.made h.moves

  sound : IsSoundStore g r.last.state.stream_bytes r.last.store.store
  sound = under_way_sound g r.last.state.stream_bytes o rs r.made (stored_in r.last) last_goes.under_way

  abbrev pub stretch : Stretch
  stretch = record {
    restart = r.restart;
    ready = r.ready.store;
    first = r.first.sessions;
    events = come.events;
    last = over r.last.state r.last.store.store;
    made = r.made;
    failing = r.last.store.store;
    survive = r.survive;
    pages = r.pages;
    begin = 0;
  }

  is_stretch : IsStretch o (found_store g ring_bytes a rs pages may) stretch
  is_stretch = record {
    up = record {
      restarts = (restarted g ring_bytes a rs pages may r.restart r.ready h.restarts).restarts;
      redone = h.redone;
      no_losers = h.no_losers;
      opens = h.opens.sessions;
      runs = come.runs;
    };
    fails = inl refl;
    crash = may_crash g r.last.state.stream_bytes r.last.store.store sound r.survive r.pages h.lost;
  }

  -- so it is a life by itself, and what it leaves opens as the kept decisions say
  pub as_life : IsLife o (span_of_up rs r ∷ []) (next_opening o (span_of_up rs r)) × OpensShow o (found_store g ring_bytes a rs pages may) (stretch ∷ [])
      × MayBeFound (lives.left_by_crash stretch) × IsOpeningOf (left_by_up r) (next_opening o (span_of_up rs r))
  as_life = stretches_are_a_life o (found_store g ring_bytes a rs pages may) (stretch ∷ []) (may_be_found g ring_bytes a rs pages may) opening (is_stretch, tt)
