-- What a world that is a manager keeps, by the laws over plain data.
use Rattle.std.proofs.Common.{drop-drop, ◌≡◌, ◌≢◌, ◌+◌, ◌-◌, ◌≤◌, drop, ◌<◌, ◌⊎◌, inl, inr, ⊎_elim, List, [], ◌∷◌, ◌++◌, ℕ, length, map, take, false, refl, sym, ap, subst, append-nil, ◌∙◌, arith}
use Rattle.std.proofs.lemmas.Bool.{true≢false}
use Rattle.std.specs.List.{AllByRecursion}
use Rattle.shore_types.specs.declared.layout.Geometry.{Geometry}
use Rattle.shore_disk.specs.Device.{size}
use Rattle.shore_disk.specs.declared.device.Disk.{Ghosts}
use Rattle.shore_model.specs.declared.calls.Call.{Call}
use Rattle.shore_model.specs.declared.histories.Decision.TheVariants.{Commit, RollBack}
use Rattle.shore_model.specs.declared.histories.Entry.{Entry}
use Rattle.shore_model.specs.declared.histories.Opening.{Opening}
use Rattle.shore_model.specs.Locks.{Harmony, WellRooted}
use Rattle.shore_model.specs.declared.log_records.LogRecord.{LogRecord}
use Rattle.shore_model.specs.declared.step.Step.{Step}
use Rattle.shore_model.specs.Histories.{IsHistory, RunsAloneAfter, Sound, decisions, free, in_doubt, session_state, shown}
use Rattle.shore_model.specs.declared.sessions.SessionState.{SessionState}
use Rattle.shore_model.specs.Logs.{is_over, logged_writes, records_told}
use Rattle.shore_model.specs.Records.{overlays, scan_of}
use Rattle.shore_model.specs.Requests.{HasNoCycle, held_by_all}
use Rattle.shore_locks.specs.Tables.{Table}
use Rattle.laws_lives.proofs.InPlace.{is_overlaid}
use Rattle.laws_lives.proofs.LoggedInPlace.{stand_logged}
use Rattle.laws_lives.specs.OwnSeats.{IsIn, seat_of}
use Rattle.laws_lives.specs.LogPrefixes.{decisions_in}
use Rattle.laws_lives.specs.Sessions.{IsFree, PreparedTxn, ResolvedTxn, SessionTxn, Sessions, in_doubt_of, in_prepared, in_txn, pair_of, pairs_of, resolved_of, txns_of}
use Rattle.laws_lives.specs.Soundness.{decided_txn, history_from, serial_after}
use Rattle.laws_lives.specs.Undo.{IsLoser}
use Rattle.laws_lives.specs.Views.{IsAmong}
use Rattle.laws_lives.proofs.Lists.{among_map, mapped_one}
use Rattle.laws_lives.proofs.Members.{txn_of_one}
use Rattle.laws_lives.proofs.WholeSteps.{among_or_not}
use Rattle.laws_calls.proofs.RolledDecisions.{rolled_back_decided, rolled_uncommitted}
use Rattle.laws_calls.proofs.Rooted.{stay_rooted}
use Rattle.laws_calls.proofs.SessionTells.{all_shown, session_runs_alone}
use Rattle.laws_calls.proofs.OwnCycles.{events_begin}
use Rattle.laws_calls.proofs.SettledThere.{events_there}
use Rattle.laws_calls.specs.Events.{HasFailed, IsStateAfter}
use Rattle.laws_calls.specs.Events as calls
use Rattle.laws_calls.specs.SessionWaits.{AllBeginWithTheirs, AllWaitThere}
use Rattle.laws_calls.specs.States.{State}
use Rattle.laws_runs.proofs.Checkpointing.{step_goes}
use Rattle.laws_runs.specs.CheckpointSteps.{CheckpointMoves, CheckpointedMove, CheckpointedMoves, CheckpointedState, CheckpointedSteps, Checkpoints, Goes, entries_of_move}
use Rattle.laws_runs.specs.CheckpointedStates.{IsAtCheckpoints}
use Rattle.laws_runs.specs.StoredRuns.{Manage, Tend}
use Rattle.laws_orders.proofs.Moves.{moves_in_order}
use Rattle.shore_world.specs.declared.event.Event.{Event}
use Rattle.shore_world.specs.declared.world.World.{World}
use Rattle.shore_world.specs.EventMoves.{OfCheckpoint, OfManager, PlainMove, moves_among, moves_by}
use Rattle.shore_world.proofs.CheckpointLemmas.{firsts_kept, moves_state, there_kept}
use Rattle.shore_world.specs.Events.{IsOfCheckpoint, IsServedEvent}
use Rattle.shore_world.specs.Exchanges.{AreLast, Telling, tellings_in, tellings_of, told_by, told_in, waited_after, waited_behind, waited_in}
use Rattle.shore_world.specs.Lives.{DumpsShow}
use Rattle.shore_world.specs.Promises.{AreUnended, GoesOnAs, IsManagerOf, IsStateOf, gained, standing_for}
use Rattle.shore_world.proofs.StandingLemmas.{standing_overlaid}
use Rattle.shore_gate.specs.declared.anchors.Anchors.{Anchors}
use Rattle.shore_model.specs.declared.calls.Answer.TheVariants.{Moved}
use Rattle.shore_model.specs.declared.step.Step.TheVariants.{Done}
use Rattle.shore_world.specs.declared.event.Event.TheVariants as event
use Rattle.shore_world.proofs.LogParts.{IsBesideOf, log_long, log_of}
use Rattle.shore_world.specs.Labels.{IsVolumeFront}
use Rattle.shore_world.proofs.LabelLemmas.{as_long, log_front_stays}
use Rattle.shore_world.proofs.LimitLemmas.{moves_limit}
use Rattle.shore_world.specs.Worlds.{Between, CheckpointsState, EventStep, Runs, Steps, cut_in, geometry_in, history_in, last_in, requests_in, stream_bytes_in}
use Rattle.shore_world.proofs.ExchangeLemmas.{Waited, event_tells, event_waits, have_told, runs_told, runs_wait}
use Rattle.shore_world.proofs.StoredLemmas.{HasRun, IsUpAt, checkpoints_to, moves_to, run_run, seen_of, up_safe}

-- ---- what moves over plain data keep

-- the calls that wait do so at requests of their own, and each that is to be told a cycle is the first of it
pub record StandInOrder (s : State) : Type 0 where
  pub there : AllWaitThere s
  pub firsts : AllBeginWithTheirs s

pub moves_keep_order : (g : Geometry) (ring_bytes : ℕ) (o : Opening) (found : List LogRecord) (es : List Entry) (m : CheckpointedState) → IsAtCheckpoints g ring_bytes o found es m → StandInOrder m.state
    → (moves : List CheckpointedMove) (last : CheckpointedState) (made : List Entry) → CheckpointedMoves g m moves last made → StandInOrder last.state
moves_keep_order g ring_bytes o found es m k was [] last made h = subst (λ (x : CheckpointedState). StandInOrder x.state) (sym h.0) was
moves_keep_order g ring_bytes o found es m k was (e ∷ moves) last made h =
    moves_keep_order g ring_bytes o found (es ++ entries_of_move m e h.0) h.0 (step_goes g ring_bytes o found es m k e h.0 h.2) (by e h.2) moves last h.1 h.3
  where
    by : (e : CheckpointedMove) → CheckpointedSteps g m e h.0 → StandInOrder h.0.state
    by (Goes (Manage x works)) steps = record {
      there = events_there g o found es m.state (x ∷ []) h.0.state k.under_way.state was.there (h.0.state, steps.0.0, refl);
      firsts = events_begin g o found es m.state (x ∷ []) h.0.state k.under_way.state was.firsts (h.0.state, steps.0.0, refl);
    }
    by (Goes (Tend works)) steps = subst StandInOrder (sym steps.0.0) was
    by (Checkpoints step) steps =
        let state = moves_state m step h.0 steps in
        record { there = there_kept m.state step h.0.state state was.there; firsts = firsts_kept m.state step h.0.state state was.firsts }

-- failures of the volume and nothing else
abbrev AreFailures : List PlainMove → Type 0
AreFailures [] = Unit {0}
AreFailures (OfManager HasFailed ∷ moves) = AreFailures moves
AreFailures (OfManager (calls.Called session c step) ∷ moves) = ⊥
AreFailures (OfManager (calls.Resumed session step) ∷ moves) = ⊥
AreFailures (OfManager (calls.GaveUp session step) ∷ moves) = ⊥
AreFailures (OfManager (calls.Forced n) ∷ moves) = ⊥
AreFailures (OfManager (calls.TicketAsked ticket answer) ∷ moves) = ⊥
AreFailures (OfCheckpoint step ∷ moves) = ⊥

between_fails : {L V : Type 0} {G : Ghosts L} {H : Ghosts V} (old new : World L V G H) (failures : List PlainMove) → Between old failures new → AreFailures failures
between_fails old new [] between = tt
between_fails old new (OfManager HasFailed ∷ failures) (mid, fails, rest) = between_fails mid new failures rest
between_fails old new (OfManager (calls.Called session c step) ∷ failures) between = absurd between
between_fails old new (OfManager (calls.Resumed session step) ∷ failures) between = absurd between
between_fails old new (OfManager (calls.GaveUp session step) ∷ failures) between = absurd between
between_fails old new (OfManager (calls.Forced n) ∷ failures) between = absurd between
between_fails old new (OfManager (calls.TicketAsked ticket answer) ∷ failures) between = absurd between
between_fails old new (OfCheckpoint step ∷ failures) between = absurd between

-- no call begins to wait by them, and none is told
failures_leave_waits : (g : Geometry) (m : CheckpointedState) (moves : List CheckpointedMove) (last : CheckpointedState) (made : List Entry) → CheckpointedMoves g m moves last made
    → AreFailures (moves_among moves) → last.state.waiting ≡ m.state.waiting
failures_leave_waits g m [] last made h fail = ap (λ (x : CheckpointedState). x.state.waiting) h.0
failures_leave_waits g m (Goes (Manage HasFailed works) ∷ moves) last made h fail =
    failures_leave_waits g h.0 moves last h.1 h.3 fail ∙ ap (λ (x : State). x.waiting) h.2.0.0
failures_leave_waits g m (Goes (Manage (calls.Called session c step) works) ∷ moves) last made h fail = absurd fail
failures_leave_waits g m (Goes (Manage (calls.Resumed session step) works) ∷ moves) last made h fail = absurd fail
failures_leave_waits g m (Goes (Manage (calls.GaveUp session step) works) ∷ moves) last made h fail = absurd fail
failures_leave_waits g m (Goes (Manage (calls.Forced n) works) ∷ moves) last made h fail = absurd fail
failures_leave_waits g m (Goes (Manage (calls.TicketAsked ticket answer) works) ∷ moves) last made h fail = absurd fail
failures_leave_waits g m (Goes (Tend works) ∷ moves) last made h fail =
    failures_leave_waits g h.0 moves last h.1 h.3 fail ∙ ap (λ (x : State). x.waiting) h.2.0.0
failures_leave_waits g m (Checkpoints step ∷ moves) last made h fail = absurd fail

none_is : (t : ℕ) → 0 < t → 0 ≡ t → ⊥
none_is t some is = omega arith

module _ {L V : Type 0} {G : Ghosts L} {H : Ghosts V} (w : World L V G H) (o : Opening) (es : List Entry) (ws : List (ℕ × Call)) (k : IsManagerOf w o es ws) where
  -- the requests of the state are the world's
  same_requests : k.now.state.locks.requests ≡ requests_in w
  same_requests = ap (λ (t : Table). t.requests) k.at.is_in.beside.parts.stands.locks

  pub held_now : k.now.state.sessions.held ≡ held_by_all (requests_in w)
  held_now = k.under_way.under_way.state.sessions.locks.held ∙ ap held_by_all same_requests

  pub in_harmony : Harmony (held_by_all (requests_in w)) × WellRooted (held_by_all (requests_in w))
  in_harmony = (
    subst Harmony held_now k.under_way.under_way.state.sessions.sound.stand.harmony,
    subst WellRooted held_now (stay_rooted o k.found es k.now.state k.under_way.under_way.state),
  )

  pub on_no_cycle : HasNoCycle (requests_in w)
  on_no_cycle = subst HasNoCycle same_requests k.under_way.under_way.no_cycle

  -- ---- a run

  pub as_up : IsUpAt (geometry_in w) (stream_bytes_in w) o k.found (take 512 k.log_front) k.front es w k.now
  as_up = record { log_front = k.log_front; labelled = refl; disk = k.disk; at = k.at; geometry = refl; long = refl; under_way = k.under_way }

  -- what a run has come to is a manager again
  pub record HasGoneOn (new : World L V G H) (waited : Waited) (told : List Telling) : Type 0 where
    pub made : List Entry
    pub manager : IsManagerOf new o (es ++ made) waited
    pub is_told : tellings_in made ≡ told
    -- opened on the same log
    pub same : manager.found ≡ k.found

  pub ran_manager : (moves : List PlainMove) (new : World L V G H) (ran : HasRun (geometry_in w) (stream_bytes_in w) o k.found (take 512 k.log_front) k.front es k.now moves new)
      → (waited : Waited) → waited_in ws moves ≡ waited → IsManagerOf new o (es ++ ran.made) waited
  ran_manager moves new ran waited is =
      let told = have_told (geometry_in w) (stream_bytes_in w) o k.found es ws k.now k.under_way k.waited ran.plain ran.last ran.made ran.stored in
      let order = moves_keep_order (geometry_in w) (stream_bytes_in w) o k.found es k.now k.under_way (record { there = k.there; firsts = k.firsts }) ran.plain ran.last ran.made ran.stored in
      record {
        found = k.found;
        opening = k.opening;
        log_front = ran.up.log_front;
        front = k.front;
        disk = ran.up.disk;
        now = ran.last;
        at = ran.up.at;
        log_labelled = log_front_stays (geometry_in w) (geometry_in new) (size (history_in w)) (size (history_in new)) k.log_front ran.up.log_front ran.up.geometry
            (as_long _ (size (history_in w)) (size (history_in new)) k.log_labelled.long ran.up.long) ran.up.labelled k.log_labelled;
        volume_labelled = subst (λ (g : Geometry). IsVolumeFront g k.front) (sym ran.up.geometry) k.volume_labelled;
        limit = moves_limit (geometry_in w) k.now ran.last ran.plain ran.made ran.stored ∙ k.limit ∙ ap (λ (g : Geometry). g.max_locks) (sym ran.up.geometry);
        under_way = subst (λ (g : Geometry). IsAtCheckpoints g (stream_bytes_in new) o k.found (es ++ ran.made) ran.last) (sym ran.up.geometry)
            (subst (λ n. IsAtCheckpoints (geometry_in w) n o k.found (es ++ ran.made) ran.last) (sym ran.up.long) ran.up.under_way);
        waited = subst (λ (l : Waited). AreLast l ran.last.state) (ap (waited_in ws) ran.same ∙ is) told.waits;
        there = order.there;
        firsts = order.firsts;
        in_order = moves_in_order (geometry_in w) (stream_bytes_in w) o k.found es k.now k.under_way ran.plain ran.last ran.made ran.stored k.in_order;
      }

  -- it tells what its moves do
  pub ran_told : (moves : List PlainMove) (new : World L V G H) (ran : HasRun (geometry_in w) (stream_bytes_in w) o k.found (take 512 k.log_front) k.front es k.now moves new)
      → tellings_in ran.made ≡ told_in ws moves
  ran_told moves new ran =
      (have_told (geometry_in w) (stream_bytes_in w) o k.found es ws k.now k.under_way k.waited ran.plain ran.last ran.made ran.stored).told ∙ ap (told_in ws) ran.same

  ran_on : (moves : List PlainMove) (new : World L V G H) → HasRun (geometry_in w) (stream_bytes_in w) o k.found (take 512 k.log_front) k.front es k.now moves new
      → HasGoneOn new (waited_in ws moves) (told_in ws moves)
  unfolding ran_manager
  ran_on moves new ran = record { made = ran.made; manager = ran_manager moves new ran (waited_in ws moves) refl; is_told = ran_told moves new ran; same = refl }

  pub goes_on : (events : List Event) (steps : List Step) (moves : List PlainMove) (new : World L V G H) → AllByRecursion IsServedEvent events → Runs w events steps moves new
      → HasGoneOn new (waited_after ws events steps) (tellings_of ws events steps)
  goes_on events steps moves new served runs =
      let ran = run_run (geometry_in w) (stream_bytes_in w) o k.found (take 512 k.log_front) k.front es w k.now as_up events steps moves new served runs in
      subst (λ (l : Waited). HasGoneOn new l (tellings_of ws events steps)) (runs_wait w ws events steps moves new runs)
      (subst (HasGoneOn new (waited_in ws moves)) (runs_told w ws events steps moves new runs) (ran_on moves new ran))

  -- ---- between two events

  -- it is a manager of the same history, and the same calls wait
  pub record HasMovedBy (moves : List PlainMove) (new : World L V G H) : Type 0 where
    pub made : List Entry
    pub manager : IsManagerOf new o (es ++ made) ws
    pub told : tellings_in made ≡ []
    pub waits : manager.now.state.waiting ≡ k.now.state.waiting

  pub between_on : (failures : List PlainMove) (new : World L V G H) → Between w failures new → HasMovedBy failures new
  unfolding as_up ran_manager
  between_on failures new between =
      let ran = run_run (geometry_in w) (stream_bytes_in w) o k.found (take 512 k.log_front) k.front es w k.now as_up [] [] failures new tt between in
      record {
        made = ran.made;
        manager = ran_manager failures new ran ws (runs_wait w ws [] [] failures new between);
        told = ran_told failures new ran ∙ runs_told w ws [] [] failures new between;
        waits = failures_leave_waits (geometry_in w) k.now ran.plain ran.last ran.made ran.stored (subst AreFailures (sym ran.same) (between_fails w new failures between));
      }

  -- ---- one event

  abbrev pub g : Geometry
  g = geometry_in w

  pub record HasStepped (e : Event) (step : Step) (new : World L V G H) : Type 0 where
    pub on : GoesOnAs new o es ws e step
    pub told : tellings_in on.made ≡ told_by ws e step
    pub moves : EventStep g k.now.state e step on.manager.now.state

  pub stepped : (e : Event) (step : Step) (new : World L V G H) → IsServedEvent e → Steps w e step new → HasStepped e step new
  unfolding as_up ran_manager
  stepped e step new served one =
      let moved = moves_to g (stream_bytes_in w) o k.found (take 512 k.log_front) k.front es w k.now as_up e step new served one in
      let waits : waited_in ws (moves_by e step) ≡ waited_behind ws e step = ap (waited_in ws) (sym (append-nil (moves_by e step))) ∙ event_waits ws e step [] in
      record {
        on = record { made = moved.run.made; manager = ran_manager (moves_by e step) new moved.run (waited_behind ws e step) waits };
        told = ran_told (moves_by e step) new moved.run ∙ ap (told_in ws) (sym (append-nil (moves_by e step))) ∙ event_tells ws e step [] ∙ append-nil (told_by ws e step);
        moves = subst (EventStep g k.now.state e step) (sym moved.same) moved.moves;
      }

  -- a step of a checkpoint is one over plain data, and adds nothing to the history
  pub record HasCheckpointedOn (step : Step) (new : World L V G H) : Type 0 where
    pub on : GoesOnAs new o es ws event.CheckpointStep step
    pub none : on.made ≡ []
    pub moves : CheckpointMoves k.now step on.manager.now

  pub checkpointed : (step : Step) (new : World L V G H) → Steps w event.CheckpointStep step new → HasCheckpointedOn step new
  unfolding as_up ran_manager
  checkpointed step new one =
      let moved = checkpoints_to g (stream_bytes_in w) o k.found (take 512 k.log_front) k.front es w k.now as_up step new one in
      record {
        on = record { made = moved.run.made; manager = ran_manager (moves_by event.CheckpointStep step) new moved.run ws refl };
        none = moved.none;
        moves = subst (CheckpointMoves k.now step) (sym moved.same) moved.moves;
      }

  -- what can be seen of the state
  pub seen : IsStateOf w k.now.state
  seen = seen_of g (stream_bytes_in w) o k.found (take 512 k.log_front) k.front es w k.now as_up

  pub after : IsStateAfter o k.found es k.now.state
  after = k.under_way.under_way.state

  -- ---- its history

  pub sound_history : IsHistory (history_from o es) × Sound (history_from o es)
  sound_history = (k.under_way.under_way.state.sessions.agree.history, k.under_way.under_way.state.sessions.sound.sound)

  -- its decisions are those of the records that its log has gained, and the log tells what they show
  pub decided_records : decisions es ≡ decisions_in (length k.found) k.now.state.log
  decided_records = k.under_way.under_way.state.sessions.decides.all

  pub told_is_shown : records_told k.now.state.log ≡ shown (history_from o es) (decisions es)
  told_is_shown = all_shown o k.found es k.now.state k.under_way.under_way.state

  -- ---- its records

  abbrev pub under_way_of : List ℕ
  under_way_of = txns_of k.now.state.sessions.active

  pub dumps : DumpsShow w (overlays (serial_after o es) (map (logged_writes k.now.state.log) under_way_of))
  dumps store pairs is =
      let s = k.now.state in
      is k.front k.disk s k.now.store k.at.is_in
      (up_safe (geometry_in w) (stream_bytes_in w) o k.found (take 512 k.log_front) k.front es w k.now as_up) k.at.over
      ∙ ap (scan_of store) (is_overlaid (stand_logged k.under_way.under_way.state.sessions.sound k.under_way.under_way.state.sessions.log))

  pub dumps_standing : DumpsShow w (overlays (serial_after o es) (map (standing_for o es k.now.state.log) k.now.state.sessions.active))
  dumps_standing store pairs is =
      let s = k.now.state in
      is k.front k.disk s k.now.store k.at.is_in
      (up_safe (geometry_in w) (stream_bytes_in w) o k.found (take 512 k.log_front) k.front es w k.now as_up) k.at.over
      ∙ ap (scan_of store) (standing_overlaid k.under_way.under_way.state.sessions.sound k.under_way.under_way.state.sessions.log)

  abbrev pub sessions_now : Sessions
  sessions_now = k.now.state.sessions

  -- ---- those in doubt

  pub in_doubt_now : pairs_of sessions_now.prepared ≡ in_doubt o.in_doubt (decisions es)
  in_doubt_now = sym k.under_way.under_way.state.sessions.agree.in_doubt

  -- they are under way
  pub doubts_under_way : (t : ℕ) (global : List ℕ) → IsAmong (t, global) (in_doubt o.in_doubt (decisions es)) → IsAmong t under_way_of
  doubts_under_way t global there =
      let p = mapped_one pair_of (t, global) sessions_now.prepared (subst (IsAmong (t, global)) (sym in_doubt_now) there) in
      k.under_way.under_way.state.sessions.agree.under_way t
      (subst (λ (n : ℕ). IsAmong n (in_doubt_of sessions_now)) (ap (λ (q : ℕ × List ℕ). q.0) p.2) (among_map (λ (x : PreparedTxn). x.txn) p.0 sessions_now.prepared p.1))

  -- ---- those that have not ended

  pub under_way_not_over : (t : ℕ) → IsAmong t under_way_of → is_over t k.now.state.log ≡ false
  under_way_not_over t there = k.under_way.under_way.leaves.whole.unended t there

  pub losers_under_way : (t : ℕ) → IsLoser k.now.state.log t → IsAmong t under_way_of
  losers_under_way t loser = k.under_way.under_way.leaves.losers t loser

  -- one that a session is in
  unended_own : (t : ℕ) → IsAmong t under_way_of → IsFree sessions_now t
      → (session : ℕ) × (session_state session free es ≡ in_txn t) × AllByRecursion (λ d. decided_txn d ≢ t) (decisions es)
  unended_own t there free =
      let a = txn_of_one t sessions_now.active there in (
        a.0.session,
        k.under_way.under_way.state.sessions.agree.seats a.0.session
            ∙ k.under_way.under_way.state.sessions.seats.own a.0.session t
            (subst (λ (n : ℕ). IsAmong (a.0.session, n) (map seat_of sessions_now.active)) a.2 (among_map seat_of a.0 sessions_now.active a.1), free.0, free.1),
        k.under_way.under_way.state.sessions.sound.undecided t there free,
      )

  -- one in doubt
  unended_doubt : (t : ℕ) → IsAmong t (in_doubt_of sessions_now) → (global : List ℕ) × IsAmong (t, global) (in_doubt o.in_doubt (decisions es))
  unended_doubt t there =
      let p = mapped_one (λ (x : PreparedTxn). x.txn) t sessions_now.prepared there in
      (p.0.global, subst (λ (n : ℕ). IsAmong (n, p.0.global) (in_doubt o.in_doubt (decisions es))) p.2 (subst (IsAmong (pair_of p.0)) in_doubt_now (among_map pair_of p.0 sessions_now.prepared p.1)))

  -- one that a resolve rolls back
  unended_rolled : (t : ℕ) → IsAmong t under_way_of → IsAmong t (resolved_of sessions_now) → IsAmong (RollBack t) (decisions es) × (IsAmong (Commit t) (decisions es) → ⊥)
  unended_rolled t there resolved =
      let r = mapped_one (λ (x : ResolvedTxn). x.txn) t sessions_now.resolving resolved in
      let active = subst (λ (n : ℕ). IsAmong n under_way_of) (sym r.2) there in
      let now = k.under_way.under_way.state.sessions in
      subst (λ (n : ℕ). IsAmong (RollBack n) (decisions es) × (IsAmong (Commit n) (decisions es) → ⊥)) r.2 (
        subst (IsAmong (RollBack r.0.txn)) (sym now.decides.all) (rolled_back_decided o k.found es k.now.state now r.0 r.1 active),
        rolled_uncommitted o k.found es k.now.state now r.0 r.1 active,
      )

  pub each_unended : AreUnended o es under_way_of
  each_unended t there = ⊎_elim
      (λ doubt. inr (inl (unended_doubt t doubt)))
      (λ sure. ⊎_elim
      (λ resolved. inr (inr (unended_rolled t there resolved)))
      (λ unresolved. inl (unended_own t there (sure, unresolved)))
      (among_or_not t (resolved_of sessions_now)))
      (among_or_not t (in_doubt_of sessions_now))

  -- whoever is in a transaction by the history is in one that is under way
  same_txn : (t u : ℕ) → in_txn t ≡ in_txn u → u ≡ t
  same_txn t u is = ap (λ (x : SessionState). x.txn) (sym is)

  txn_seated : (session t : ℕ) (xs : List SessionTxn) → IsAmong (session, t) (map seat_of xs) → IsAmong t (txns_of xs)
  txn_seated session t xs there =
      let a = mapped_one seat_of (session, t) xs there in
      subst (λ (n : ℕ). IsAmong n (txns_of xs)) (ap (λ (p : ℕ × ℕ). p.1) a.2) (among_map (λ (b : SessionTxn). b.txn) a.0 xs a.1)

  abbrev IsSeated : ℕ → ℕ → Type 0
  IsSeated session t = IsIn (map seat_of sessions_now.active) (in_doubt_of sessions_now) (resolved_of sessions_now) session t

  each_seated : (session t : ℕ) → session_state session free es ≡ in_txn t → 0 < t → IsSeated session t
  each_seated session t is some = by (k.under_way.under_way.state.sessions.seats.there session)
    where
      seat : in_txn t ≡ sessions_now.seats session
      seat = sym is ∙ k.under_way.under_way.state.sessions.agree.seats session

      by : (sessions_now.seats session ≡ free) ⊎ (((u : ℕ) × IsSeated session u) ⊎ ((u : ℕ) × IsAmong u (in_doubt_of sessions_now) × (sessions_now.seats session ≡ in_prepared u)))
          → IsSeated session t
      by (inl none) = absurd (none_is t some (ap (λ (x : SessionState). x.txn) (sym (seat ∙ none))))
      by (inr (inl (u, there))) = subst (IsSeated session) (same_txn t u (seat ∙ k.under_way.under_way.state.sessions.seats.own session u there)) there
      by (inr (inr (u, doubt, prepared))) = absurd (true≢false (sym (ap (λ (x : SessionState). x.prepared) (seat ∙ prepared))))

  pub each_there : (session t : ℕ) → session_state session free es ≡ in_txn t → 0 < t → IsAmong t under_way_of
  each_there session t is some = txn_seated session t sessions_now.active (each_seated session t is some).0

  -- .. and it has decided nothing
  pub each_undecided : (session t : ℕ) → session_state session free es ≡ in_txn t → 0 < t → AllByRecursion (λ d. decided_txn d ≢ t) (decisions es)
  each_undecided session t is some =
      let seated = each_seated session t is some in
      k.under_way.under_way.state.sessions.sound.undecided t (txn_seated session t sessions_now.active seated.0) (seated.1, seated.2)

  -- .. and what it was answered it might have been answered alone, on what is decided
  pub each_alone : (session t : ℕ) → session_state session free es ≡ in_txn t → 0 < t → RunsAloneAfter (history_from o es) (decisions es) t
  each_alone session t is some =
      let seated = each_seated session t is some in
      let a = mapped_one seat_of (session, t) sessions_now.active seated.0 in
      let own = k.under_way.under_way.state.sessions.seats.own session t seated in
      let of : a.0.session ≡ session = ap (λ (p : ℕ × ℕ). p.0) a.2 in
      let its : a.0.txn ≡ t = ap (λ (p : ℕ × ℕ). p.1) a.2 in
      subst (RunsAloneAfter (history_from o es) (decisions es)) its
      (session_runs_alone o k.found es k.now.state k.under_way.under_way.state a.0 (a.1, ap sessions_now.seats of ∙ own ∙ ap in_txn (sym its), subst (λ (n : ℕ). 0 < n) (sym its) some))

  -- ---- what its log gains

  pub log_seen : length k.now.state.log ≡ last_in w
  log_seen = log_long w k.now.state k.at.is_in.beside

  -- a move of the anchor appends no record
  moved_appends_none : (e : Event) (step : Step) (later : State) → IsOfCheckpoint e → step ≡ Done Moved → EventStep g k.now.state e step later → later.log ≡ k.now.state.log
  moved_appends_none (event.Call session call) step later is moved h = absurd is
  moved_appends_none (event.Resume session) step later is moved h = absurd is
  moved_appends_none (event.GiveUp session) step later is moved h = absurd is
  moved_appends_none (event.Ask ticket) step later is moved h = absurd is
  moved_appends_none event.ForceStage step later is moved h = absurd is
  moved_appends_none event.ForceOpen step later is moved h = absurd is
  moved_appends_none event.FlushStep step later is moved h = absurd is
  moved_appends_none event.CutTrail step later is moved h = absurd is
  moved_appends_none event.CheckpointStep step later is moved h =
      let noted = subst (λ (x : Step). CheckpointsState k.now.state x later) moved h in ap (λ (x : State). x.log) noted.1.1

  pub cut_low : (e : Event) (step : Step) (new : World L V G H) (later : State) → Steps w e step new → EventStep g k.now.state e step later → IsBesideOf new later → cut_in new ≤ length k.now.state.log
  cut_low e step new later one h now = ⊎_elim
      (λ same.
      let before = (log_of w k.now.state k.at.is_in.beside).within in
      let tail = ap (λ (a : Anchors). a.anchor.tail) same in
      let first = w.log.anchored.0 in
      let first_now = new.log.anchored.0 in
      omega (arith, before, tail, first, first_now))
      (λ moved.
      let within = (log_of new later now).within in
      let long = ap length (moved_appends_none e step later moved.0 moved.1 h) in
      omega (arith, within, long))
      one.anchors

  -- what an event appends is what the log gains of what is kept then
  pub gains : (e : Event) (step : Step) (new : World L V G H) (later : State) → Steps w e step new → EventStep g k.now.state e step later → IsBesideOf new later
      → drop (length k.now.state.log) later.log ≡ gained w new
  gains e step new later one h now =
      let low = cut_low e step new later one h now in
      let parts : length k.now.state.log ≡ cut_in new + (last_in w - cut_in new) = omega (arith, low, log_seen) in
      ap (λ n. drop n later.log) parts ∙ sym (drop-drop (last_in w - cut_in new) (cut_in new) later.log) ∙ ap (drop (last_in w - cut_in new)) (log_of new later now).kept
