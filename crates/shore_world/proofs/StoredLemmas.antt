-- A run of the world, from an open on, is events of a manager with its checkpoints over its store; and what a crash of it leaves.
use Rattle.std.proofs.Common.{◌≡◌, ◌≤◌, ◌+◌, inl, inr, ⊎_elim, ℕ, ◌-◌, List, [], ◌∷◌, ◌++◌, arith, drop, length, refl, sym, ◌∙◌, ap, subst, take, append-nil, append_assoc}
use Rattle.std.proofs.lemmas.List.{drop-take}
use Rattle.std.specs.List.{AllByRecursion}
use Rattle.shore_types.specs.declared.faults.Fault.{Fault}
use Rattle.shore_types.specs.declared.layout.Geometry.{Geometry}
use Rattle.shore_types.specs.declared.layout.TheConstants.{LOG_FRONT_BYTES, LONGEST_FRAME}
use Rattle.shore_disk.specs.Device.{DeviceHistory, size}
use Rattle.shore_disk.specs.declared.device.Disk.{Ghosts}
use Rattle.shore_gate.specs.Anchor.{Counts}
use Rattle.shore_gate.specs.declared.anchors.Anchor.{Anchor}
use Rattle.shore_gate.specs.declared.anchors.Slot.{Slot}
use Rattle.shore_model.specs.declared.calls.Answer.TheVariants.{Cut, Staged, Forced, IsDurable}
use Rattle.shore_model.specs.declared.histories.Entry.{Entry}
use Rattle.shore_model.specs.declared.histories.Opening.{Opening}
use Rattle.shore_model.specs.declared.log_records.LogRecord.{LogRecord}
use Rattle.shore_frames.specs.Frames.{GivesFrom}
use Rattle.shore_log.proofs.MoveLemmas.{front_counts}
use Rattle.shore_log.specs.Settled.{stable}
use Rattle.laws_lives.specs.Recovery.{RecoveryEvent}
use Rattle.laws_checkpoints.specs.CheckpointedStores.{CheckpointedStore}
use Rattle.shore_model.specs.declared.step.Step.{Step}
use Rattle.shore_model.specs.declared.step.Step.TheVariants.{Done, Waits, Refused, Nothing}
use Rattle.laws_calls.specs.Events.{Called, GaveUp, HasFailed, ManagerEvent, Resumed, EventMoves}
use Rattle.laws_calls.specs.StateChanges.{with_failure}
use Rattle.laws_calls.specs.Events as calls
use Rattle.laws_calls.specs.States.{State, cost_of_log}
use Rattle.laws_runs.proofs.Checkpointing.{step_goes}
use Rattle.laws_runs.proofs.KeptRooms.{kept_fits}
use Rattle.laws_runs.proofs.UnderWay.{under_way_inside}
use Rattle.laws_runs.specs.CheckpointSteps.{CheckpointMoves, CheckpointedMove, CheckpointedMoves, CheckpointedState, CheckpointedSteps, Checkpoints, Goes, entries_of_move, stored_in}
use Rattle.laws_runs.specs.CheckpointedStates.{IsAtCheckpoints, MayBeAnchored}
use Rattle.laws_runs.specs.StoredRuns.{IsStored, Manage, Tend}
use Rattle.laws_images.specs.Moments.{ShowsLeft}
use Rattle.laws_images.specs.StandsBehind.{GivesKept, anchored_by, kept_behind}
use Rattle.shore_core.specs.Cores.{IsSafe}
use Rattle.shore_core.specs.Flushing.{FlushMoves}
use Rattle.shore_core.specs.Stores.{WorksOn}
use Rattle.shore_core.proofs.Works.{stores_to, works_to}
use Rattle.shore_world.specs.declared.event.Event.{Event}
use Rattle.shore_world.specs.declared.event.Event.TheVariants.{Call, GiveUp, Resume, Ask, ForceStage, ForceOpen, FlushStep, CheckpointStep, CutTrail}
use Rattle.shore_world.specs.declared.world.World.{World}
use Rattle.shore_world.specs.Crashes.{AreLeft, AreLeftBetween}
use Rattle.shore_world.specs.Events.{IsOfCheckpoint, IsServedEvent}
use Rattle.shore_world.specs.EventMoves.{OfCheckpoint, OfManager, PlainMove, failure_by, moves_among, moves_by}
use Rattle.shore_world.specs.Legs.{NoForceIsFull}
use Rattle.shore_world.specs.Promises.{IsStateOf}
use Rattle.shore_locks.specs.Tables.{Table}
use Rattle.shore_world.specs.Worlds.{Between, Comes, ComesByCheckpoint, EventStep, ForceRefused, HasFailedToRead, IsAt, IsLeftOfLog, IsLike, IsNextIn, LeavesAtAnyMoment, MayCheckpoint, OpenRefused, Runs, Steps, SurvivesCrashes, WorldComesTo, anchor_in, cut_in, geometry_in, list_in, stream_bytes_in}
use Rattle.shore_world.proofs.CheckpointLemmas.{checkpoint_moves, checkpoint_step, moves_state}
use Rattle.shore_world.proofs.LogParts.{log_long, log_of}
use Rattle.shore_world.proofs.MovedLemmas.{ReachesNext, behind_next, front_stays, kept_further, next_may_be, same_label}
use Rattle.shore_world.proofs.WorldLemmas.{forced_within, stable_is}

-- ---- one event

-- what an event is over the store: work between two events, or an event of the manager with its work
record StoredAs (g : Geometry) (m new : CheckpointedState) (moves : List PlainMove) : Type 0 where
  plain : CheckpointedMove
  steps : CheckpointedSteps g m plain new
  same : moves_among (plain ∷ []) ≡ moves

module _ (g : Geometry) (m : CheckpointedState) (works : List RecoveryEvent) (store : CheckpointedStore) (work : WorksOn m.store works store) (new : State) (are : IsStored new store.store) where
  abbrev here : CheckpointedState
  here = record { state = new; store = store }

  tended : new ≡ m.state → StoredAs g m here []
  tended is = record { plain = Goes (Tend works); steps = ((is, works_to m.store works store work, are), stores_to m.store works store work); same = refl }

  managed_as : (e : ManagerEvent) → EventMoves g m.state e new → StoredAs g m here (OfManager e ∷ [])
  managed_as e moves = record { plain = Goes (Manage e works); steps = ((moves, works_to m.store works store work, are), stores_to m.store works store work); same = refl }

  refused : (f : Fault) → ForceRefused m.state f new → StoredAs g m here (failure_by f)
  refused f (inl p) = subst (λ (x : Fault). StoredAs g m here (failure_by x)) (sym p.1) (tended p.2)
  refused f (inr (inl p)) = subst (λ (x : Fault). StoredAs g m here (failure_by x)) (sym p.1) (managed_as HasFailed p.2)
  refused f (inr (inr (running, full, same))) = subst (λ (x : Fault). StoredAs g m here (failure_by x)) (sym full) (tended same)

  open_refused : (f : Fault) → OpenRefused m.state f new → StoredAs g m here (failure_by f)
  open_refused f (inl p) = refused f (inl p)
  open_refused f (inr p) = refused f (inr (inl p))

  flush_stored : (step : Step) → FlushMoves m.state step new → StoredAs g m here (moves_by FlushStep step)
  flush_stored (Done answer) p = tended p.2
  flush_stored (Waits wait) p = absurd p
  flush_stored (Refused f) (inl failed) = refused f (inl failed)
  flush_stored (Refused f) (inr (running, device, is)) = refused f (inr (inl (running, device, is)))
  flush_stored Nothing p = tended p.1

  one_stored : (e : Event) (step : Step) → (IsOfCheckpoint e → ⊥) → IsServedEvent e → EventStep g m.state e step new → StoredAs g m here (moves_by e step)
  one_stored (Call session call) step beside served p = managed_as (Called session call step) (served, p)
  one_stored (Resume session) step beside served p = managed_as (Resumed session step) p
  one_stored (GiveUp session) step beside served p = managed_as (GaveUp session step) p
  one_stored (Ask ticket) (Done (IsDurable answer)) beside served p = managed_as (calls.TicketAsked ticket answer) p
  one_stored ForceStage (Done (Staged n)) beside served p = tended p.3
  one_stored ForceStage Nothing beside served p = tended p.1
  one_stored ForceStage (Refused f) beside served p = refused f p
  one_stored ForceOpen (Done (Forced n)) beside served p = managed_as (calls.Forced n) (omega (arith, p.1), p.2, p.3)
  one_stored ForceOpen Nothing beside served p = tended p.1
  one_stored ForceOpen (Refused f) beside served p = open_refused f p
  one_stored FlushStep step beside served p = flush_stored step p
  one_stored CheckpointStep step beside served p = absurd (beside tt)
  one_stored CutTrail (Done Cut) beside served p = tended p.2
  one_stored CutTrail (Refused f) beside served p = tended p.1
  one_stored (Ask ticket) step beside served p = absurd p
  one_stored ForceStage step beside served p = absurd p
  one_stored ForceOpen step beside served p = absurd p
  one_stored CutTrail step beside served p = absurd p

-- ---- any number of moves

pub among_join : (moves later : List CheckpointedMove) → moves_among (moves ++ later) ≡ moves_among moves ++ moves_among later
among_join [] later = refl
among_join (Goes (Manage e works) ∷ moves) later = ap (λ (l : List PlainMove). OfManager e ∷ l) (among_join moves later)
among_join (Goes (Tend works) ∷ moves) later = among_join moves later
among_join (Checkpoints step ∷ moves) later = ap (λ (l : List PlainMove). OfCheckpoint step ∷ l) (among_join moves later)

pub all_join : (g : Geometry) (m : CheckpointedState) (moves : List CheckpointedMove) (mid : CheckpointedState) (made : List Entry) (later : List CheckpointedMove) (last : CheckpointedState) (more : List Entry)
    → CheckpointedMoves g m moves mid made → CheckpointedMoves g mid later last more → CheckpointedMoves g m (moves ++ later) last (made ++ more)
all_join g m [] mid made later last more h k =
    subst (λ x. CheckpointedMoves g x later last (made ++ more)) h.0 (subst (λ es. CheckpointedMoves g mid later last (es ++ more)) (sym h.1) k)
all_join g m (e ∷ moves) mid made later last more h k = (
  h.0,
  h.1 ++ more,
  h.2,
  all_join g h.0 moves mid h.1 later last more h.3 k,
  ap (λ es. es ++ more) h.4 ∙ append_assoc (entries_of_move m e h.0) h.1 more,
)

-- ---- a run

module _ {L V : Type 0} {G : Ghosts L} {H : Ghosts V} (g : Geometry) (ring_bytes : ℕ) (o : Opening) (found : List LogRecord) (label front : List ℕ) where
  -- The world is at the state and the store of a manager under way. The front of its log begins with this label.
  pub record IsUpAt (es : List Entry) (w : World L V G H) (m : CheckpointedState) : Type 0 where
    pub log_front : List ℕ
    pub labelled : take 512 log_front ≡ label
    pub disk : ℕ → List ℕ
    pub at : IsAt w log_front front disk m.state m.store
    pub geometry : geometry_in w ≡ g
    pub long : stream_bytes_in w ≡ ring_bytes
    pub under_way : IsAtCheckpoints g ring_bytes o found es m

  -- what it has come to by these moves
  pub record HasRun (es : List Entry) (m : CheckpointedState) (moves : List PlainMove) (new : World L V G H) : Type 0 where
    pub plain : List CheckpointedMove
    pub last : CheckpointedState
    pub made : List Entry
    pub stored : CheckpointedMoves g m plain last made
    pub same : moves_among plain ≡ moves
    pub up : IsUpAt (es ++ made) new last

  pub up_safe : (es : List Entry) (w : World L V G H) (m : CheckpointedState) → IsUpAt es w m → IsSafe (geometry_in w) m.state
  up_safe es w m up =
      let k = up.under_way.under_way in
      subst (λ (x : Geometry). IsSafe x m.state) (sym up.geometry)
      (record {
        opening = o;
        found = found;
        entries = es;
        after = k.state;
        asks = λ w at there is. k.asks w there at is;
        roomy = k.roomy;
        stream_bytes = m.state.stream_bytes;
        leaves = k.leaves;
        inside = under_way_inside g m.state.stream_bytes o found es (stored_in m) k;
      })

  pub up_may : (es : List Entry) (w : World L V G H) (m : CheckpointedState) → IsUpAt es w m → MayCheckpoint (stream_bytes_in w) m
  up_may es w m up =
      let k = up.under_way in
      subst (λ n. MayCheckpoint n m) (sym up.long) (record { in_order = k.in_order; room = k.room; limit = k.limit; later = k.later })

  still_long : (old new : World L V G H) (log_front : List ℕ) → LeavesAtAnyMoment old new → SurvivesCrashes old log_front → stream_bytes_in new ≡ stream_bytes_in old
  still_long old new log_front moment k = ap (λ (h : DeviceHistory). size h - LOG_FRONT_BYTES) (moment.log log_front k).later.1

  module _ (es : List Entry) (old : World L V G H) (m : CheckpointedState) (up : IsUpAt es old m) where
    one_move : (new : World L V G H) → geometry_in new ≡ geometry_in old → LeavesAtAnyMoment old new → (last : CheckpointedState) (moves : List PlainMove) → StoredAs g m last moves
        → (behind : List ℕ) → take 512 behind ≡ take 512 up.log_front → (left : ℕ → List ℕ) → IsAt new behind front left last.state last.store → HasRun es m moves new
    one_move new geometry moment last moves is behind labelled left at = record {
      plain = is.plain ∷ [];
      last = last;
      made = entries_of_move m is.plain last;
      stored = (last, [], is.steps, (refl, refl), sym (append-nil (entries_of_move m is.plain last)));
      same = is.same;
      up = record {
        log_front = behind;
        labelled = labelled ∙ up.labelled;
        disk = left;
        at = at;
        geometry = geometry ∙ up.geometry;
        long = still_long old new up.log_front moment up.at.log ∙ up.long;
        under_way = step_goes g ring_bytes o found es m up.under_way is.plain last is.steps;
      };
    }

    abbrev one_run : (new : World L V G H) → geometry_in new ≡ geometry_in old → LeavesAtAnyMoment old new → (later : State) (comes : WorldComesTo new up.log_front front m.store later)
        (moves : List PlainMove) → StoredAs g m (record { state = later; store = comes.after }) moves → HasRun es m moves new
    one_run new geometry moment later comes moves is =
        one_move new geometry moment (record { state = later; store = comes.after }) moves is up.log_front refl comes.left comes.at

    like_run : (new : World L V G H) → IsLike old new → HasRun es m [] new
    like_run new like =
        let comes = like.state up.log_front front up.disk m.state m.store up.at (up_safe es old m up) in
        one_run new like.geometry like.any_moment m.state comes [] (tended g m comes.works comes.after comes.work m.state comes.at.over.kept.stored refl)

    failure_run : (new : World L V G H) → HasFailedToRead old new → HasRun es m (OfManager HasFailed ∷ []) new
    failure_run new fails =
        let comes = fails.state up.log_front front up.disk m.state m.store up.at (up_safe es old m up) in
        one_run new fails.geometry fails.any_moment (with_failure m.state) comes (OfManager HasFailed ∷ [])
        (managed_as g m comes.works comes.after comes.work (with_failure m.state) comes.at.over.kept.stored HasFailed refl)

    -- an event leads to a state, in which the world is then
    pub record HasMoved (e : Event) (step : Step) (new : World L V G H) : Type 0 where
      pub later : State
      pub moves : EventStep g m.state e step later
      pub run : HasRun es m (moves_by e step) new
      pub same : run.last.state ≡ later

    by_event : (e : Event) (step : Step) (new : World L V G H) → IsServedEvent e → geometry_in new ≡ geometry_in old → LeavesAtAnyMoment old new
        → Comes old e step new up.log_front front m.state m.store → HasMoved e step new
    unfolding one_move
    by_event e step new served geometry moment come =
        let comes = come.comes in
        let moved = subst (λ (x : Geometry). EventStep x m.state e step come.later) up.geometry come.moves in
        record {
          later = come.later;
          moves = moved;
          run = one_run new geometry moment come.later comes (moves_by e step)
              (one_stored g m comes.works comes.after comes.work come.later comes.at.over.kept.stored e step come.beside served moved);
          same = refl;
        }

    by_checkpoint : (e : Event) (step : Step) (new : World L V G H) → IsOfCheckpoint e → geometry_in new ≡ geometry_in old → LeavesAtAnyMoment old new
        → ComesByCheckpoint old step new up.log_front front m.state m.store → HasMoved e step new
    unfolding one_move
    by_checkpoint e step new is geometry moment come = record {
      later = come.last.state;
      moves = checkpoint_step g m.state e step come.last.state is (moves_state m step come.last come.moves);
      run = one_move new geometry moment come.last (moves_by e step)
          (record { plain = Checkpoints step; steps = come.moves; same = sym (checkpoint_moves e step is) })
          come.front_behind (same_label old step new up.log_front come.front_behind up.at.log.anchored come.is_front) come.left come.at;
      same = refl;
    }

    pub moves_to : (e : Event) (step : Step) (new : World L V G H) → IsServedEvent e → Steps old e step new → HasMoved e step new
    moves_to e step new served one =
        ⊎_elim
        (λ come. by_event e step new served one.moves.geometry one.moves.any_moment come)
        (λ come. by_checkpoint e step new come.0 one.moves.geometry one.moves.any_moment come.1)
        (one.moves.state up.log_front front up.disk m.state m.store up.at (up_safe es old m up) (λ is. up_may es old m up))

    -- a step of a checkpoint leads to a state and a store, in which the world is then
    pub record HasCheckpointed (step : Step) (new : World L V G H) : Type 0 where
      pub last : CheckpointedState
      pub moves : CheckpointMoves m step last
      pub run : HasRun es m (moves_by CheckpointStep step) new
      pub same : run.last ≡ last
      pub none : run.made ≡ []

    pub checkpoints_to : (step : Step) (new : World L V G H) → Steps old CheckpointStep step new → HasCheckpointed step new
    unfolding one_move
    checkpoints_to step new one = ⊎_elim
        (λ come. absurd (come.beside tt))
        (λ come. record {
          last = come.1.last;
          moves = come.1.moves;
          run = one_move new one.moves.geometry one.moves.any_moment come.1.last (moves_by CheckpointStep step) (record { plain = Checkpoints step; steps = come.1.moves; same = refl })
              come.1.front_behind (same_label old step new up.log_front come.1.front_behind up.at.log.anchored come.1.is_front) come.1.left come.1.at;
          same = refl;
          none = refl;
        })
        (one.moves.state up.log_front front up.disk m.state m.store up.at (up_safe es old m up) (λ is. up_may es old m up))

    event_run : (e : Event) (step : Step) (new : World L V G H) → IsServedEvent e → Steps old e step new → HasRun es m (moves_by e step) new
    event_run e step new served one = (moves_to e step new served one).run

  -- what can be seen of the state
  pub seen_of : (es : List Entry) (w : World L V G H) (m : CheckpointedState) → IsUpAt es w m → IsStateOf w m.state
  seen_of es w m up = record {
    requests = ap (λ (t : Table). t.requests) up.at.is_in.beside.parts.stands.locks;
    log = log_of w m.state up.at.is_in.beside;
    durable = up.at.is_in.beside.parts.durable_is;
    failed = up.at.is_in.beside.parts.failed_is;
    dumps = λ store pairs is. is front up.disk m.state m.store up.at.is_in (up_safe es w m up) up.at.over;
  }

  pub run_on : (es : List Entry) (m : CheckpointedState) (moves later : List PlainMove) (mid new : World L V G H) (one : HasRun es m moves mid)
      → HasRun (es ++ one.made) one.last later new → HasRun es m (moves ++ later) new
  run_on es m moves later mid new one two = record {
    plain = one.plain ++ two.plain;
    last = two.last;
    made = one.made ++ two.made;
    stored = all_join g m one.plain one.last one.made two.plain two.last two.made one.stored two.stored;
    same = among_join one.plain two.plain ∙ ap (λ (l : List PlainMove). l ++ moves_among two.plain) one.same ∙ ap (λ (l : List PlainMove). moves ++ l) two.same;
    up = subst (λ (l : List Entry). IsUpAt l new two.last) (append_assoc es one.made two.made) two.up;
  }

  between_run : (es : List Entry) (old : World L V G H) (m : CheckpointedState) → IsUpAt es old m → (failures : List PlainMove) (new : World L V G H) → Between old failures new
      → HasRun es m failures new
  between_run es old m up [] new like = like_run es old m up new like
  between_run es old m up (OfManager HasFailed ∷ failures) new (mid, fails, rest) =
      let one = failure_run es old m up mid fails in
      run_on es m (OfManager HasFailed ∷ []) failures mid new one (between_run (es ++ one.made) mid one.last one.up failures new rest)
  between_run es old m up (OfManager (Called session call step) ∷ failures) new between = absurd between
  between_run es old m up (OfManager (Resumed session step) ∷ failures) new between = absurd between
  between_run es old m up (OfManager (GaveUp session step) ∷ failures) new between = absurd between
  between_run es old m up (OfManager (calls.Forced n) ∷ failures) new between = absurd between
  between_run es old m up (OfManager (calls.TicketAsked ticket answer) ∷ failures) new between = absurd between
  between_run es old m up (OfCheckpoint step ∷ failures) new between = absurd between

  pub run_run : (es : List Entry) (old : World L V G H) (m : CheckpointedState) → IsUpAt es old m → (events : List Event) (steps : List Step) (moves : List PlainMove)
      (new : World L V G H) → AllByRecursion IsServedEvent events → Runs old events steps moves new → HasRun es m moves new
  run_run es old m up [] [] moves new served runs = between_run es old m up moves new runs
  run_run es old m up (e ∷ events) (step ∷ steps) moves new served (start, mid, failures, later, between, made, rest, is) =
      let one = between_run es old m up failures start between in
      let two = event_run (es ++ one.made) start one.last one.up e step mid served.0 made in
      let three = run_run ((es ++ one.made) ++ two.made) mid two.last two.up events steps later new served.1 rest in
      subst (λ (l : List PlainMove). HasRun es m l new) (sym is)
      (run_on es m failures (moves_by e step ++ later) start new one (run_on (es ++ one.made) one.last (moves_by e step) later mid new two three))
  run_run es old m up [] (step ∷ steps) moves new served runs = absurd runs
  run_run es old m up (e ∷ events) [] moves new served runs = absurd runs

  -- ---- room for each force

  pub has_room : (es : List Entry) (w : World L V G H) (m : CheckpointedState) → IsUpAt es w m → cost_of_log (list_in w) + LONGEST_FRAME ≤ stream_bytes_in w
  has_room es w m up =
      let fits = kept_fits g ring_bytes o found es m up.under_way in
      let cut = ap (λ a. a.tail - 1) up.at.anchored in
      let same = ap (λ n. drop n m.state.log) cut ∙ ap (λ n. drop (n - 1) m.state.log) w.log.anchored.0 ∙ (log_of w m.state up.at.is_in.beside).kept in
      let cost = ap cost_of_log same in
      omega (arith, fits, cost, up.long)

  pub run_never_full : (es : List Entry) (old : World L V G H) (m : CheckpointedState) → IsUpAt es old m → (events : List Event) (steps : List Step) (moves : List PlainMove)
      (new : World L V G H) → AllByRecursion IsServedEvent events → Runs old events steps moves new → NoForceIsFull events steps
  run_never_full es old m up [] [] moves new served runs = tt
  run_never_full es old m up (e ∷ events) (step ∷ steps) moves new served (start, mid, failures, later, between, made, rest, is) =
      let one = between_run es old m up failures start between in
      let two = event_run (es ++ one.made) start one.last one.up e step mid served.0 made in (
        λ stage full. made.full stage full (record { log_front = one.up.log_front; kept = one.up.at.log; room = has_room (es ++ one.made) start one.last one.up }),
        run_never_full ((es ++ one.made) ++ two.made) mid two.last two.up events steps later new served.1 rest,
      )
  run_never_full es old m up [] (step ∷ steps) moves new served runs = absurd runs
  run_never_full es old m up (e ∷ events) [] moves new served runs = absurd runs

  -- ---- a crash at any moment

  module _ (es : List Entry) (w : World L V G H) (m : CheckpointedState) (up : IsUpAt es w m) (c d : List ℕ) where
    -- an anchor counts in the image of the log, the old one or that of a move, and from its tail on what is kept behind it is given
    pub record AreLeftOf : Type 0 where
      pub anchor : Anchor
      pub may : MayBeAnchored m.store (anchored_by anchor)
      pub labelled : take 512 c ≡ label
      pub slot : Slot
      pub counts : Counts c slot anchor
      pub gives : GivesKept anchor m.store.store.durable m.store.store.log c
      pub volume : ShowsLeft g front m.store.store d

    abbrev s : State
    s = m.state

    -- the store's log and what is durable in it are the world's
    same_log : m.store.store.log ≡ s.log
    same_log = up.under_way.under_way.stored.log

    durable_is : m.store.store.durable ≡ cut_in w + length (stable w.log)
    durable_is = up.under_way.under_way.stored.durable ∙ up.at.is_in.beside.parts.durable_is ∙ w.durable_agrees

    -- what is kept of a prefix that has at least what is cut off
    kept_of : (n : ℕ) → kept_behind (anchor_in w) (take (cut_in w + n) m.store.store.log) ≡ take n (list_in w)
    kept_of n =
        ap (λ k. drop (k - 1) (take (cut_in w + n) m.store.store.log)) w.log.anchored.0
        ∙ ap (λ (l : List LogRecord). drop (cut_in w) (take (cut_in w + n) l)) same_log
        ∙ drop-take (cut_in w) n s.log ∙ ap (take n) (log_of w s up.at.is_in.beside).kept

    as_listed : (n : ℕ) → length (stable w.log) ≤ n → n ≤ length (list_in w) → (slot : Slot) → Counts c slot (anchor_in w)
        → GivesFrom (anchor_in w).tail (anchor_in w).tail_place (take n (list_in w)) c → take 512 c ≡ label → ShowsLeft (geometry_in w) front m.store.store d → AreLeftOf
    as_listed n least most slot counts gives labelled shows = record {
      anchor = anchor_in w;
      may = inl (sym up.at.anchored);
      labelled = labelled;
      slot = slot;
      counts = counts;
      gives = (
        cut_in w + n,
        omega (arith, durable_is, least),
        omega (arith, most, log_long w s up.at.is_in.beside, ap length same_log),
        subst (λ (l : List LogRecord). GivesFrom (anchor_in w).tail (anchor_in w).tail_place l c) (sym (kept_of n)) gives,
      );
      volume = subst (λ (x : Geometry). ShowsLeft x front m.store.store d) up.geometry shows;
    }

    reaches : (next : Anchor) → IsNextIn w next → ReachesNext w next m
    reaches next is = next_may_be w next is m up.under_way.in_order up.at.stage up.at.anchored (up.under_way.under_way.stored.durable ∙ up.at.is_in.beside.parts.durable_is)

    as_left : IsLeftOfLog w up.log_front c → ShowsLeft (geometry_in w) front m.store.store d → AreLeftOf
    as_left (inl h) shows =
        as_listed h.0 h.1 h.2 w.log.anchors.slot (front_counts w.log.anchors.slot (anchor_in w) c up.log_front h.3.0 up.at.log.anchored.counts) h.3.1
        (front_stays c up.log_front h.3.0 ∙ up.labelled) shows
    as_left (inr (next, is, amid)) shows =
        let labelled = behind_next w next up.log_front c up.at.log.anchored amid ∙ up.labelled in
        ⊎_elim
        (λ old. as_listed (length (stable w.log)) (omega arith) (forced_within w) w.log.anchors.slot old.0
        (subst (λ (l : List LogRecord). GivesFrom (anchor_in w).tail (anchor_in w).tail_place l c) (sym (stable_is w)) old.1) labelled shows)
        (λ new. record {
          anchor = next;
          may = inr (reaches next is).may;
          labelled = labelled;
          slot = _;
          counts = new.0;
          gives = (
            m.store.store.durable,
            omega arith,
            up.under_way.in_order.recoverable.durable,
            subst (λ (l : List LogRecord). GivesFrom next.tail next.tail_place l c)
                (sym (kept_further w s up.at.is_in.beside m.store.store.log same_log m.store.store.durable durable_is next (reaches next is).rises)) new.1,
          );
          volume = subst (λ (x : Geometry). ShowsLeft x front m.store.store d) up.geometry shows;
        })
        amid.gives

    left_amid : (later : World L V G H) → LeavesAtAnyMoment w later → AreLeftBetween w later c d → AreLeftOf
    left_amid later moment left =
        as_left ((moment.log up.log_front up.at.log).each c left.0) ((moment.volume up.log_front front up.disk m.state m.store up.at).each d left.1)

    pub left_of : AreLeft w c d → AreLeftOf
    left_of (inl now) = as_left (up.at.log.images c now.0) (up.at.volume d now.1)
    left_of (inr (inl (e, step, later, steps, left))) = left_amid later steps.moves.any_moment left
    left_of (inr (inr (later, (inl like), left))) = left_amid later like.any_moment left
    left_of (inr (inr (later, (inr fails), left))) = left_amid later fails.any_moment left
