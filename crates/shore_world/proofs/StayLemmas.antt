-- A stay of the power on two devices, from an open to its end, is one over plain data.
use Rattle.std.proofs.Common.{◌≡◌, ℕ, ◌-◌, List, [], ◌∷◌, ◌++◌, refl, sym, ◌∙◌, ap, subst, take, append_assoc, length, arith}
use Rattle.std.proofs.lemmas.List.{take-take}
use Rattle.std.proofs.Math.Logic.{∥∥₁_map, ∥∥₁_map₂, ∥∥₁_elim, ∥∥₁_prop}
use Rattle.std.specs.Prelude.{All}
use Rattle.std.specs.List.{AllByRecursion}
use Rattle.std.proofs.lemmas.List.Elements.{recursion_from_All}
use Rattle.shore_types.specs.declared.faults.Device.TheVariants.{Log}
use Rattle.shore_types.specs.declared.layout.Geometry.{Geometry}
use Rattle.shore_types.specs.declared.layout.TheConstants.{LOG_FRONT_BYTES}
use Rattle.shore_types.specs.Versions.{least_log-least, slot_limit}
use Rattle.shore_disk.specs.Device.{DeviceHistory, seen, size}
use Rattle.shore_disk.specs.declared.device.Disk.{Ghosts}
use Rattle.shore_dwrite.specs.declared.places.TheConstants.{GATE_AT}
use Rattle.shore_fronts.specs.Fronts.{log_label}
use Rattle.shore_gate.specs.Label.{HoldsLabel}
use Rattle.shore_gate.specs.declared.anchors.Anchor.{Anchor}
use Rattle.shore_model.specs.declared.histories.Opening.{Opening}
use Rattle.shore_model.specs.declared.log_records.LogRecord.{LogRecord}
use Rattle.laws_lives.specs.Pages.{LoggedPages}
use Rattle.laws_lives.specs.Views.{IsAmong}
use Rattle.laws_lives.specs.Doubts.{IsOpeningOf}
use Rattle.laws_lives.specs.Recovery.{RecoveryState}
use Rattle.laws_lives.specs.Undo.{HasNoLosers}
use Rattle.laws_checkpoints.specs.Checkpoints.{cut_of}
use Rattle.laws_checkpoints.specs.CheckpointedStores.{CheckpointedStore}
use Rattle.laws_runs.specs.CheckpointSteps.{CheckpointedMove, CheckpointedMoves, CheckpointedState, Checkpoints, Goes, entries_of_move, log_limit}
use Rattle.laws_runs.specs.CheckpointedStates.{IsAtCheckpoints, IsOpenedBehind, found_behind}
use Rattle.laws_runs.specs.CheckpointedStays.{CheckpointedRun, IsCheckpointedUp, left_by_up}
use Rattle.laws_runs.specs.StoredRuns.{IsOpenedOver}
use Rattle.laws_runs.proofs.OpenedBehind.{open_goes, restarted}
use Rattle.laws_runs.proofs.PlainWorks.{HasRestarted}
use Rattle.laws_images.proofs.LeftBehind.{StandBehind, stand_behind}
use Rattle.laws_images.specs.Moments.{Moment}
use Rattle.laws_images.specs.MomentsBehind.{PathBehind, begun_behind}
use Rattle.laws_images.specs.StandsBehind.{HasAnchor, StandsForBehind, anchored_by}
use Rattle.shore_world.specs.declared.event.Event.{Event}
use Rattle.shore_world.specs.declared.world.World.{World}
use Rattle.shore_world.specs.Crashes.{AreLeft}
use Rattle.shore_world.specs.Events.{IsServedEvent}
use Rattle.shore_world.specs.Exchanges.{AreLast, told_in}
use Rattle.shore_world.specs.EventMoves.{OfCheckpoint, OfManager, moves_among}
use Rattle.shore_world.specs.Worlds.{geometry_in, history_in}
use Rattle.laws_threads.proofs.Pairs.{whole_pair}
use Rattle.laws_threads.specs.Amid.{IsAlike, IsLeftThen, IsMoment, entries_of_asks, told_and_asked}
use Rattle.laws_calls.specs.Events.{ManagerEvent}
use Rattle.shore_model.specs.declared.histories.Entry.{Entry}
use Rattle.shore_model.specs.declared.step.Step.{Step}
use Rattle.laws_runs.proofs.Checkpointing.{moves_go}
use Rattle.laws_runs.specs.StoredRuns.{Manage, Tend}
use Rattle.shore_world.specs.Labels.{IsLogFront, IsVolumeFront}
use Rattle.shore_world.specs.Legs.{NoForceIsFullIn, moves_of_legs}
use Rattle.shore_world.specs.Managers.{AreLeftInThreads, IsInThreads, IsManager, IsRunOf, IsThreadedRunOf, LeadsToMoment, Manager, Threads}
use Rattle.shore_world.specs.Opens.{HasOpened, IsOpenedAt}
use Rattle.shore_world.proofs.ExchangeLemmas.{HasTold, have_told}
use Rattle.shore_world.proofs.LabelLemmas.{found_log_front, found_volume_front}
use Rattle.shore_world.proofs.LegLemmas.{legs_never_full, legs_run, legs_told, up_in}
use Rattle.shore_world.proofs.LogOpenings.{logged_opening, opening_logged}
use Rattle.shore_world.proofs.StoredLemmas.{AreLeftOf, HasRun, IsUpAt, all_join, among_join, left_of}

pub all_served : (events : List Event) → All IsServedEvent events → AllByRecursion IsServedEvent events
all_served events served = recursion_from_All IsServedEvent events served

-- ---- alike moves

-- the same move, with other work
alike_among : (e other : CheckpointedMove) → IsAlike e other → moves_among (other ∷ []) ≡ moves_among (e ∷ [])
alike_among (Goes (Manage e works)) (Goes (Manage f others)) is = ap (λ (x : ManagerEvent). OfManager x ∷ []) is
alike_among (Goes (Tend works)) (Goes (Tend others)) is = refl
alike_among (Checkpoints step) (Checkpoints other) is = ap (λ (x : Step). OfCheckpoint x ∷ []) is
alike_among (Goes (Manage e works)) (Goes (Tend others)) is = absurd is
alike_among (Goes (Manage e works)) (Checkpoints other) is = absurd is
alike_among (Goes (Tend works)) (Goes (Manage f others)) is = absurd is
alike_among (Goes (Tend works)) (Checkpoints other) is = absurd is
alike_among (Checkpoints step) (Goes e) is = absurd is

-- what is read of devices of these lengths stands for what it stands for of devices of their own
pub at_its_lengths : (g : Geometry) (log_bytes volume_bytes : ℕ) (log volume : DeviceHistory) → (size log ≡ log_bytes) × (size volume ≡ volume_bytes) → (anchor : Anchor) (rs : List LogRecord)
    (pages : LoggedPages) (c d : List ℕ) → StandsForBehind g log_bytes volume_bytes anchor rs pages c d → StandsForBehind g (size log) (size volume) anchor rs pages c d
at_its_lengths g log_bytes volume_bytes log volume lengths anchor rs pages c d stood =
    subst (λ n. StandsForBehind g n (size volume) anchor rs pages c d) (sym lengths.0) (subst (λ n. StandsForBehind g log_bytes n anchor rs pages c d) (sym lengths.1) stood)

-- no device grows on the way of an open
path_long : (g : Geometry) (log_front front : List ℕ) (anchor : Anchor) (first : Moment) (moments : List Moment) (last : Moment) → PathBehind g log_front front anchor first moments last
    → (size last.log ≡ size first.log) × (size last.volume ≡ size first.volume)
path_long g log_front front anchor first [] last path = (ap (λ (m : Moment). size m.log) path.0, ap (λ (m : Moment). size m.volume) path.0)
path_long g log_front front anchor first (next ∷ later) last path =
    let rest = path_long g log_front front anchor next later last path.1 in
    (rest.0 ∙ ap size path.0.log.later.1, rest.1 ∙ ap size path.0.volume.later.1)

-- the labels at the fronts of what is read
module _ (g : Geometry) (log_bytes volume_bytes : ℕ) (anchor : Anchor) (rs : List LogRecord) (pages : LoggedPages) (log volume : DeviceHistory) (lengths : (size log ≡ log_bytes) × (size volume ≡ volume_bytes))
    (stood : StandsForBehind g log_bytes volume_bytes anchor rs pages (seen log) (seen volume)) where
  at_own : StandsForBehind g (size log) (size volume) anchor rs pages (seen log) (seen volume)
  at_own = at_its_lengths g log_bytes volume_bytes log volume lengths anchor rs pages (seen log) (seen volume) stood

  log_front_at : IsLogFront g log_bytes (take LOG_FRONT_BYTES (seen log))
  log_front_at = subst (λ n. IsLogFront g n (take LOG_FRONT_BYTES (seen log))) lengths.0 (found_log_front g anchor rs pages log volume at_own)

  volume_front_at : IsVolumeFront g (take GATE_AT (seen volume))
  volume_front_at = found_volume_front g anchor rs pages log volume at_own

module _ {L V : Type 0} {G : Ghosts L} {H : Ghosts V} (g : Geometry) (log_bytes volume_bytes : ℕ) where
  -- ---- a world that was opened

  module _ (anchor : Anchor) (rs : List LogRecord) (pages : LoggedPages) (log volume : DeviceHistory) (lengths : (size log ≡ log_bytes) × (size volume ≡ volume_bytes))
      (stood : StandsForBehind g log_bytes volume_bytes anchor rs pages (seen log) (seen volume)) (w : World L V G H) (opens : HasOpened w g anchor log volume rs pages) where
    abbrev pub log_front : List ℕ
    log_front = take LOG_FRONT_BYTES (seen log)

    abbrev pub front : List ℕ
    front = take GATE_AT (seen volume)

    abbrev last : Moment
    last = opens.way.last

    abbrev start : Moment
    start = begun_behind opens.way.log_behind opens.way.volume_behind anchor rs pages

    abbrev opened : IsOpenedAt w g anchor log_front front rs pages last
    opened = opens.opened

    abbrev ready : CheckpointedStore
    ready = opens.opened.ready

    long : size opens.way.log_behind ≡ log_bytes
    long = ap size opens.way.barriers.0.leaves.later.1 ∙ lengths.0

    as_long : size last.log - LOG_FRONT_BYTES ≡ log_bytes - LOG_FRONT_BYTES
    as_long = ap (λ n. n - LOG_FRONT_BYTES) ((path_long g log_front front anchor start opens.way.moments last opens.way.path).0 ∙ long)

    abbrev pub first : CheckpointedState
    first = record { state = opened.first; store = ready }

    pub redone : ready.store.redone ≡ length ready.store.log
    redone = subst (λ (s : RecoveryState). s.redone ≡ length s.log) (sym opened.store) opened.redone

    pub no_losers : HasNoLosers ready.store.log
    no_losers = subst (λ (s : RecoveryState). HasNoLosers s.log) (sym opened.store) opened.no_losers

    pub over_ready : (o : Opening) → IsOpeningOf rs o → o.slots ≡ slot_limit g.version → IsOpenedOver o ready.store opened.first
    over_ready o opening sized = subst (λ (s : RecoveryState). IsOpenedOver o s opened.first) (sym opened.store) (opened.over o opening sized)

    pub from : IsOpenedBehind g (log_limit (log_bytes - LOG_FRONT_BYTES) (cut_of (anchored_by anchor)) ready.store.log) (anchored_by anchor) ready.store.log opened.first
    from =
        subst (λ (s : RecoveryState). IsOpenedBehind g (log_limit (log_bytes - LOG_FRONT_BYTES) (cut_of (anchored_by anchor)) s.log) (anchored_by anchor) s.log opened.first) (sym opened.store)
        (subst (λ n. IsOpenedBehind g (log_limit n (cut_of (anchored_by anchor)) last.store.log) (anchored_by anchor) last.store.log opened.first) as_long opened.from)

    pub came : HasRestarted (found_behind (anchored_by anchor) rs pages) opened.works ready
    came = restarted g (log_bytes - LOG_FRONT_BYTES) (anchored_by anchor) rs pages stood.opened opened.works ready opened.restarts

    pub up_at : (o : Opening) → IsOpeningOf rs o → o.slots ≡ slot_limit g.version → IsUpAt g (log_bytes - LOG_FRONT_BYTES) o rs (take 512 log_front) front [] w first
    up_at o opening sized = record {
      log_front = log_front;
      labelled = refl;
      disk = opened.disk;
      at = opened.at;
      geometry = opened.geometry;
      long = ap (λ (h : DeviceHistory). size h - LOG_FRONT_BYTES) opened.histories.0 ∙ as_long;
      under_way = open_goes g (log_bytes - LOG_FRONT_BYTES) (anchored_by anchor) rs pages stood.opened opened.works ready opened.restarts o opening opened.first redone no_losers
          (over_ready o opening sized) from;
    }

  -- no call waits in a world that was opened
  pub none_waiting : {w : World L V G H} {anchor : Anchor} {log volume : DeviceHistory} {rs : List LogRecord} {pages : LoggedPages} (opens : HasOpened w g anchor log volume rs pages) → AreLast [] opens.opened.first
  none_waiting {rs = rs} opens w there = absurd (subst (IsAmong w) (opens.opened.over (logged_opening (slot_limit g.version) rs) (opening_logged (slot_limit g.version) rs) refl).waiting there)

  -- ---- one manager

  -- its run over plain data, and what it leaves
  pub record HasStayed (o : Opening) (anchor : Anchor) (rs : List LogRecord) (pages : LoggedPages) (m : Manager L V G H) (log_left volume_left : List ℕ) : Type 0 where
    pub run : CheckpointedRun
    pub of : IsRunOf m run
    pub up : IsCheckpointedUp g (log_bytes - LOG_FRONT_BYTES) o (anchored_by anchor) rs pages run
    pub behind : Anchor
    pub same : run.anchor ≡ anchored_by behind
    pub stands : StandsForBehind g log_bytes volume_bytes behind (left_by_up run) run.pages log_left volume_left
    pub never_full : NoForceIsFullIn m.legs

  module _ (o : Opening) (anchor : Anchor) (rs : List LogRecord) (pages : LoggedPages) (m : Manager L V G H) (opening : IsOpeningOf rs o) (sized : o.slots ≡ slot_limit g.version)
      (lengths : (size m.log ≡ log_bytes) × (size m.volume ≡ volume_bytes)) (stood : StandsForBehind g log_bytes volume_bytes anchor rs pages (seen m.log) (seen m.volume))
      (is : IsManager m) where
    pub opens : HasOpened m.opened g anchor m.log m.volume rs pages
    opens = is.opens g anchor rs pages (at_its_lengths g log_bytes volume_bytes m.log m.volume lengths anchor rs pages (seen m.log) (seen m.volume) stood)

    abbrev m_label : List ℕ
    m_label = take 512 (log_front anchor rs pages m.log m.volume lengths stood m.opened opens)

    abbrev m_volume_front : List ℕ
    m_volume_front = front anchor rs pages m.log m.volume lengths stood m.opened opens

    abbrev m_first : CheckpointedState
    m_first = first anchor rs pages m.log m.volume lengths stood m.opened opens

    m_up : IsUpAt g (log_bytes - LOG_FRONT_BYTES) o rs m_label m_volume_front [] m.opened m_first
    m_up = up_at anchor rs pages m.log m.volume lengths stood m.opened opens o opening sized

    m_log_front : IsLogFront g log_bytes (log_front anchor rs pages m.log m.volume lengths stood m.opened opens)
    m_log_front = log_front_at g log_bytes volume_bytes anchor rs pages m.log m.volume lengths stood

    m_volume_labelled : IsVolumeFront g m_volume_front
    m_volume_labelled = volume_front_at g log_bytes volume_bytes anchor rs pages m.log m.volume lengths stood

    abbrev pub Ran : Type 0
    Ran = HasRun g (log_bytes - LOG_FRONT_BYTES) o rs m_label m_volume_front [] m_first (moves_of_legs m.legs) m.ended

    -- its legs are a run, of which no force is refused for room
    pub have_run : ∥ Ran × NoForceIsFullIn m.legs ∥₁
    have_run =
        ∥∥₁_map₂ (legs_run g log_bytes o rs (log_front anchor rs pages m.log m.volume lengths stood m.opened opens) m_volume_front m_log_front m_volume_labelled [] m.opened m_first m_up m.legs m.ended is.legs)
        (legs_never_full g log_bytes o rs (log_front anchor rs pages m.log m.volume lengths stood m.opened opens) m_volume_front m_log_front m_volume_labelled [] m.opened m_first m_up m.legs m.ended is.legs) (λ run full. (run, full))

    module _ (ran : Ran) (full : NoForceIsFullIn m.legs) (log_left volume_left : List ℕ) (crash : AreLeft m.ended log_left volume_left) where
      ran_told : HasTold [] (moves_among ran.plain) ran.last.state ran.made
      ran_told = have_told g (log_bytes - LOG_FRONT_BYTES) o rs [] [] m_first m_up.under_way (none_waiting opens) ran.plain ran.last ran.made ran.stored

      is_left : AreLeftOf g (log_bytes - LOG_FRONT_BYTES) o rs m_label m_volume_front ran.made m.ended ran.last ran.up log_left volume_left
      is_left = left_of g (log_bytes - LOG_FRONT_BYTES) o rs m_label m_volume_front ran.made m.ended ran.last ran.up log_left volume_left crash

      fronted : HasAnchor g log_bytes is_left.anchor log_left
      fronted = record {
        label = subst (λ (l : List ℕ). HoldsLabel Log log_bytes l (log_label g log_bytes)) (sym (is_left.labelled ∙ take-take 512 4096 (seen m.log) (omega arith))) stood.front.label;
        slot = is_left.slot;
        counts = is_left.counts;
        long = stood.front.long;
      }

      lost : StandBehind g log_bytes volume_bytes o rs ran.made ran.last ran.up.under_way (seen m.volume) stood.volume.label is_left.anchor log_left volume_left
      lost =
          stand_behind g log_bytes volume_bytes o rs ran.made ran.last ran.up.under_way (seen m.volume) stood.volume.label is_left.anchor is_left.may log_left volume_left fronted is_left.gives is_left.volume

      pub has_stayed : HasStayed o anchor rs pages m log_left volume_left
      has_stayed = record {
        run = record {
          restart = opens.opened.works;
          ready = opens.opened.ready;
          first = opens.opened.first;
          events = ran.plain;
          last = ran.last;
          made = ran.made;
          survive = lost.survive;
          pages = lost.pages;
          anchor = anchored_by is_left.anchor;
        };
        of = record {
          log_front = log_front anchor rs pages m.log m.volume lengths stood m.opened opens;
          last_front = ran.up.log_front;
          front = m_volume_front;
          first_disk = opens.opened.disk;
          last_disk = ran.up.disk;
          opened = opens.opened.at;
          moves = ran.same;
          told = ran_told.told ∙ ap (told_in []) ran.same ∙ legs_told [] m.opened m.legs m.ended is.legs;
          ended = ran.up.at;
        };
        up = record {
          restarts = opens.opened.restarts;
          redone = redone anchor rs pages m.log m.volume lengths stood m.opened opens;
          no_losers = no_losers anchor rs pages m.log m.volume lengths stood m.opened opens;
          opens = over_ready anchor rs pages m.log m.volume lengths stood m.opened opens o opening sized;
          from = from anchor rs pages m.log m.volume lengths stood m.opened opens;
          moves = ran.stored;
          lost = lost.lost;
          anchored = is_left.may;
        };
        behind = is_left.anchor;
        same = refl;
        stands = lost.stands;
        never_full = full;
      }

    pub stayed : (log_left volume_left : List ℕ) → AreLeft m.ended log_left volume_left → ∥ HasStayed o anchor rs pages m log_left volume_left ∥₁
    stayed log_left volume_left crash = ∥∥₁_map have_run (λ both. has_stayed both.0 both.1 log_left volume_left crash)

  -- ---- one that lost power in threads

  pub record HasStayedInThreads (o : Opening) (anchor : Anchor) (rs : List LogRecord) (pages : LoggedPages) (t : Threads L V G H) (log_left volume_left : List ℕ) : Type 0 where
    pub run : CheckpointedRun
    pub of : IsThreadedRunOf t run
    pub up : IsCheckpointedUp g (log_bytes - LOG_FRONT_BYTES) o (anchored_by anchor) rs pages run
    pub behind : Anchor
    pub same : run.anchor ≡ anchored_by behind
    pub stands : StandsForBehind g log_bytes volume_bytes behind (left_by_up run) run.pages log_left volume_left

  module _ (o : Opening) (anchor : Anchor) (rs : List LogRecord) (pages : LoggedPages) (t : Threads L V G H) (opening : IsOpeningOf rs o) (sized : o.slots ≡ slot_limit g.version)
      (lengths : (size t.log ≡ log_bytes) × (size t.volume ≡ volume_bytes)) (stood : StandsForBehind g log_bytes volume_bytes anchor rs pages (seen t.log) (seen t.volume))
      (is : IsInThreads t) where
    pub t_opens : HasOpened t.opened g anchor t.log t.volume rs pages
    t_opens = is.opens g anchor rs pages (at_its_lengths g log_bytes volume_bytes t.log t.volume lengths anchor rs pages (seen t.log) (seen t.volume) stood)

    abbrev t_label : List ℕ
    t_label = take 512 (log_front anchor rs pages t.log t.volume lengths stood t.opened t_opens)

    abbrev t_front : List ℕ
    t_front = front anchor rs pages t.log t.volume lengths stood t.opened t_opens

    abbrev t_first : CheckpointedState
    t_first = first anchor rs pages t.log t.volume lengths stood t.opened t_opens

    t_up : IsUpAt g (log_bytes - LOG_FRONT_BYTES) o rs t_label t_front [] t.opened t_first
    t_up = up_at anchor rs pages t.log t.volume lengths stood t.opened t_opens o opening sized

    abbrev pub RanToThreads : Type 0
    RanToThreads = HasRun g (log_bytes - LOG_FRONT_BYTES) o rs t_label t_front [] t_first (moves_of_legs t.legs) t.handed

    abbrev t_log_front : List ℕ
    t_log_front = log_front anchor rs pages t.log t.volume lengths stood t.opened t_opens

    t_labelled : IsLogFront g log_bytes t_log_front
    t_labelled = log_front_at g log_bytes volume_bytes anchor rs pages t.log t.volume lengths stood

    t_volume_labelled : IsVolumeFront g t_front
    t_volume_labelled = volume_front_at g log_bytes volume_bytes anchor rs pages t.log t.volume lengths stood

    have_run_to_threads : ∥ RanToThreads ∥₁
    have_run_to_threads = legs_run g log_bytes o rs t_log_front t_front t_labelled t_volume_labelled [] t.opened t_first t_up t.legs t.handed is.legs

    -- from the state at which the world was handed over
    leads : (t_ran : RanToThreads) → ∥ LeadsToMoment t t_front t_ran.last ∥₁
    leads t_ran =
        is.each o rs t_ran.made (up_in g log_bytes o rs t_log_front t_front t_labelled t_volume_labelled t_ran.made t.handed t_ran.last t_ran.up)

    module _ (t_ran : RanToThreads) (led : LeadsToMoment t t_front t_ran.last) (log_left volume_left : List ℕ) (crash : AreLeftInThreads t log_left volume_left) where
      abbrev amid_anchor : Anchor
      amid_anchor = (led.left log_left volume_left crash).0

      amid_moment : IsMoment g led.ready led.under_way led.new amid_anchor t.stable t.seen
      amid_moment = subst (λ (x : Geometry). IsMoment x led.ready led.under_way led.new amid_anchor t.stable t.seen) t_ran.up.geometry (led.left log_left volume_left crash).1

      log_long : size (history_in t.handed) ≡ log_bytes
      log_long =
          let here = (led.left log_left volume_left crash).2.has.long.0 in
          let there = stood.front.long.0 in
          omega (arith, t_ran.up.long, here, there, least_log-least (geometry_in t.handed).version, least_log-least g.version)

      amid_left : IsLeftThen g log_bytes t_front led.ready led.new amid_anchor t.stable log_left volume_left
      amid_left = subst (λ (x : Geometry × ℕ). IsLeftThen x.0 x.1 t_front led.ready led.new amid_anchor t.stable log_left volume_left) (λ i. (t_ran.up.geometry i, log_long i))
          (led.left log_left volume_left crash).2

      lead : CheckpointedMoves g t_ran.last led.plain led.ready led.made
      lead = subst (λ (x : Geometry). CheckpointedMoves x t_ran.last led.plain led.ready led.made) t_ran.up.geometry led.lead

      so_far : CheckpointedMoves g t_first (t_ran.plain ++ led.plain) led.ready (t_ran.made ++ led.made)
      so_far = all_join g t_first t_ran.plain t_ran.last t_ran.made led.plain led.ready led.made t_ran.stored lead

      ready_goes : IsAtCheckpoints g (log_bytes - LOG_FRONT_BYTES) o rs (t_ran.made ++ led.made) led.ready
      ready_goes = moves_go g (log_bytes - LOG_FRONT_BYTES) o rs [] t_first t_up.under_way (t_ran.plain ++ led.plain) led.ready (t_ran.made ++ led.made) so_far

      abbrev amid_made : List Entry
      amid_made = entries_of_move led.ready led.under_way led.new ++ entries_of_asks t.seen

      pub has_stayed_in_threads : HasStayedInThreads o anchor rs pages t log_left volume_left
      has_stayed_in_threads =
          let pair =
          whole_pair g log_bytes volume_bytes o rs (t_ran.made ++ led.made) led.ready ready_goes led.under_way led.new amid_anchor t.stable t.seen amid_moment (seen t.volume) stood.volume.label
          log_left volume_left amid_left in
          record {
            run = record {
              restart = t_opens.opened.works;
              ready = t_opens.opened.ready;
              first = t_opens.opened.first;
              events = (t_ran.plain ++ led.plain) ++ pair.0;
              last = pair.1;
              made = (t_ran.made ++ led.made) ++ amid_made;
              survive = pair.4.0;
              pages = pair.4.1;
              anchor = anchored_by amid_anchor;
            };
            of = record {
              log_front = log_front anchor rs pages t.log t.volume lengths stood t.opened t_opens;
              front = t_front;
              first_disk = t_opens.opened.disk;
              opened = t_opens.opened.at;
              moves =
                  among_join (t_ran.plain ++ led.plain) pair.0
                  ∙ (λ i. (among_join t_ran.plain led.plain ∙ (λ j. t_ran.same j ++ led.are j)) i
                  ++ (ap moves_among pair.2.are ∙ among_join (pair.2.other ∷ []) (told_and_asked t.stable t.seen)
                  ∙ ap (λ l. l ++ moves_among (told_and_asked t.stable t.seen)) (alike_among led.under_way pair.2.other pair.2.alike ∙ led.is)) i);
              before = (t_ran.made ++ led.made) ++ entries_of_move led.ready led.under_way led.new;
              asked = sym (append_assoc (t_ran.made ++ led.made) (entries_of_move led.ready led.under_way led.new) (entries_of_asks t.seen));
            };
            up = record {
              restarts = t_opens.opened.restarts;
              redone = redone anchor rs pages t.log t.volume lengths stood t.opened t_opens;
              no_losers = no_losers anchor rs pages t.log t.volume lengths stood t.opened t_opens;
              opens = over_ready anchor rs pages t.log t.volume lengths stood t.opened t_opens o opening sized;
              from = from anchor rs pages t.log t.volume lengths stood t.opened t_opens;
              moves = all_join g t_first (t_ran.plain ++ led.plain) led.ready (t_ran.made ++ led.made) pair.0 pair.1 amid_made so_far pair.2.lead;
              lost = pair.4.3;
              anchored = pair.3;
            };
            behind = amid_anchor;
            same = refl;
            stands = pair.4.4;
          }

    pub stayed_in_threads : (log_left volume_left : List ℕ) → AreLeftInThreads t log_left volume_left → ∥ HasStayedInThreads o anchor rs pages t log_left volume_left ∥₁
    stayed_in_threads log_left volume_left crash =
        ∥∥₁_elim have_run_to_threads ∥∥₁_prop (λ t_ran. ∥∥₁_map (leads t_ran) (λ led. has_stayed_in_threads t_ran led log_left volume_left crash))
