-- A cycle that a run tells stood in the midst of one of its events.
use Rattle.std.proofs.Common.{◌≡◌, ◌⊎◌, inl, inr, ⊎_elim, ℕ, List, [], ◌∷◌, ◌++◌, Some, refl, sym, ap, subst, ◌∙◌, append_assoc}
use Rattle.std.specs.List.{AllByRecursion}
use Rattle.shore_types.specs.declared.faults.Fault.{Fault}
use Rattle.shore_types.specs.declared.faults.Fault.TheVariants.{Deadlock}
use Rattle.shore_types.specs.declared.layout.Geometry.{Geometry}
use Rattle.shore_disk.specs.declared.device.Disk.{Ghosts}
use Rattle.shore_model.specs.declared.calls.Answer.TheVariants.{Cut, Forced, IsDurable, Staged}
use Rattle.shore_model.specs.declared.histories.Entry.{Entry}
use Rattle.shore_model.specs.declared.histories.Opening.{Opening}
use Rattle.shore_model.specs.declared.log_records.LogRecord.{LogRecord}
use Rattle.shore_model.specs.declared.step.Step.{Step}
use Rattle.shore_model.specs.declared.step.Step.TheVariants.{Done, Nothing, Refused, Waits}
use Rattle.laws_lives.specs.Views.{IsAmong}
use Rattle.laws_calls.proofs.OwnCycles.{resume_told_first}
use Rattle.laws_calls.proofs.SettledRefusals.{settled_resume_deadlock}
use Rattle.laws_calls.proofs.ToldLater.{told_among}
use Rattle.laws_calls.specs.Events as calls
use Rattle.laws_calls.specs.Events.{Called, EventMoves, GaveUp, IsStateAfter, ManagerEvent, Resumed}
use Rattle.laws_calls.specs.Midway.{IsItsCycle}
use Rattle.laws_calls.specs.States.{State, Waiting}
use Rattle.laws_calls.specs.StoodCycles.{IsWithin, StoodAmong}
use Rattle.shore_core.specs.Flushing.{FlushMoves}
use Rattle.shore_world.specs.declared.event.Event.{Event}
use Rattle.shore_world.specs.declared.event.Event.TheVariants as event
use Rattle.shore_world.specs.declared.world.World.{World}
use Rattle.shore_world.proofs.CheckpointLemmas.{waits_kept}
use Rattle.shore_world.specs.EventMoves.{OfManager, PlainMove, moves_by}
use Rattle.shore_world.specs.Events.{IsServedEvent}
use Rattle.shore_world.specs.Exchanges.{tellings_in, tellings_of, told_by, waited_after, waited_behind}
use Rattle.shore_world.specs.Promises.{HasStood, IsManagerOf, IsToldByItsFirst}
use Rattle.shore_world.specs.Worlds.{Between, EventStep, ForceRefused, OpenRefused, Runs, Steps, geometry_in}
use Rattle.shore_world.proofs.ExchangeLemmas.{Told, Waited, exchanges-append}
use Rattle.shore_world.proofs.PromiseLemmas.{after, between_on, stepped}
use Rattle.shore_world.proofs.RunLemmas.{no_event, one_more}

-- ---- one event

module _ (g : Geometry) (o : Opening) (found : List LogRecord) (es : List Entry) (s new : State) (k : IsStateAfter o found es s) where
  -- the cycle stood in the midst of the event, as a move of the manager over plain data
  record StoodIn (moves : List PlainMove) (session : ℕ) (cycle : List ℕ) : Type 0 where
    move : ManagerEvent
    is_move : moves ≡ OfManager move ∷ []
    mid : State
    within : IsWithin g s move new mid
    stood : IsItsCycle mid session cycle

  -- who is to be told a cycle was to be told it before, or it stood in the midst
  abbrev ToldBefore : List PlainMove → Type 0
  ToldBefore moves = (x : Waiting) → IsAmong x new.waiting → (cycle : List ℕ) → x.cycle ≡ Some cycle → IsAmong x s.waiting ⊎ StoodIn moves x.session cycle

  by_move : (move : ManagerEvent) → EventMoves g s move new → ToldBefore (OfManager move ∷ [])
  by_move move moves x there cycle is = ⊎_elim (λ before. inl before) (λ stood. inr (read stood)) (told_among g o found es s k (move ∷ []) new (new, moves, refl) x there cycle is)
    where
      read : StoodAmong g s (move ∷ []) new x.session cycle → StoodIn (OfManager move ∷ []) x.session cycle
      read (later, made, same, (inl h)) =
          record { move = move; is_move = refl; mid = h.0; within = subst (λ (n : State). IsWithin g s move n h.0) (sym same) h.1; stood = h.2 }
      read (later, made, same, (inr none)) = absurd none

  same_waits : (moves : List PlainMove) → new.waiting ≡ s.waiting → ToldBefore moves
  same_waits moves same x there cycle is = inl (subst (IsAmong x) same there)

  refused_waits : (moves : List PlainMove) (f : Fault) → ForceRefused s f new → ToldBefore moves
  refused_waits moves f (inl h) = same_waits moves (ap (λ (y : State). y.waiting) h.2)
  refused_waits moves f (inr (inl h)) = same_waits moves (ap (λ (y : State). y.waiting) h.2)
  refused_waits moves f (inr (inr h)) = same_waits moves (ap (λ (y : State). y.waiting) h.2)

  open_refused_waits : (moves : List PlainMove) (f : Fault) → OpenRefused s f new → ToldBefore moves
  open_refused_waits moves f (inl h) = same_waits moves (ap (λ (y : State). y.waiting) h.2)
  open_refused_waits moves f (inr h) = same_waits moves (ap (λ (y : State). y.waiting) h.2)

  flush_waits : (moves : List PlainMove) (step : Step) → FlushMoves s step new → ToldBefore moves
  flush_waits moves (Done answer) h = same_waits moves (ap (λ (y : State). y.waiting) h.2)
  flush_waits moves (Waits wait) h = absurd h
  flush_waits moves (Refused f) (inl h) = same_waits moves (ap (λ (y : State). y.waiting) h.2)
  flush_waits moves (Refused f) (inr (running, device, is)) = same_waits moves (ap (λ (y : State). y.waiting) is)
  flush_waits moves Nothing h = same_waits moves (ap (λ (y : State). y.waiting) h.1)

  event_told : (e : Event) (step : Step) → IsServedEvent e → EventStep g s e step new → ToldBefore (moves_by e step)
  event_told (event.Call session c) step served h = by_move (Called session c step) (served, h)
  event_told (event.Resume session) step served h = by_move (Resumed session step) h
  event_told (event.GiveUp session) step served h = by_move (GaveUp session step) h
  event_told (event.Ask ticket) (Done (IsDurable answer)) served h = same_waits (OfManager (calls.TicketAsked ticket answer) ∷ []) (ap (λ (y : State). y.waiting) h.1)
  event_told event.ForceStage (Done (Staged n)) served h = same_waits [] (ap (λ (y : State). y.waiting) h.3)
  event_told event.ForceStage Nothing served h = same_waits [] (ap (λ (y : State). y.waiting) h.1)
  event_told event.ForceStage (Refused f) served h = refused_waits (moves_by event.ForceStage (Refused f)) f h
  event_told event.ForceOpen (Done (Forced n)) served h = same_waits (OfManager (calls.Forced n) ∷ []) (ap (λ (y : State). y.waiting) h.3)
  event_told event.ForceOpen Nothing served h = same_waits [] (ap (λ (y : State). y.waiting) h.1)
  event_told event.ForceOpen (Refused f) served h = open_refused_waits (moves_by event.ForceOpen (Refused f)) f h
  event_told event.FlushStep step served h = flush_waits (moves_by event.FlushStep step) step h
  event_told event.CheckpointStep step served h = same_waits (moves_by event.CheckpointStep step) (waits_kept s step new h)
  event_told event.CutTrail (Done Cut) served h = same_waits [] (ap (λ (y : State). y.waiting) h.2)
  event_told event.CutTrail (Refused f) served h = same_waits [] (ap (λ (y : State). y.waiting) h.1)
  event_told (event.Ask ticket) step served h = absurd h
  event_told event.ForceStage step served h = absurd h
  event_told event.ForceOpen step served h = absurd h
  event_told event.CutTrail step served h = absurd h

-- ---- a run

module _ {L V : Type 0} {G : Ghosts L} {H : Ghosts V} where
  module _ (o : Opening) where
    -- what a run from a manager has come to: whoever is to be told a cycle was to be told it at first, or it stood on the way
    record HasRunTelling (w : World L V G H) (es : List Entry) (ws : Waited) (k : IsManagerOf w o es ws) (events : List Event) (steps : List Step) (last : World L V G H) : Type 0 where
      made : List Entry
      entries : List Entry
      goes_on : entries ≡ es ++ made
      tells : tellings_in made ≡ tellings_of ws events steps
      manager : IsManagerOf last o entries (waited_after ws events steps)
      told : (x : Waiting) → IsAmong x manager.now.state.waiting → (cycle : List ℕ) → x.cycle ≡ Some cycle
          → IsAmong x k.now.state.waiting ⊎ HasStood w o es ws events steps last x.session cycle

    -- of a run that goes on from there
    module _ (w start mid : World L V G H) (failures : List PlainMove) (between : Between w failures start) (e : Event) (step : Step) (one : Steps start e step mid)
        (es first second : List Entry) (ws : Waited) (quiet : tellings_in first ≡ []) (tells : tellings_in second ≡ told_by ws e step) (events : List Event) (steps : List Step) (last : World L V G H) (session : ℕ) (cycle : List ℕ) where
      stood_later : HasStood mid o ((es ++ first) ++ second) (waited_behind ws e step) events steps last session cycle → HasStood w o es ws (e ∷ events) (step ∷ steps) last session cycle
      stood_later h = record {
        before = e ∷ h.before;
        before_steps = step ∷ h.before_steps;
        start = h.start;
        during = h.during;
        step = h.step;
        next = h.next;
        of_run = record {
          first_moves = failures ++ (moves_by e step ++ h.of_run.first_moves);
          first = (start, mid, failures, h.of_run.first_moves, between, one, h.of_run.first, refl);
          one = h.of_run.one;
          after = h.of_run.after;
          after_steps = h.of_run.after_steps;
          rest_moves = h.of_run.rest_moves;
          rest = h.of_run.rest;
          events_are = ap (λ (l : List Event). e ∷ l) h.of_run.events_are;
          steps_are = ap (λ (l : List Step). step ∷ l) h.of_run.steps_are;
        };
        made = first ++ (second ++ h.made);
        entries = h.entries;
        goes_on = h.goes_on ∙ append_assoc (es ++ first) second h.made ∙ append_assoc es first (second ++ h.made);
        told = exchanges-append first (second ++ h.made) ∙ ap (λ (l : Told). l ++ tellings_in (second ++ h.made)) quiet ∙ exchanges-append second h.made
            ∙ ap (λ (l : Told). l ++ tellings_in h.made) tells ∙ ap (λ (l : Told). told_by ws e step ++ l) h.told;
        manager = h.manager;
        on = h.on;
        move = h.move;
        is_move = h.is_move;
        mid = h.mid;
        within = h.within;
        stood = h.stood;
      }

    run_tells : (w : World L V G H) (es : List Entry) (ws : Waited) (k : IsManagerOf w o es ws) (events : List Event) (steps : List Step) (moves : List PlainMove) (last : World L V G H)
        → AllByRecursion IsServedEvent events → Runs w events steps moves last → HasRunTelling w es ws k events steps last
    run_tells w es ws k [] [] moves last served between =
        let on = between_on w o es ws k moves last between in
        record {
          made = on.made;
          entries = es ++ on.made;
          goes_on = refl;
          tells = on.told;
          manager = on.manager;
          told = λ x there cycle is. inl (subst (IsAmong x) on.waits there);
        }
    run_tells w es ws k (e ∷ events) (step ∷ steps) moves last served (start, mid, failures, later, between, one, rest, is) =
        let on = between_on w o es ws k failures start between in
        let went = stepped start o (es ++ on.made) ws on.manager e step mid served.0 one in
        let next = run_tells mid ((es ++ on.made) ++ went.on.made) (waited_behind ws e step) went.on.manager events steps later last served.1 rest in
        record {
          made = on.made ++ (went.on.made ++ next.made);
          entries = next.entries;
          goes_on = next.goes_on ∙ append_assoc (es ++ on.made) went.on.made next.made ∙ append_assoc es on.made (went.on.made ++ next.made);
          tells = exchanges-append on.made (went.on.made ++ next.made) ∙ ap (λ (l : Told). l ++ tellings_in (went.on.made ++ next.made)) on.told
              ∙ exchanges-append went.on.made next.made ∙ ap (λ (l : Told). l ++ tellings_in next.made) went.told ∙ ap (λ (l : Told). told_by ws e step ++ l) next.tells;
          manager = next.manager;
          told = λ x there cycle told. ⊎_elim
              (λ before. ⊎_elim
              (λ waited. inl (subst (IsAmong x) on.waits waited))
              (λ here. inr (record {
                before = [];
                before_steps = [];
                start = start;
                during = e;
                step = step;
                next = mid;
                of_run = record {
                  first_moves = failures;
                  first = between;
                  one = one;
                  after = events;
                  after_steps = steps;
                  rest_moves = later;
                  rest = rest;
                  events_are = refl;
                  steps_are = refl;
                };
                made = on.made;
                entries = es ++ on.made;
                goes_on = refl;
                told = on.told;
                manager = on.manager;
                on = went.on;
                move = here.move;
                is_move = here.is_move;
                mid = here.mid;
                within = here.within;
                stood = here.stood;
              }))
              (event_told (geometry_in start) o on.manager.found (es ++ on.made) on.manager.now.state went.on.manager.now.state on.manager.under_way.under_way.state e step served.0 went.moves x before cycle told))
              (λ stood. inr (stood_later w start mid failures between e step one es on.made went.on.made ws on.told went.told events steps last x.session cycle stood))
              (next.told x there cycle told);
        }
    run_tells w es ws k [] (step ∷ steps) moves last served runs = absurd runs
    run_tells w es ws k (e ∷ events) [] moves last served runs = absurd runs

    -- .. of a run that is an event longer
    stood_so_far : (w : World L V G H) (es : List Entry) (ws : Waited) (events : List Event) (steps : List Step) (last : World L V G H) (session : ℕ) (cycle : List ℕ)
        (e : Event) (step : Step) (new : World L V G H) → Steps last e step new → HasStood w o es ws events steps last session cycle
        → HasStood w o es ws (events ++ e ∷ []) (steps ++ step ∷ []) new session cycle
    stood_so_far w es ws events steps last session cycle e step new one h = record {
      before = h.before;
      before_steps = h.before_steps;
      start = h.start;
      during = h.during;
      step = h.step;
      next = h.next;
      of_run = record {
        first_moves = h.of_run.first_moves;
        first = h.of_run.first;
        one = h.of_run.one;
        after = h.of_run.after ++ e ∷ [];
        after_steps = h.of_run.after_steps ++ step ∷ [];
        rest_moves = h.of_run.rest_moves ++ moves_by e step;
        rest = one_more h.next h.of_run.after h.of_run.after_steps h.of_run.rest_moves last e step new h.of_run.rest one;
        events_are = ap (λ (l : List Event). l ++ e ∷ []) h.of_run.events_are ∙ append_assoc h.before (h.during ∷ h.of_run.after) (e ∷ []);
        steps_are = ap (λ (l : List Step). l ++ step ∷ []) h.of_run.steps_are ∙ append_assoc h.before_steps (h.step ∷ h.of_run.after_steps) (step ∷ []);
      };
      made = h.made;
      entries = h.entries;
      goes_on = h.goes_on;
      told = h.told;
      manager = h.manager;
      on = h.on;
      move = h.move;
      is_move = h.is_move;
      mid = h.mid;
      within = h.within;
      stood = h.stood;
    }

    -- nobody is to be told a cycle if no call waits
    none_to_tell : (w : World L V G H) (es : List Entry) (k : IsManagerOf w o es []) (x : Waiting) → IsAmong x k.now.state.waiting → ⊥
    none_to_tell w es k x there = let clash = k.waited x there in absurd cc

    pub told_has_stood : (w : World L V G H) (es : List Entry) (k : IsManagerOf w o es []) (events : List Event) (steps : List Step) (moves : List PlainMove) (last new : World L V G H)
        (session : ℕ) (cycle : List ℕ) → AllByRecursion IsServedEvent events → Runs w events steps moves last → Steps last (event.Resume session) (Refused (Deadlock cycle)) new
        → HasStood w o es [] (events ++ event.Resume session ∷ []) (steps ++ Refused (Deadlock cycle) ∷ []) new session cycle
    told_has_stood w es k events steps moves last new session cycle served runs one =
        let ran = run_tells w es [] k events steps moves last served runs in
        let ws = waited_after [] events steps in
        let step = Refused (Deadlock cycle) in
        let went = stepped last o ran.entries ws ran.manager (event.Resume session) step new tt one in
        ⊎_elim
        (λ waited. stood_so_far w es [] events steps last session cycle (event.Resume session) step new one
        (subst (λ (n : ℕ). HasStood w o es [] events steps last n cycle) waited.2
        (⊎_elim (λ at_first. absurd (none_to_tell w es k waited.0 at_first)) (λ stood. stood) (ran.told waited.0 waited.1 cycle waited.3))))
        (λ here. record {
          before = events;
          before_steps = steps;
          start = last;
          during = event.Resume session;
          step = step;
          next = new;
          of_run = record {
            first_moves = moves;
            first = runs;
            one = one;
            after = [];
            after_steps = [];
            rest_moves = [];
            rest = no_event new;
            events_are = refl;
            steps_are = refl;
          };
          made = ran.made;
          entries = ran.entries;
          goes_on = ran.goes_on;
          told = ran.tells;
          manager = ran.manager;
          on = went.on;
          move = Resumed session step;
          is_move = refl;
          mid = here.1;
          within = (here.0, here.2, (here.4.0, here.4.1, here.4.2, inr (inl (inl here.4.3))));
          stood = here.3;
        })
        (settled_resume_deadlock (geometry_in last) o ran.manager.found ran.entries ran.manager.now.state (after last o ran.entries ws ran.manager) session ran.manager.under_way.under_way.asks cycle
        went.on.manager.now.state went.moves)

    pub told_by_its_first : (w : World L V G H) (es : List Entry) (k : IsManagerOf w o es []) (events : List Event) (steps : List Step) (moves : List PlainMove) (last new : World L V G H)
        (session : ℕ) (cycle : List ℕ) → AllByRecursion IsServedEvent events → Runs w events steps moves last → Steps last (event.Resume session) (Refused (Deadlock cycle)) new
        → IsToldByItsFirst new o (waited_after [] events steps) session cycle
    told_by_its_first w es k events steps moves last new session cycle served runs one =
        let ran = run_tells w es [] k events steps moves last served runs in
        let ws = waited_after [] events steps in
        let went = stepped last o ran.entries ws ran.manager (event.Resume session) (Refused (Deadlock cycle)) new tt one in
        record {
          entries = ran.entries;
          on = went.on;
          first = resume_told_first (geometry_in last) o ran.manager.found ran.entries ran.manager.now.state (after last o ran.entries ws ran.manager) ran.manager.under_way.under_way.asks session cycle
              went.on.manager.now.state ran.manager.firsts went.moves;
        }
