-- A manager over its store from a restart to a crash, and managers one after another, as stretches of a life.
use Rattle.std.proofs.Common.{◌≡◌, inl, ◌++◌, List, [], ◌∷◌, refl, sym, ap, subst, ◌∙◌, length, map, take, arith, append-nil, append_assoc}
use Rattle.std.specs.Prelude.{Contains}
use Rattle.std.specs.FinMap.{get}
use Rattle.std.proofs.lemmas.Bool.{true≢false}
use Rattle.std.proofs.lemmas.List.Elements.{All-nil}
use Rattle.shore_types.specs.declared.ids.Rid.{Rid}
use Rattle.shore_types.specs.declared.layout.Geometry.{Geometry}
use Rattle.shore_model.specs.declared.histories.Entry.{Entry}
use Rattle.shore_model.specs.declared.histories.Opening.{Opening}
use Rattle.shore_model.specs.declared.log_records.LogRecord.{LogRecord}
use Rattle.shore_model.specs.Lives.{IsLife, next_opening}
use Rattle.laws_lives.specs.Recovery.{RecoveryState}
use Rattle.laws_lives.specs.LogPrefixes.{LogDecides, decisions_in}
use Rattle.laws_lives.specs.LogTells.{IsLogAfter}
use Rattle.laws_lives.specs.Doubts.{IsOpeningOf, TracksDoubts}
use Rattle.laws_lives.specs.OwnSeats.{HasOwnSeats}
use Rattle.laws_lives.specs.Sessions.{EachOnce, ResolvedTxn}
use Rattle.laws_lives.specs.WholeLogs.{IsWholeLog}
use Rattle.laws_lives.specs.Views.{IsAmong}
use Rattle.laws_calls.proofs.SessionOpens.{found_answered, locks_of_open}
use Rattle.laws_calls.proofs.SettledStates.{session_event_stays}
use Rattle.laws_calls.specs.CallSteps.{ended_among}
use Rattle.laws_calls.specs.Events.{IsStateAfter}
use Rattle.laws_lives.proofs.AtWork.{IsAtWork, all_stay_at_work, pages_have_records}
use Rattle.laws_lives.proofs.LifeSteps.{stretches_are_a_life}
use Rattle.laws_lives.proofs.Openings.{opens_at_work}
use Rattle.laws_lives.proofs.OwnSeats.{opened_seats}
use Rattle.laws_lives.specs.ManagerSteps.{StretchEvent, ManagerRunsTo, ManagerState}
use Rattle.laws_lives.specs.Stretches as lives
use Rattle.laws_lives.specs.Stretches.{AreStretches, IsStretch, MayBeFound, OpensShow, Stretch, opening_after}
use Rattle.laws_runs.proofs.Events.{event_comes, over, rest_comes}
use Rattle.laws_runs.specs.StoredRuns.{AreStoredRuns, IsStored, IsStoredRun, Manage, RunsShow, StoredEvent, StoredMoves, StoredRun, StoredState, StoredSteps, Tend, entries_made, left_by_run, span_of_run, spans_of_runs}

-- ---- events one after another

pub runs_join : (m : ManagerState) (events : List StretchEvent) (es : List Entry) (mid : ManagerState) (made : List Entry) (later : List StretchEvent) (last : ManagerState) (all : List Entry)
    → ManagerRunsTo m events es mid made → ManagerRunsTo mid later made last all → ManagerRunsTo m (events ++ later) es last all
runs_join m [] es mid made later last all h k =
    subst (λ m. ManagerRunsTo m later es last all) h.0 (subst (λ es. ManagerRunsTo mid later es last all) h.1 k)
runs_join m (e ∷ events) es mid made later last all h k = (h.0, h.1, runs_join h.0 events _ mid made later last all h.2 k)

-- what the events of a manager come to: it is in a state after its calls, over its store, by events of sessions
pub record HasCome (o : Opening) (found : List LogRecord) (es : List Entry) (m last : StoredState) (made : List Entry) : Type 0 where
  pub state : IsStateAfter o found (es ++ made) last.state
  pub stored : IsStored last.state last.store
  pub events : List StretchEvent
  pub runs : ManagerRunsTo (over m.state m.store) events es (over last.state last.store) (es ++ made)

module _ (g : Geometry) (o : Opening) (found : List LogRecord) where
  pub manage_comes : (es : List Entry) (m new : StoredState) → IsStored m.state m.store → IsStateAfter o found es m.state → (e : StoredEvent)
      → StoredSteps g m e new → HasCome o found es m new (entries_made m e new)
  manage_comes es m new stored k (Manage e works) h =
      let come = event_comes m stored o found es k g new.state e h.0 works new.store h.1 h.2 in
      record { state = session_event_stays g o found es m.state new.state e k h.0; stored = h.2; events = come.0; runs = come.1 }
  manage_comes es m new stored k (Tend works) h =
      let come = rest_comes m stored es new.state h.0 works new.store h.1 h.2 in
      record {
        state = subst (λ es. IsStateAfter o found es new.state) (sym (append-nil es)) (subst (IsStateAfter o found es) (sym h.0) k);
        stored = h.2;
        events = come.0;
        runs = come.1;
      }

  pub events_come : (es : List Entry) (m : StoredState) → IsStored m.state m.store → IsStateAfter o found es m.state → (events : List StoredEvent) (last : StoredState) (made : List Entry)
      → StoredMoves g m events last made → HasCome o found es m last made
  events_come es m stored k [] last made h =
      let none : es ≡ es ++ made = sym (append-nil es) ∙ ap (λ made. es ++ made) (sym h.1) in
      record {
        state = subst (λ es. IsStateAfter o found es last.state) none (subst (λ (x : StoredState). IsStateAfter o found es x.state) (sym h.0) k);
        stored = subst (λ (x : StoredState). IsStored x.state x.store) (sym h.0) stored;
        events = [];
        runs = (ap (λ (x : StoredState). over x.state x.store) h.0, sym none);
      }
  events_come es m stored k (e ∷ events) last made h =
      let one = manage_comes es m h.0 stored k e h.2 in
      let rest = events_come (es ++ entries_made m e h.0) h.0 one.stored one.state events last h.1 h.3 in
      let all : (es ++ entries_made m e h.0) ++ h.1 ≡ es ++ made = append_assoc es (entries_made m e h.0) h.1 ∙ ap (λ made. es ++ made) (sym h.4) in
      record {
        state = subst (λ es. IsStateAfter o found es last.state) all rest.state;
        stored = rest.stored;
        events = one.events ++ rest.events;
        runs = subst (λ made. ManagerRunsTo (over m.state m.store) (one.events ++ rest.events) es (over last.state last.store) made) all
            (runs_join (over m.state m.store) one.events es (over h.0.state h.0.store) (es ++ entries_made m e h.0) rest.events (over last.state last.store) ((es ++ entries_made m e h.0) ++ h.1)
            one.runs rest.runs);
      }

-- ---- one manager

module _ (g : Geometry) (o : Opening) (s : RecoveryState) (f : MayBeFound s) (opening : IsOpeningOf s.log o) (r : StoredRun) (h : IsStoredRun g o s r) where
  at_work : IsAtWork (length s.log) r.first.sessions.next_txn o [] (over r.first r.ready)
  at_work = opens_at_work o s r.restart r.ready r.first.sessions f opening h.restarts h.redone h.no_losers h.opens.sessions

  first_seats : HasOwnSeats r.first.sessions
  first_seats = opened_seats o r.first.sessions h.opens.sessions.seats h.opens.sessions.prepared h.opens.sessions.active

  -- what the open leaves is a state after no entries
  pub opened : IsStateAfter o s.log [] r.first
  opened =
      let log = h.opens.stored.log in
      let durable = h.opens.stored.durable in
      let least = at_work.durable in
      let most = at_work.recoverable.durable in
      let long : length r.ready.log ≡ length r.first.log = ap length log in
      let opens = h.opens.sessions in
      let few = h.opens.few in
      let resolving : length (ended_among r.first.sessions.active r.first.sessions.resolving) ≡ 0 =
      ap (λ rs. length (ended_among r.first.sessions.active rs)) opens.resolving in
      record {
        sessions = record {
          sound = at_work.sessions.sound;
          agree = at_work.sessions.agree;
          seats = first_seats;
          log = subst (IsLogAfter o [] r.first.sessions) log at_work.sessions.logged;
          whole = subst (λ rs. IsWholeLog rs r.first.sessions) log at_work.sessions.whole;
          doubts = subst (λ rs. TracksDoubts rs r.first.sessions) log at_work.sessions.tracks;
          decides = subst (LogDecides (length s.log) o []) log at_work.decides;
          single = subst (λ rs. EachOnce (map (λ (r : ResolvedTxn). r.txn) rs)) (sym opens.resolving) tt;
          locks = locks_of_open r.first h.opens.locks;
        };
        waits = record {
          each = λ w m. absurd (subst (IsAmong w) h.opens.waiting m);
          once = λ v w m n same. absurd (subst (IsAmong v) h.opens.waiting m);
          prepares = λ running p m e. absurd (true≢false (sym (found_answered p o.in_doubt (subst (IsAmong p) opens.prepared m)) ∙ e));
          resolves = λ running r ended. absurd (subst (IsAmong r) opens.resolving ended.0);
          resolve_once = λ v w global x y m n first second. absurd (subst (IsAmong v) h.opens.waiting m);
        };
        forced = record {
          least = omega (arith, least, durable);
          most = omega (arith, most, durable, long);
          acknowledged_kept = All-nil (Contains (decisions_in (length s.log) (take r.first.durable r.first.log)));
          tickets = tt;
        };
        few = omega (arith, few, resolving);
      }

  pub come : HasCome o s.log [] (record { state = r.first; store = r.ready }) r.last r.made
  come = events_come g o s.log [] (record { state = r.first; store = r.ready }) h.opens.stored opened r.events r.last r.made h.moves

  pub state_after : IsStateAfter o s.log r.made r.last.state
  state_after = come.state

  pub works_on : IsAtWork (length s.log) r.first.sessions.next_txn o r.made (over r.last.state r.last.store)
  works_on =
      all_stay_at_work (length s.log) r.first.sessions.next_txn o [] (over r.first r.ready) come.events
      (over r.last.state r.last.store) r.made at_work come.runs

  pub pages_show : (id : Rid) → (r.last.store.in_place id.page).slots id.slot ≡ get r.last.state.sessions.records id
  pages_show id =
      pages_have_records (length s.log) r.first.sessions.next_txn o r.made (over r.last.state r.last.store) works_on id

  -- ---- as a stretch of a life

  abbrev stretch : Stretch
  stretch = record {
    restart = r.restart;
    ready = r.ready;
    first = r.first.sessions;
    events = come.events;
    last = over r.last.state r.last.store;
    made = r.made;
    failing = r.last.store;
    survive = r.survive;
    pages = r.pages;
    begin = r.begin;
  }

  is_stretch : IsStretch o s stretch
  is_stretch = record {
    up = record { restarts = h.restarts; redone = h.redone; no_losers = h.no_losers; opens = h.opens.sessions; runs = come.runs };
    fails = inl refl;
    crash = h.crash;
  }

  as_life : IsLife o (lives.spans_of s (stretch ∷ [])) (opening_after o (lives.spans_of s (stretch ∷ []))) × OpensShow o s (stretch ∷ []) × MayBeFound (left_by_run r)
      × IsOpeningOf (left_by_run r).log (next_opening o (span_of_run s r))
  as_life = stretches_are_a_life o s (stretch ∷ []) f opening (is_stretch, tt)

  pub found_next : MayBeFound (left_by_run r)
  found_next = as_life.2

  -- what the crash leaves opens as the kept decisions say
  pub opens_next : IsOpeningOf (left_by_run r).log (next_opening o (span_of_run s r))
  opens_next = as_life.3

-- ---- managers one after another

pub record AreOneLife (o : Opening) (s : RecoveryState) (runs : List StoredRun) (last : RecoveryState) : Type 0 where
  pub stretches : List Stretch
  pub are : AreStretches o s stretches
  pub spans : lives.spans_of s stretches ≡ spans_of_runs s runs
  pub left : lives.left_at_last s stretches ≡ last
  pub show : OpensShow o s stretches → RunsShow o s runs

one_life : (g : Geometry) (o : Opening) (s : RecoveryState) (runs : List StoredRun) (last : RecoveryState) → MayBeFound s → IsOpeningOf s.log o → AreStoredRuns g o s runs last
    → AreOneLife o s runs last
one_life g o s [] last f opening h = record { stretches = []; are = tt; spans = refl; left = sym h; show = λ shown. shown }
one_life g o s (r ∷ runs) last f opening h =
    let rest = one_life g (next_opening o (span_of_run s r)) (left_by_run r) runs last (found_next g o s f opening r h.0) (opens_next g o s f opening r h.0) h.1 in
    record {
      stretches = stretch g o s f opening r h.0 ∷ rest.stretches;
      are = (is_stretch g o s f opening r h.0, rest.are);
      spans = ap (λ spans. lives.span_of s (stretch g o s f opening r h.0) ∷ spans) rest.spans;
      left = rest.left;
      show = λ shown. (shown.0.1, rest.show shown.1);
    }

module _ (g : Geometry) (o : Opening) (s : RecoveryState) (runs : List StoredRun) (last : RecoveryState) (f : MayBeFound s) (opening : IsOpeningOf s.log o) (h : AreStoredRuns g o s runs last) where
  whole : AreOneLife o s runs last
  whole = one_life g o s runs last f opening h

  all : IsLife o (lives.spans_of s whole.stretches) (opening_after o (lives.spans_of s whole.stretches)) × OpensShow o s whole.stretches
      × MayBeFound (lives.left_at_last s whole.stretches) × IsOpeningOf (lives.left_at_last s whole.stretches).log (opening_after o (lives.spans_of s whole.stretches))
  all = stretches_are_a_life o s whole.stretches f opening whole.are

  pub is_a_life : IsLife o (spans_of_runs s runs) (opening_after o (spans_of_runs s runs))
  is_a_life = subst (λ spans. IsLife o spans (opening_after o spans)) whole.spans all.0

  pub opens_show : RunsShow o s runs
  opens_show = whole.show all.1

  pub may_be_found : MayBeFound last
  may_be_found = subst MayBeFound whole.left all.2

  pub opens_last : IsOpeningOf last.log (opening_after o (spans_of_runs s runs))
  opens_last =
      subst (λ spans. IsOpeningOf last.log (opening_after o spans)) whole.spans
      (subst (λ (x : RecoveryState). IsOpeningOf x.log (opening_after o (lives.spans_of s whole.stretches))) whole.left all.3)
