-- Every run of the sessions can happen over log and pages: the log is forced before each event, and then grows by what the event appends.
use Rattle.std.proofs.Common.{◌≡◌, ◌≤◌, ◌<◌, ◌+◌, inl, ◌++◌, ℕ, List, [], ◌∷◌, map, refl, sym, ap, subst, ◌∙◌, length, take, arith, append-nil, append_assoc, length-append}
use Rattle.std.specs.List.{AllByRecursion}
use Rattle.shore_model.specs.declared.histories.Opening.{Opening}
use Rattle.shore_model.specs.declared.histories.Entry.{Entry}
use Rattle.shore_model.specs.declared.histories.InDoubt.{InDoubt}
use Rattle.shore_model.specs.declared.log_records.LogRecord.{LogRecord}
use Rattle.shore_model.specs.Histories.{free}
use Rattle.shore_model.specs.Logs.{records_told}
use Rattle.laws_lives.proofs.ComesThrough.{comes_through}
use Rattle.laws_lives.proofs.Invariant.{crash_stands, from_the_first}
use Rattle.laws_lives.proofs.Restarts.{events_restart, restart_shows}
use Rattle.laws_lives.specs.Recovery.{AppendRecord, ForceLog, IsRecoverable, RecoveryEvent, RecoveryState, after_append, after_force}
use Rattle.laws_lives.specs.Restarts.{IsRestartOf, RestartsTo}
use Rattle.laws_lives.specs.Undo.{HasNoLosers}
use Rattle.laws_lives.proofs.DoubtLocks.{locks_are_restored}
use Rattle.laws_lives.proofs.Lists.{mapped_one, recursion-weaker}
use Rattle.laws_lives.specs.Doubts.{IsOpeningOf, doubts_in, restored_locks, undo_in}
use Rattle.laws_lives.specs.SessionSteps.{SessionEvent, entries_by}
use Rattle.laws_lives.specs.Sessions.{SessionTxn, Sessions, txns_of}
use Rattle.laws_lives.specs.Soundness.{found_in_doubt}
use Rattle.laws_lives.proofs.LogGrows.{event_grows}
use Rattle.laws_lives.proofs.AtWork.{IsAtWork, stays_at_work}
use Rattle.laws_lives.proofs.Openings.{opens_at_work}
use Rattle.laws_lives.proofs.Stretches.{up_is_at_work}
use Rattle.laws_lives.specs.ManagerSteps.{ManagerState, StretchEvent, ManagerRunsTo, ManagerStepsTo, OpensOver, RunsOver, Serve, Tend, WorksTo}
use Rattle.laws_lives.specs.Stretches.{IsStretch, IsUpAfter, MayBeFound, Stretch}

record HasNumberAbove (log : List LogRecord) : Type 0 where
  pub number : ℕ
  pub some : 0 < number
  pub above : AllByRecursion (λ r. r.txn < number) log

number_above : (log : List LogRecord) → HasNumberAbove log
number_above [] = record { number = 1; some = omega arith; above = tt }
number_above (r ∷ log) =
    let rest = number_above log in
    let some = rest.some in
    let here : r.txn < rest.number + r.txn = omega arith in
    let still : 0 < rest.number + r.txn = omega arith in
    record {
      number = rest.number + r.txn;
      some = still;
      above = (here, recursion-weaker (λ x. x.txn < rest.number) (λ x. x.txn < rest.number + r.txn) (λ x less. omega arith) log rest.above);
    }

-- ---- the work

record CanAppend (s : RecoveryState) (rs : List LogRecord) : Type 0 where
  pub works : List RecoveryEvent
  pub new : RecoveryState
  pub work : WorksTo s works new
  pub log : new.log ≡ s.log ++ rs
  pub durable : new.durable ≡ s.durable

append_each : (rs : List LogRecord) (s : RecoveryState) → s.redone ≡ length s.log → CanAppend s rs
append_each [] s whole = record { works = []; new = s; work = refl; log = sym (append-nil s.log); durable = refl }
append_each (r ∷ rs) s whole =
    let long = length-append s.log (r ∷ []) in
    let rest = append_each rs (after_append s r) (omega arith) in
    record {
      works = AppendRecord r ∷ rest.works;
      new = rest.new;
      work = (tt, after_append s r, (whole, refl), rest.work);
      log = rest.log ∙ append_assoc s.log (r ∷ []) rs;
      durable = rest.durable;
    }

module _ (base floor : ℕ) (o : Opening) where
  record CanHappen (es : List Entry) (m : ManagerState) (last : Sessions) (made : List Entry) : Type 0 where
    pub events : List StretchEvent
    pub new : ManagerState
    pub runs : ManagerRunsTo m events es new made
    pub sessions : new.sessions ≡ last

  can_happen : (events : List SessionEvent) (es : List Entry) (m : ManagerState) (last : Sessions) (made : List Entry) → IsAtWork base floor o es m
      → RunsOver m.sessions m.store.log m.store.durable events es last made → CanHappen es m last made
  can_happen [] es m last made k runs = record { events = []; new = m; runs = (refl, runs.1); sessions = sym runs.0 }
  can_happen (e ∷ events) es m last made k runs =
      let durable = runs.1 in
      let force : StretchEvent = Tend (ForceLog durable ∷ []) in
      let forced : RecoveryState = after_force m.store durable in
      let m1 : ManagerState = record { sessions = m.sessions; store = forced } in
      let steps1 : ManagerStepsTo m force m1 = (refl, (tt, forced, (runs.3, runs.4, refl), refl), refl) in
      let k1 : IsAtWork base floor o es m1 = subst (λ es. IsAtWork base floor o es m1) (append-nil es) (stays_at_work base floor o es m k force m1 steps1) in
      let gained = event_grows m.store.log m.sessions e in
      let done = append_each gained.0 forced k.redone in
      let m2 : ManagerState = record { sessions = runs.0; store = done.new } in
      let serve : StretchEvent = Serve e done.works in
      let steps2 : ManagerStepsTo m1 serve m2 = (runs.2, runs.5, done.work, done.log ∙ sym gained.1) in
      let k2 : IsAtWork base floor o (es ++ entries_by m.sessions e) m2 = stays_at_work base floor o es m1 k1 serve m2 steps2 in
      let rest = can_happen events (es ++ entries_by m.sessions e) m2 last made k2
      (subst (λ n. RunsOver runs.0 done.new.log n events (es ++ entries_by m.sessions e) last made) (sym done.durable)
      (subst (λ log. RunsOver runs.0 log durable events (es ++ entries_by m.sessions e) last made) (sym (done.log ∙ sym gained.1)) runs.6)) in
      record {
        events = force ∷ serve ∷ rest.events;
        new = rest.new;
        runs = (m1, steps1, (m2, steps2, subst (λ xs. ManagerRunsTo m2 rest.events (xs ++ entries_by m.sessions e) rest.new made) (sym (append-nil es)) rest.runs));
        sessions = rest.sessions;
      }

-- ---- a stretch

module _ (o : Opening) (s : RecoveryState) (f : MayBeFound s) (opening : IsOpeningOf s.log o) (works : List RecoveryEvent) (ready : RecoveryState) (restarts : RestartsTo s works ready)
    (redone : ready.redone ≡ length ready.log) (no_losers : HasNoLosers ready.log) (above : HasNumberAbove ready.log) where
  abbrev opened_txn : InDoubt → SessionTxn
  opened_txn d = record { session = 0; txn = d.txn; undo = undo_in ready.log d.txn }

  abbrev first : Sessions
  first = record {
    slots = o.slots;
    records = records_told s.log;
    active = map opened_txn o.in_doubt;
    held = restored_locks (doubts_in ready.log);
    next_txn = above.number;
    seats = λ n. free;
    prepared = map found_in_doubt o.in_doubt;
    resolving = [];
  }

  come_through : IsRecoverable ready × IsRestartOf s.log ready
  come_through = events_restart s.log s works ready f.recoverable (record { turns = []; undone = refl; durable = f.durable }) restarts

  opens : OpensOver o ready first
  opens = record {
    slots = refl;
    records = λ id. sym (restart_shows s.log ready f.lawful come_through.0 come_through.1 redone no_losers id.page id.slot);
    seats = λ n. refl;
    resolving = refl;
    prepared = refl;
    active = opened_txns o.in_doubt;
    undo_lists = λ a m. let d = mapped_one opened_txn a o.in_doubt m in subst (λ (a : SessionTxn). a.undo ≡ undo_in ready.log a.txn) d.2 refl;
    locks = locks_are_restored ready.log;
    some = above.some;
    below = above.above;
  }
    where
      opened_txns : (ds : List InDoubt) → txns_of (map opened_txn ds) ≡ map (λ d. d.txn) ds
      opened_txns [] = refl
      opened_txns (d ∷ ds) = ap (λ ts. d.txn ∷ ts) (opened_txns ds)

  run_happens : (events : List SessionEvent) (last : Sessions) (made : List Entry) → RunsOver first ready.log ready.durable events [] last made
      → (l : Stretch) × IsStretch o s l × (l.first ≡ first) × (l.ready ≡ ready) × (l.made ≡ made) × (l.last.sessions ≡ last)
  run_happens events last made runs =
      let up = opens_at_work o s works ready first f opening restarts redone no_losers opens in
      let h = can_happen (length s.log) first.next_txn o events [] (record { sessions = first; store = ready }) last made up runs in
      let failing = h.new.store in
      let all = length failing.log in
      let l : Stretch =
      record {
        restart = works;
        ready = ready;
        first = first;
        events = h.events;
        last = h.new;
        made = made;
        failing = failing;
        survive = all;
        pages = failing.volume;
        begin = 0;
      } in
      let after : IsUpAfter o s l = record { restarts = restarts; redone = redone; no_losers = no_losers; opens = opens; runs = h.runs } in
      let k = up_is_at_work o s f opening l after in
      let most : all ≤ all = omega arith in
      let stand = crash_stands failing k.recoverable all failing.volume k.recoverable.durable most (λ p. inl refl) in (
        l,
        record {
          up = after;
          fails = inl refl;
          crash = (k.recoverable.durable, most, (λ p. inl refl), from_the_first (take all failing.log) failing.volume stand);
        },
        refl,
        refl,
        refl,
        h.sessions,
      )

pub every_run_happens : (o : Opening) (s : RecoveryState) → MayBeFound s → IsOpeningOf s.log o
    → (ready : RecoveryState) × (first : Sessions) × ((events : List SessionEvent) (last : Sessions) (made : List Entry) → RunsOver first ready.log ready.durable events [] last made
    → (l : Stretch) × IsStretch o s l × (l.first ≡ first) × (l.ready ≡ ready) × (l.made ≡ made) × (l.last.sessions ≡ last))
every_run_happens o s f opening =
    let through = comes_through s f.recoverable f.lawful in
    let above = number_above through.1.log in
    (through.1, first o s f opening through.0 through.1 through.2 through.3 through.4 above, run_happens o s f opening through.0 through.1 through.2 through.3 through.4 above)
