-- Each event of a manager over its store is some events of sessions over that store: locks move, and then a call is answered.
use Rattle.std.proofs.Common.{◌≡◌, ◌++◌, List, [], ◌∷◌, refl, sym, ap, subst, ◌∙◌, take, append_assoc}
use Rattle.std.specs.List.{AllByRecursion}
use Rattle.shore_types.specs.declared.layout.Geometry.{Geometry}
use Rattle.shore_model.specs.declared.histories.Decision.{Decision}
use Rattle.shore_model.specs.declared.histories.Decision.TheVariants as decision
use Rattle.shore_model.specs.declared.histories.Entry.{Entry}
use Rattle.shore_model.specs.declared.histories.Opening.{Opening}
use Rattle.shore_model.specs.declared.log_records.LogRecord.{LogRecord}
use Rattle.laws_lives.specs.Recovery.{RecoveryEvent, RecoveryState}
use Rattle.laws_lives.specs.Logged.{log_after}
use Rattle.laws_lives.specs.LogPrefixes.{IsDecidedIn}
use Rattle.laws_lives.specs.SessionSteps.{AnswerAbort, Ask, AnswerInDoubt, AnswerPrepare, AnswerResolve, AppendCommit, AppendPrepare, AppendResolve, AppendRollback, BeginTxn, Doom, EndRollback, GiveReply, MoveLocks, PutBack, RefuseCall, SessionEvent, entries_by}
use Rattle.laws_lives.specs.Sessions.{Sessions}
use Rattle.laws_calls.proofs.SettledComings.{session_event_comes}
use Rattle.laws_calls.proofs.Links.{ComesBy, GoesBy, IsDurable, TellTickets, no_tickets}
use Rattle.laws_calls.proofs.LeftWaits.{goes_on_log}
use Rattle.laws_runs.proofs.SplitWorks.{by_on, split_works, stays_durable, works_on}
use Rattle.laws_lives.proofs.Lists.{recursion-weaker}
use Rattle.laws_calls.specs.Events as calls
use Rattle.laws_calls.specs.Events.{IsStateAfter, EventMoves, entries_of}
use Rattle.laws_calls.specs.States.{State}
use Rattle.laws_lives.specs.ManagerSteps.{AnswersDurable, StretchEvent, ManagerRunsTo, ManagerState, Serve, Tend, WorksTo, decision_resolved}
use Rattle.laws_runs.specs.StoredRuns.{IsStored, StoredState}

abbrev pub over : State → RecoveryState → ManagerState
over state store = record { sessions = state.sessions; store = store }

-- Whatever work the store does meanwhile, there are events of sessions that lead to the state and make the entries.
abbrev pub Comes : StoredState → List Entry → State → List Entry → Type 0
Comes m es state made = (works : List RecoveryEvent) (store : RecoveryState) → WorksTo m.store works store → IsStored state store
    → (events : List StretchEvent) × ManagerRunsTo (over m.state m.store) events es (over state store) (es ++ made)

-- ---- events of sessions over the store

module _ (m : StoredState) (stored : IsStored m.state m.store) where
  decided_in_store : (d : Decision) → IsDecidedIn (take m.state.durable m.state.log) d → IsDecidedIn (take m.store.durable m.store.log) d
  decided_in_store d h =
      subst (λ l. IsDecidedIn (take m.store.durable l) d) (sym stored.log) (subst (λ n. IsDecidedIn (take n m.state.log) d) (sym stored.durable) h)

  -- a decision that is answered is durable in the store
  answers_durable : (e : SessionEvent) → IsDurable m.state e → AnswersDurable m.store.durable m.store.log e
  answers_durable (Ask ticket answer) h = tt
  answers_durable (MoveLocks held) h = tt
  answers_durable (BeginTxn session) h = tt
  answers_durable (GiveReply a c reply) h = tt
  answers_durable (AppendCommit a ticket) h = tt
  answers_durable (PutBack a kept e r) h = tt
  answers_durable (Doom a) h = tt
  answers_durable (AnswerAbort a) h = tt
  answers_durable (RefuseCall session t c f) h = tt
  answers_durable (AppendPrepare a global granules) h = tt
  answers_durable (AnswerPrepare session t global) h = decided_in_store (decision.Prepare t global) h
  answers_durable (AppendResolve a global) h = tt
  answers_durable (AppendRollback a global) h = tt
  answers_durable (EndRollback a) h = tt
  answers_durable (AnswerResolve session r) h = decided_in_store (decision_resolved r) h
  answers_durable (AnswerInDoubt session t pairs) h = tt

  module _ (g : Geometry) (last_store : RecoveryState) where
    -- The events, from a state with the store's log on. The store appends what each of them appends with it, and does the rest of its work at the end.
    events_run : (s : State) (store : RecoveryState) (works : List RecoveryEvent) → WorksTo store works last_store → store.log ≡ s.log → (events : List SessionEvent)
        → AllByRecursion (AnswersDurable store.durable store.log) events → TellTickets store.durable store.log events → (last : State) (es made : List Entry)
        → GoesBy g s events last made → last_store.log ≡ last.log → (run : List StretchEvent) × ManagerRunsTo (over s store) run es (over last last_store) (es ++ made)
    events_run s store works work at [] durable tickets last es made h is = (
      Tend works ∷ [],
      (
        over last last_store,
        (ap (λ (x : State). x.sessions) h.0, work, is ∙ ap (λ (x : State). x.log) h.0 ∙ sym at),
        (refl, ap (λ made. es ++ made) h.1),
      ),
    )
    events_run s store works work at (e ∷ events) durable tickets last es made h is =
        let mid = h.0 in
        let first = goes_on_log g s mid e h.2 in
        let rest = by_on g mid events last h.1 h.3 in
        let log : last_store.log ≡ (store.log ++ first.0) ++ rest.0 = is ∙ rest.1 ∙ ap (λ l. l ++ rest.0) (first.1 ∙ ap (λ l. l ++ first.0) (sym at)) in
        let split = split_works store works last_store work first.0 rest.0 log in
        let here : split.mid.log ≡ mid.log = split.log ∙ ap (λ l. l ++ first.0) at ∙ sym first.1 in
        let on = works_on store split.before split.mid split.begins in
        let later = recursion-weaker (AnswersDurable store.durable store.log) (AnswersDurable split.mid.durable split.mid.log) (λ f. stays_durable store split.mid on f) events durable.1 in
        let run = events_run mid split.mid split.behind split.ends here events later (no_tickets split.mid.durable split.mid.log events tickets.1) last (es ++ entries_by s.sessions e) h.1 h.3 is in (
          Serve e split.before ∷ run.0,
          (
            over mid split.mid,
            (h.2.moves, (durable.0, tickets.0), split.begins, here ∙ h.2.log ∙ ap (λ l. log_after l s.sessions e) (sym at)),
            subst (ManagerRunsTo (over mid split.mid) run.0 (es ++ entries_by s.sessions e) (over last last_store)) (append_assoc es (entries_by s.sessions e) h.1 ∙ ap (λ made. es ++ made) (sym h.4)) run.1,
          ),
        )

  -- ---- events of a manager

  comes_over : (es : List Entry) (g : Geometry) (new : State) (made : List Entry) → ComesBy g m.state new made → Comes m es new made
  comes_over es g new made h works store work is =
      let durable = recursion-weaker (IsDurable m.state) (AnswersDurable m.store.durable m.store.log) answers_durable h.events h.durable in
      let tickets = subst (λ n. TellTickets n m.store.log h.events) (sym stored.durable) (subst (λ l. TellTickets m.state.durable l h.events) (sym stored.log) h.tickets) in
      let run = events_run g store h.start m.store works work (stored.log ∙ sym h.before.log) h.events durable tickets h.mid es made h.goes (is.log ∙ h.after.log) in (
        run.0,
        subst (λ (x : Sessions). ManagerRunsTo (record { sessions = x; store = m.store }) run.0 es (over new store) (es ++ made)) h.before.sessions
            (subst (λ (x : Sessions). ManagerRunsTo (over h.start m.store) run.0 es (record { sessions = x; store = store }) (es ++ made)) (sym h.after.sessions) run.1),
      )

  module _ (o : Opening) (found : List LogRecord) (es : List Entry) (k : IsStateAfter o found es m.state) where
    pub event_comes : (g : Geometry) (new : State) (e : calls.ManagerEvent) → EventMoves g m.state e new → Comes m es new (entries_of m.state e new)
    event_comes g new e h = comes_over es g new (entries_of m.state e new) (session_event_comes g o found es m.state k new e h)

  pub rest_comes : (es : List Entry) (new : State) → new ≡ m.state → Comes m es new []
  rest_comes es new same works store work is = (
    Tend works ∷ [],
    (
      over new store,
      (ap (λ (x : State). x.sessions) same, work, is.log ∙ ap (λ (x : State). x.log) same ∙ sym stored.log),
      (refl, refl),
    ),
  )
