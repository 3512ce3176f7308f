-- A call that waited goes on: what the sessions are after its entry.
use Rattle.std.proofs.Common.{◌≡◌, ◌≢◌, inl, inr, ⊎_elim, ◌++◌, ◌∷◌, ℕ, List, [], Bool, true, false, cond, None, Ok, refl, sym, ap, subst, ◌∙◌, length, append-nil, ◌≤◌, ◌⊎◌}
use Rattle.std.specs.Prelude.{◌==◌, IsTrue, not}
use Rattle.std.proofs.lemmas.Bool.{cases_Bool, eqb-false, eqb-true}
use Rattle.shore_types.specs.declared.faults.Fault.TheVariants as fault
use Rattle.shore_types.specs.declared.layout.Geometry.{Geometry}
use Rattle.shore_types.specs.declared.locking.Granule.{Granule}
use Rattle.shore_model.specs.declared.calls.Answer.TheVariants.{Prepared, Resolved}
use Rattle.shore_model.specs.declared.calls.Call.{Call}
use Rattle.shore_model.specs.declared.calls.Call.TheVariants as call
use Rattle.shore_model.specs.declared.histories.Entry.{Entry}
use Rattle.shore_model.specs.declared.histories.Opening.{Opening}
use Rattle.shore_model.specs.declared.histories.Entry.TheVariants.{Exchanged}
use Rattle.shore_model.specs.declared.log_records.LogRecord.{LogRecord}
use Rattle.shore_locks.specs.Tables.{is_waiting}
use Rattle.laws_lives.specs.SessionSteps.{exchange, AnswerPrepare}
use Rattle.laws_lives.specs.Sessions.{SessionTxn, Sessions, ResolvedTxn}
use Rattle.laws_lives.specs.Views.{IsAmong}
use Rattle.shore_model.specs.declared.step.Step.{Step}
use Rattle.shore_model.specs.declared.step.Step.TheVariants.{Done, Nothing, Refused, Waits}
use Rattle.shore_model.specs.declared.step.Wait.{Wait}
use Rattle.shore_model.specs.declared.step.Wait.TheVariants.{Durable, Lock}
use Rattle.laws_calls.proofs.GoingOn.{goes_on_kept}
use Rattle.laws_calls.proofs.LockedAnswers.{refusal_told}
use Rattle.laws_calls.proofs.Sessions.{event_keeps, one_txn, one_member, prepare_seats, seat_apart}
use Rattle.laws_calls.proofs.TakenLocks.{sessions_of, state_of}
use Rattle.laws_calls.specs.CallHistories.{txn_of, answered_under, txn_under}
use Rattle.laws_calls.specs.StateChanges.{wait_refused}
use Rattle.laws_calls.specs.CallSteps.{CallGoesOn, ResumesCall, ResumesWait, IsPreparing, prepare_ended, HasEnded}
use Rattle.laws_calls.specs.LockedStates.{IsSessionsState, entries_of_resumed, HasTrueLocks}
use Rattle.laws_calls.specs.States.{IsOfSession, State, Waiting, without_waiting, HasSeat}
use Rattle.shore_model.specs.Histories.{free}
use Rattle.shore_model.specs.declared.sessions.SessionState.{SessionState}
use Rattle.laws_calls.proofs.Told.{entries_told, entries_waited, asks_decides_nothing}
use Rattle.laws_calls.specs.Resolves.{resolve_ended}

-- the calls of other sessions wait on
pub waits_stay : (session : ℕ) (w : Waiting) (ws : List Waiting) → IsAmong w ws → w.session ≢ session → IsAmong w (without_waiting session ws)
waits_stay session w [] there other = absurd there
waits_stay session w (x ∷ ws) there other = by (x.session == session) refl there (λ later. waits_stay session w ws later other)
  where
    by : (b : Bool) → (x.session == session) ≡ b → IsAmong w (x ∷ ws) → (IsAmong w ws → IsAmong w (without_waiting session ws))
        → IsAmong w (cond (not b) (x ∷ without_waiting session ws) (without_waiting session ws))
    by true e (inl same) rest = absurd (other (ap (λ (v : Waiting). v.session) (sym same) ∙ eqb-true x.session session e))
    by true e (inr later) rest = rest later
    by false e (inl same) rest = inl same
    by false e (inr later) rest = inr (rest later)

-- a transaction whose call waits for a lock does not roll back
abbrev pub WaitsWhole : State → ℕ → Wait → Type 0
WaitsWhole s session wait = (at : Granule) (a : SessionTxn) → wait ≡ Lock at → IsOfSession s session a → a.undo.rolling ≡ None

-- a resolve is answered that waited
pub record IsResolveTold (s : State) (session : ℕ) (wait : Wait) (c : Call) (new : State) (made : List Entry) : Type 0 where
  pub number : ℕ
  pub waits : wait ≡ Durable number
  pub durable : number ≤ s.durable
  pub resolved : ResolvedTxn
  pub ended : HasEnded s.sessions resolved
  pub asks : c ≡ call.Resolve resolved.global resolved.outcome
  pub is : new ≡ resolve_ended s session resolved
  pub entries : made ≡ Exchanged session (txn_under s.sessions resolved.global) (exchange (call.Resolve resolved.global resolved.outcome) (Ok Resolved)) ∷ []

pub is_resolve_told : (s : State) (w : Waiting) (n : ℕ) (step : Step) (new : State)
    → (n ≤ s.durable) × (step ≡ Done Resolved) × ((r : ResolvedTxn) × HasEnded s.sessions r × (w.call ≡ call.Resolve r.global r.outcome) × (new ≡ resolve_ended s w.session r))
    → IsResolveTold s w.session (Durable n) w.call new (entries_of_resumed s (record { session = w.session; call = w.call; wait = Durable n; cycle = w.cycle }) step)
is_resolve_told s w n step new h = record {
  number = n;
  waits = refl;
  durable = h.0;
  resolved = h.2.0;
  ended = h.2.1;
  asks = h.2.2;
  is = h.2.3;
  entries =
      ap (entries_of_resumed s (record { session = w.session; call = w.call; wait = Durable n; cycle = w.cycle })) h.1
      ∙ ap (λ (c : Call). Exchanged w.session (answered_under s.sessions w.session c) (exchange c (Ok Resolved)) ∷ []) h.2.2;
}

-- a call that goes on behind its lock adds what it would add if it were made now
pub same_entries : (g : Geometry) (s : State) (a : SessionTxn) (session : ℕ) (c : Call) (at : Granule) (step : Step) (new : State) → CallGoesOn g s a c step new
    → entries_told s session c step ≡ entries_of_resumed s (record { session = session; call = c; wait = Lock at; cycle = None }) step
same_entries g s a session c at (Done answer) new h =
    ap (λ ds. ds ++ Exchanged session (answered_under s.sessions session c) (exchange c (Ok answer)) ∷ []) (asks_decides_nothing (txn_of s.sessions session) c h.1.0 h.1.1)
same_entries g s a session c at (Waits wait) new h = ap (entries_waited s session c) h.4
same_entries g s a session c at (Refused f) new h = refl
same_entries g s a session c at Nothing new h = absurd h

module _ (g : Geometry) (o : Opening) (found : List LogRecord) (es : List Entry) (s : State) (k : IsSessionsState o found es s) where
  -- ---- a call behind a lock

  -- the call of a session that waited for a lock, and has it now, waits no more
  pub woken : (a : SessionTxn) (session : ℕ) → IsOfSession s session a → is_waiting a.txn s.locks.requests ≡ false → IsSessionsState o found es (wait_refused s session)
  woken a session mem quiet = state_of o found es s k es (wait_refused s session) (sessions_of o found es s k) (record {
    held = k.locks.held;
    orderly = k.locks.orderly;
    rooted = k.locks.rooted;
    below = k.locks.below;
    waiters = k.locks.waiters;
    waits = λ running b there idle. ⊎_elim
        (λ own. ⊎_elim
        (λ waits.
        let was = k.locks.waiters b.txn waits in
        let is = one_member k was.0 b was.1.0 there was.2 in
        let mine : HasSeat s.sessions b = subst (HasSeat s.sessions) is was.1 in
        let same : b.txn ≡ a.txn = one_txn s.sessions b a mine.1 mem.0.1 (eqb-true b.session session own ∙ sym mem.1) in
        subst (λ (t : ℕ). is_waiting t s.locks.requests ≡ false) (sym same) quiet)
        (λ quiet. quiet)
        (cases_Bool (is_waiting b.txn s.locks.requests)))
        (λ other. k.locks.waits running b there (λ w m spared same. idle w (waits_stay session w s.waiting m (λ own. eqb-false b.session session other (sym same ∙ own))) spared same))
        (cases_Bool (b.session == session));
  })

  -- a failed manager lets a call go
  let_go : (session : ℕ) → IsTrue s.failed → IsSessionsState o found es (wait_refused s session)
  let_go session failed = state_of o found es s k es (wait_refused s session) (sessions_of o found es s k)
      (record { held = k.locks.held; orderly = k.locks.orderly; rooted = k.locks.rooted; below = k.locks.below; waiters = k.locks.waiters; waits = λ running. absurd cc })

  -- a prepare that is answered leaves the locks
  prepare_locks : (session t : ℕ) (global : List ℕ) → IsPreparing s.sessions session t global → HasTrueLocks (prepare_ended s session t global)
  prepare_locks session t global mine =
      subst (λ (x : Sessions). HasTrueLocks (record s { sessions = x; waiting = without_waiting session s.waiting })) (prepare_seats s.sessions session t global)
      (record {
        held = k.locks.held;
        orderly = k.locks.orderly;
        rooted = k.locks.rooted;
        below = k.locks.below;
        waiters = k.locks.waiters;
        waits = λ running b there idle. ⊎_elim
            (λ waits.
            let was = k.locks.waiters b.txn waits in
            let own = subst (HasSeat s.sessions) (one_member k was.0 b was.1.0 there was.2) was.1 in
            k.locks.waits running b there (λ w m spared of. idle w (waits_stay session w s.waiting m (λ same. seat_apart own.1 (ap s.sessions.seats (sym of ∙ same) ∙ mine.1))) spared of))
            (λ quiet. quiet)
            (cases_Bool (is_waiting b.txn s.locks.requests));
      })

  as_it_was : IsSessionsState o found (es ++ []) s
  as_it_was = subst (λ (made : List Entry). IsSessionsState o found made s) (sym (append-nil es)) k

  prepare_kept : (w : Waiting) (n : ℕ) (step : Step) (new : State)
      → (n ≤ s.durable) × (step ≡ Done Prepared) × ((t : ℕ) × (global : List ℕ) × IsPreparing s.sessions w.session t global × (w.call ≡ call.Prepare global) × (new ≡ prepare_ended s w.session t global))
      → IsSessionsState o found (es ++ entries_of_resumed s (record { session = w.session; call = w.call; wait = Durable n; cycle = w.cycle }) step) new
  prepare_kept w n step new h =
      let t = h.2.0 in
      let global = h.2.1 in
      let number : txn_of s.sessions w.session ≡ t = ap (λ (p : SessionState). p.txn) h.2.2.1 in
      let told = prepare_ended s w.session t global in
      subst (IsSessionsState o found (es ++ entries_of_resumed s (record { session = w.session; call = w.call; wait = Durable n; cycle = w.cycle }) step)) (sym h.2.4)
      (subst (λ (x : Step). IsSessionsState o found (es ++ entries_of_resumed s (record { session = w.session; call = w.call; wait = Durable n; cycle = w.cycle }) x) told) (sym h.1)
      (subst (λ (c : Call). IsSessionsState o found (es ++ Exchanged w.session (answered_under s.sessions w.session c) (exchange c (Ok Prepared)) ∷ []) told) (sym h.2.3)
      (subst (λ u. IsSessionsState o found (es ++ Exchanged w.session u (exchange (call.Prepare global) (Ok Prepared)) ∷ []) told) (sym number)
      (state_of o found es s k (es ++ Exchanged w.session t (exchange (call.Prepare global) (Ok Prepared)) ∷ []) told
      (event_keeps (length found) o es s.sessions told.sessions (AnswerPrepare w.session t global) s.log (sessions_of o found es s k) (h.2.2.0, h.2.2.1, refl))
      (prepare_locks w.session t global h.2.2)))))

  wait_kept : (w : Waiting) (wait : Wait) → WaitsWhole s w.session wait → (step : Step) (new : State) → ResumesWait g s w wait step new
      → IsSessionsState o found (es ++ entries_of_resumed s (record { session = w.session; call = w.call; wait = wait; cycle = w.cycle }) step) new
      ⊎ IsResolveTold s w.session wait w.call new (entries_of_resumed s (record { session = w.session; call = w.call; wait = wait; cycle = w.cycle }) step)
  wait_kept w (Durable n) whole step new (inl h) =
      inl (subst (IsSessionsState o found (es ++ entries_of_resumed s (record { session = w.session; call = w.call; wait = Durable n; cycle = w.cycle }) step)) (sym h.2)
      (subst (λ (x : Step). IsSessionsState o found (es ++ entries_of_resumed s (record { session = w.session; call = w.call; wait = Durable n; cycle = w.cycle }) x) s) (sym h.1) as_it_was))
  wait_kept w (Durable n) whole step new (inr (inl h)) = inl (prepare_kept w n step new h)
  wait_kept w (Durable n) whole step new (inr (inr h)) = inr (is_resolve_told s w n step new h)
  wait_kept w (Lock at) whole step new h = inl (⊎_elim
      (λ still.
      subst (IsSessionsState o found (es ++ entries_of_resumed s (record { session = w.session; call = w.call; wait = Lock at; cycle = w.cycle }) step)) (sym still.2)
      (subst (λ (x : Step). IsSessionsState o found (es ++ entries_of_resumed s (record { session = w.session; call = w.call; wait = Lock at; cycle = w.cycle }) x) s) (sym still.1) as_it_was))
      (λ free.
      subst (λ made. IsSessionsState o found (es ++ made) new) (same_entries g (wait_refused s w.session) h.0 w.session w.call at step new free.1)
      (goes_on_kept g o found es w.session h.0 h.1.1 (whole at h.0 refl h.1) (wait_refused s w.session) (woken h.0 w.session h.1 free.0) h.1.0 free.0 w.call step new free.1))
      h.2)

  pub resumed_call_kept : (w : Waiting) → (w.cycle ≡ None → WaitsWhole s w.session w.wait) → (step : Step) (new : State) → ResumesCall g s w step new → IsSessionsState o found (es ++ entries_of_resumed s w step) new
      ⊎ IsResolveTold s w.session w.wait w.call new (entries_of_resumed s w step)
  resumed_call_kept w whole step new (inl h) =
      inl (subst (IsSessionsState o found (es ++ entries_of_resumed s w step)) (sym h.2)
      (subst (λ (x : Step). IsSessionsState o found (es ++ entries_of_resumed s w x) (wait_refused s w.session)) (sym h.1)
      (refusal_told o found es (wait_refused s w.session) (let_go w.session h.0) w.session w.call fault.Failed tt)))
  resumed_call_kept w whole step new (inr h) = wait_kept w w.wait (whole h.2) step new h.1
