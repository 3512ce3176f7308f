-- What a prepare is to the sessions, and what it leaves: its Prepare goes last, and but for the seat of its session all stands as it did.
use Rattle.std.proofs.Common.{◌≡◌, ◌≢◌, ◌⊎◌, inl, inr, ⊎_elim, ◌++◌, ◌∷◌, ℕ, List, [], true, false, cond, None, refl, sym, ap, subst, ◌∙◌, arith, length, take}
use Rattle.std.specs.Prelude.{◌==◌, Contains}
use Rattle.std.proofs.lemmas.Bool.{eq-eqb, eqb-true, ne_eqb}
use Rattle.shore_types.specs.declared.layout.Geometry.{Geometry}
use Rattle.shore_types.specs.declared.locking.Granule.{Granule}
use Rattle.shore_types.specs.declared.versions.Version.{Version}
use Rattle.shore_model.specs.declared.calls.Call.TheVariants as call
use Rattle.shore_model.specs.declared.histories.Decision.TheVariants as decision
use Rattle.shore_model.specs.declared.histories.Entry.{Entry}
use Rattle.shore_model.specs.declared.histories.Entry.TheVariants.{Decided}
use Rattle.shore_model.specs.declared.histories.Opening.{Opening}
use Rattle.shore_model.specs.declared.log_records.LogRecord.{LogRecord}
use Rattle.shore_model.specs.declared.log_records.Payload.TheVariants as payload
use Rattle.shore_model.specs.declared.sessions.SessionState.{SessionState}
use Rattle.shore_model.specs.declared.step.Step.{Step}
use Rattle.shore_model.specs.declared.step.Step.TheVariants.{Done, Nothing, Refused, Waits}
use Rattle.shore_model.specs.Histories.{once_prepared}
use Rattle.shore_model.specs.Logs.{previous_of}
use Rattle.shore_locks.specs.Tables.{is_waiting}
use Rattle.laws_room.specs.LogRooms.{prepared_room}
use Rattle.laws_lives.proofs.Lists.{among_append, among_left, among_right, length-push, take-beyond}
use Rattle.laws_lives.proofs.LogPrefixes.{decisions_more}
use Rattle.laws_lives.specs.LogPrefixes.{decisions_in}
use Rattle.laws_lives.specs.Logged.{log_after}
use Rattle.laws_lives.specs.SessionSteps.{AppendPrepare, StepsTo, entries_by}
use Rattle.laws_lives.specs.Sessions.{IsUnused, PreparedTxn, SessionTxn, in_prepared, in_txn, prepare_appended, seated}
use Rattle.laws_lives.specs.Views.{IsAmong}
use Rattle.laws_calls.proofs.Elements.{among_contained, among_last}
use Rattle.laws_calls.proofs.Links.{Goes}
use Rattle.laws_calls.proofs.PreparedGranules.{granules_rise, prepared_granules}
use Rattle.laws_calls.proofs.Rooms.{cost_pushed}
use Rattle.laws_calls.proofs.Sessions.{event_keeps, one_member, own_of}
use Rattle.laws_calls.proofs.LeftWaits.{decision_wait_on}
use Rattle.laws_calls.proofs.SessionsWaiting.{one_more, resolve_more}
use Rattle.laws_calls.proofs.TakenLocks.{sessions_of, state_of}
use Rattle.laws_calls.specs.LockedStates.{HasTrueLocks, IsSessionsState}
use Rattle.laws_calls.specs.Prepares.{MayPrepare, PrepareStep, granules_in_ex, prepared}
use Rattle.laws_calls.specs.SessionWaits.{IsDecisionWait, IsLockWait, WaitsOfSessions}
use Rattle.laws_calls.specs.StateChanges.{decision_waiting}
use Rattle.laws_calls.specs.States.{DoesNotWait, HasSeat, State, Waiting, next_number, log_room}

-- ---- the table

pub prepare_locks : (v : Version) (s : State) (a : SessionTxn) (global : List ℕ) (step : Step) (new : State) → PrepareStep v s a global step new → new.locks ≡ s.locks
prepare_locks v s a global (Waits wait) new h = ap (λ (x : State). x.locks) h.4
prepare_locks v s a global (Refused f) new h = ap (λ (x : State). x.locks) h.1
prepare_locks v s a global (Done answer) new h = absurd h
prepare_locks v s a global Nothing new h = absurd h

-- ---- seats

-- a session in another transaction stays in it
pub in_another : (t u : ℕ) (p : SessionState) → p ≡ in_txn u → u ≢ t → once_prepared p t ≡ in_txn u
in_another t u p is other = ap (λ (x : SessionState). once_prepared x t) is ∙ ap (λ b. cond b (in_prepared t) (in_txn u)) (ne_eqb u t other)

-- one in a transaction that is prepared stays so
pub prepared_before : (t u : ℕ) (p : SessionState) → p ≡ in_prepared u → once_prepared p t ≡ in_prepared u
prepared_before t u p is =
    ap (λ (x : SessionState). once_prepared x t) is
    ∙ elim (u == t) as (λ b. (u == t) ≡ b → cond b (in_prepared t) (in_prepared u) ≡ in_prepared u) [ true ↦ λ e. ap in_prepared (sym (eqb-true u t e)) | false ↦ λ e. refl ] refl

-- none gets into one that is under way
pub seat_unprepared : (t u : ℕ) (p : SessionState) → once_prepared p t ≡ in_txn u → p ≡ in_txn u
seat_unprepared t u p =
    elim (p.txn == t) as (λ b. cond b (in_prepared t) p ≡ in_txn u → p ≡ in_txn u) [
      | true ↦ λ e. let clash : true ≡ false = ap (λ (x : SessionState). x.prepared) e in absurd cc
      | false ↦ λ e. e
    ]

-- its own is in it as prepared
pub prepared_now : (t : ℕ) (p : SessionState) → p ≡ in_txn t → once_prepared p t ≡ in_prepared t
prepared_now t p is = ap (λ (x : SessionState). once_prepared x t) is ∙ ap (λ b. cond b (in_prepared t) (in_txn t)) (eq-eqb t t refl)

-- ---- the event

module _ (g : Geometry) (o : Opening) (found : List LogRecord) (es : List Entry) (s : State) (k : IsSessionsState o found es s) (a : SessionTxn) (mem : HasSeat s.sessions a)
    (whole : a.undo.rolling ≡ None) (global : List ℕ) (unused : IsUnused s.sessions global) where
  abbrev granules : List Granule
  granules = granules_in_ex s a

  -- the state before its call waits
  abbrev pub with_prepare : State
  with_prepare = record s {
    sessions = seated s.sessions (entries_by s.sessions (AppendPrepare a global granules)) (prepare_appended s.sessions a global);
    log = log_after s.log s.sessions (AppendPrepare a global granules);
  }

  moves : StepsTo s.sessions (AppendPrepare a global granules) with_prepare.sessions
  moves = (own_of k a mem, whole, unused, prepared_granules s a, refl)

  pub prepare_goes : MayPrepare s a global → Goes g s (AppendPrepare a global granules) with_prepare
  prepare_goes may = record {
    moves = moves;
    log = refl;
    durable = refl;
    stream = refl;
    waiting = refl;
    failed = refl;
    fits = refl;
    admits = may;
    room = record {
      room = prepared_room global granules (log_room s);
      after = refl;
      kept = let cost = cost_pushed s.log _ in sym cost;
      stream = refl;
      last = sym (length-push s.log _);
    };
    writes = inr (inr (inr (inr (inr (record { txn = a.txn; says = payload.Prepare global granules; decides = inl (global, granules, refl, granules_rise s a); log = refl; counts = refl })))));
    few = λ few. few;
    numbers = λ most. most;
  }

  -- ---- what it leaves

  abbrev its_new : State
  its_new = prepared s a global granules

  -- the session of another transaction stays in it
  seat_of_other : (b : SessionTxn) → HasSeat s.sessions b → b.txn ≢ a.txn → HasSeat its_new.sessions b
  seat_of_other b mine other = (mine.0, in_another a.txn b.txn (s.sessions.seats b.session) mine.1 other, mine.2)

  locks : is_waiting a.txn s.locks.requests ≡ false → HasTrueLocks its_new
  locks quiet = record {
    held = k.locks.held;
    orderly = k.locks.orderly;
    rooted = k.locks.rooted;
    below = k.locks.below;
    waiters = λ t waits.
        let was = k.locks.waiters t waits in
        let other : was.0.txn ≢ a.txn = λ same. let clash : true ≡ false = sym waits ∙ ap (λ u. is_waiting u s.locks.requests) (sym was.2 ∙ same) ∙ quiet in cc in
        (was.0, seat_of_other was.0 was.1 other, was.2);
    waits = λ running b there idle. k.locks.waits running b there (λ w m. idle w (inr m));
  }

  pub prepare_state : is_waiting a.txn s.locks.requests ≡ false → IsSessionsState o found (es ++ Decided (decision.Prepare a.txn global) ∷ []) its_new
  prepare_state quiet =
      state_of o found es s k (es ++ Decided (decision.Prepare a.txn global) ∷ []) its_new
      (event_keeps (length found) o es s.sessions its_new.sessions (AppendPrepare a global granules) s.log (sessions_of o found es s k) moves) (locks quiet)

  module _ (waiting : WaitsOfSessions (length found) s) (idle : DoesNotWait s a.session) where
    abbrev prepare_record : LogRecord
    prepare_record = record { txn = a.txn; previous = previous_of a.txn s.log; payload = payload.Prepare global granules }

    abbrev doubt : PreparedTxn
    doubt = record { txn = a.txn; global = global; answered = false }

    in_log : Contains (decisions_in (length found) (take (next_number s) its_new.log)) (decision.Prepare a.txn global)
    in_log =
        let more = decisions_more (length found) s.log prepare_record k.decides.long (decision.Prepare a.txn global) refl in
        subst (λ l. Contains (decisions_in (length found) l) (decision.Prepare a.txn global)) (sym (take-beyond (next_number s) s.log prepare_record (omega arith)))
        (subst (λ ds. Contains ds (decision.Prepare a.txn global)) (sym more)
        (among_contained (decision.Prepare a.txn global) (decisions_in (length found) s.log ++ decision.Prepare a.txn global ∷ [])
        (among_last (decisions_in (length found) s.log) (decision.Prepare a.txn global))))

    seat : its_new.sessions.seats a.session ≡ in_prepared a.txn
    seat = prepared_now a.txn (s.sessions.seats a.session) mem.1

    its_doubt : IsAmong doubt its_new.sessions.prepared
    its_doubt = among_right doubt s.sessions.prepared (doubt ∷ []) (inl refl)

    own_wait : IsDecisionWait (length found) its_new (decision_waiting a.session (call.Prepare global) (next_number s))
    own_wait =
        let longer = length-push s.log prepare_record in
        record {
          number = next_number s;
          decision = decision.Prepare a.txn global;
          is = refl;
          unanswered = inl (a.txn, global, (its_doubt, seat), refl, refl);
          some = omega arith;
          there = omega (arith, longer);
          decided = in_log;
        }

    other_waits : (w : Waiting) → IsAmong w s.waiting → IsDecisionWait (length found) s w ⊎ IsLockWait s w → IsDecisionWait (length found) its_new w ⊎ IsLockWait its_new w
    other_waits w m (inl c) =
        inl (decision_wait_on (length found) s its_new w
        (λ t name p. (among_left (record { txn = t; global = name; answered = false }) s.sessions.prepared (doubt ∷ []) p.0, prepared_before a.txn t (s.sessions.seats w.session) p.1))
        (λ r ended is out. (ended, λ t above e. out t above (seat_unprepared a.txn t (s.sessions.seats w.session) e))) (prepare_record ∷ [], refl) c)
    other_waits w m (inr l) =
        let other : l.txn.txn ≢ a.txn = λ same. idle w m (sym l.of ∙ ap (λ (x : SessionTxn). x.session) (one_member k l.txn a l.active.0 mem.0 same)) in
        inr (record { txn = l.txn; active = seat_of_other l.txn l.active other; of = l.of; whole = l.whole; at = l.at; is = l.is; lock = l.lock; asked = l.asked })

    pub prepare_waits_on : WaitsOfSessions (length found) its_new
    prepare_waits_on = record {
      each = λ w m. ⊎_elim (λ same. inl (subst (IsDecisionWait (length found) its_new) same own_wait)) (λ older. other_waits w older (waiting.each w older)) m;
      once = λ v w m n same. one_more a.session s v w (decision_waiting a.session (call.Prepare global) (next_number s)) refl idle waiting.once m n same;
      resolves = λ running r ended. let was = waiting.resolves running r ended in (was.0, was.1, inr was.2);
      resolve_once = resolve_more (decision_waiting a.session (call.Prepare global) (next_number s)) s.waiting (λ name x e. let clash : call.Prepare global ≡ call.Resolve name x = e in cc) waiting.resolve_once;
      prepares = λ running p m e. ⊎_elim
          (λ older. let was = waiting.prepares running p older e in (was.0, was.1, inr was.2, prepared_before a.txn p.txn (s.sessions.seats was.0) was.3))
          (λ own. ⊎_elim
          (λ same. (
            a.session,
            next_number s,
            inl (ap (λ (x : PreparedTxn). decision_waiting a.session (call.Prepare x.global) (next_number s)) same),
            seat ∙ ap (λ (x : PreparedTxn). in_prepared x.txn) same,
          ))
          (λ none. absurd none)
          own)
          (among_append p s.sessions.prepared (doubt ∷ []) m);
    }
