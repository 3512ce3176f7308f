-- A transaction is doomed, and the request with which one waits is taken back: what the sessions are then, and what the calls that wait stand on.
use Rattle.std.proofs.Common.{◌≡◌, ◌≢◌, ◌⊎◌, inl, inr, ⊎_elim, ◌++◌, ◌<◌, ℕ, List, [], false, refl, sym, ap, subst, ◌∙◌, append-nil, arith, length}
use Rattle.shore_model.specs.declared.calls.Call.TheVariants as call
use Rattle.std.specs.Prelude.{◌==◌}
use Rattle.std.proofs.lemmas.Bool.{cases_Bool, eqb-false, eqb-true}
use Rattle.shore_types.specs.declared.layout.Geometry.{Geometry}
use Rattle.shore_model.specs.declared.histories.Entry.{Entry}
use Rattle.shore_model.specs.declared.histories.Opening.{Opening}
use Rattle.shore_model.specs.declared.log_records.LogRecord.{LogRecord}
use Rattle.shore_model.specs.declared.requests.Request.{Request}
use Rattle.shore_model.specs.Requests.{held_by_all}
use Rattle.shore_locks.specs.Grants.{cancelled}
use Rattle.shore_locks.specs.Tables.{is_waiting}
use Rattle.shore_locks.proofs.Outcomes.{quiet_after_cancel}
use Rattle.shore_locks.proofs.Tables.{orderly_cancelled}
use Rattle.shore_cycles.proofs.Steps.{cancelled_keeps_quiet}
use Rattle.laws_lives.proofs.Members.{among_with, txn_among, txns_with}
use Rattle.shore_model.specs.declared.rollbacks.Rollback.TheVariants.{Whole}
use Rattle.laws_lives.specs.SessionSteps.{Doom, MoveLocks, StepsTo, IsOwn}
use Rattle.laws_lives.specs.Sessions.{SessionTxn, doomed, locks_moved}
use Rattle.laws_lives.specs.UndoLists.{UndoList, undo_rolled}
use Rattle.laws_lives.specs.Views.{IsAmong}
use Rattle.laws_calls.proofs.Cancelled.{cancelled_below, cancelled_moves, cancelled_rooted}
use Rattle.laws_calls.proofs.Links.{Goes, same_room, ended_with}
use Rattle.laws_calls.proofs.ReplyLinks.{as_many}
use Rattle.laws_calls.proofs.Sessions.{AreSessionsAfter, event_keeps, one_txn, one_member, own_of, seat_apart}
use Rattle.laws_calls.proofs.TakenLocks.{sessions_of, state_of}
use Rattle.laws_calls.proofs.ToldCycles.{is_as_it_was, is_to_tell, other_waits, still_once, to_tell, was_waiting, still_resolve_once}
use Rattle.laws_calls.proofs.Unwinding.{its_list, other_list, with_list}
use Rattle.laws_calls.proofs.Waiters.{nobody_begins, with_other_undo}
use Rattle.laws_calls.specs.CallSteps.{with_requests}
use Rattle.laws_calls.specs.LockedStates.{IsSessionsState}
use Rattle.laws_calls.specs.SessionWaits.{IsDecisionWait, IsLockWait, WaitsOfSessions, IsUnanswered}
use Rattle.laws_calls.specs.StateChanges.{decision_waiting}
use Rattle.laws_calls.specs.States.{AsksForNothing, HasSeat, State, Waiting}
use Rattle.laws_calls.specs.Victims.{victim_taken, with_cycle}
use Rattle.laws_calls.proofs.SessionsWaiting.{not_resolver}

-- ---- a transaction is doomed

abbrev pub with_doom : State → SessionTxn → State
with_doom s b = record s { sessions = doomed s.sessions b }

abbrev doomed_list : SessionTxn → UndoList
doomed_list b = undo_rolled b.undo b.undo.images Whole

pub doom_goes : (g : Geometry) (s : State) (b : SessionTxn) → IsOwn s.sessions b → Goes g s (Doom b) (with_doom s b)
doom_goes g s b own = record {
  moves = ((own.0, own.2.0), refl);
  log = refl;
  durable = refl;
  stream = refl;
  waiting = refl;
  failed = refl;
  fits = refl;
  admits = tt;
  room = same_room s (with_doom s b) (Doom b) refl refl refl;
  writes = inl (refl, refl);
  few = λ few.
      let same = as_many b.txn (doomed_list b) s.sessions.active in
      let ended = ap length (ended_with b.txn (doomed_list b) s.sessions.active s.sessions.resolving) in
      omega (arith, few, same, ended);
  numbers = λ most. most;
}

module _ (o : Opening) (found : List LogRecord) (es : List Entry) (s : State) (k : IsSessionsState o found es s) where
  -- an event that makes no entry
  quietly_after : (new : State) → AreSessionsAfter (length found) o (es ++ []) new.sessions new.log → AreSessionsAfter (length found) o es new.sessions new.log
  quietly_after new h = subst (λ (xs : List Entry). AreSessionsAfter (length found) o xs new.sessions new.log) (append-nil es) h

  pub doomed_state : (b : SessionTxn) → HasSeat s.sessions b → IsSessionsState o found es (with_doom s b)
  doomed_state b mem = state_of o found es s k es (with_doom s b)
      (quietly_after (with_doom s b) (event_keeps (length found) o es s.sessions (doomed s.sessions b) (Doom b) s.log (sessions_of o found es s k) ((mem.0, (own_of k b mem).2.0), refl)))
      (record {
        held = k.locks.held;
        orderly = k.locks.orderly;
        rooted = k.locks.rooted;
        below = k.locks.below;
        waiters = with_other_undo s.locks.requests s.sessions b.txn (doomed_list b) k.locks.waiters;
        waits = λ running c there idle.
            let was = among_with b.txn (doomed_list b) c s.sessions.active there in
            subst (λ (t : ℕ). is_waiting t s.locks.requests ≡ false) (sym was.txn) (k.locks.waits running was.was was.there (λ w m spared same. idle w m spared (same ∙ sym was.session)));
      })

  -- ---- the request with which a transaction waits is taken back

  module _ (t : ℕ) (low : t < s.sessions.next_txn) where
    abbrev left : List Request
    left = cancelled t s.locks.requests

    pub back_moves : StepsTo s.sessions (MoveLocks (held_by_all left)) (locks_moved s.sessions (held_by_all left))
    back_moves = cancelled_moves s.locks.requests t k.locks.orderly s.sessions k.locks.held k.locks.rooted low k.locks.below

    -- .. and these calls wait then: who waits for nothing, and is another, has not waited
    pub taken_back_state : (ws : List Waiting)
        → (s.failed ≡ false → (b : SessionTxn) → HasSeat s.sessions b → b.txn ≢ t → AsksForNothing (record s { waiting = ws }) b.session → AsksForNothing s b.session)
        → IsSessionsState o found es (with_requests (record s { waiting = ws }) left)
    taken_back_state ws others =
        let new = with_requests (record s { waiting = ws }) left in
        state_of o found es s k es new
        (quietly_after new (event_keeps (length found) o es s.sessions new.sessions (MoveLocks (held_by_all left)) s.log (sessions_of o found es s k) back_moves))
        (record {
          held = refl;
          orderly = orderly_cancelled t s.locks.requests k.locks.orderly;
          rooted = cancelled_rooted s.locks.requests t k.locks.orderly k.locks.rooted;
          below = cancelled_below s.locks.requests t k.locks.orderly s.sessions.next_txn low k.locks.below;
          waiters = nobody_begins s.locks.requests left s.sessions (λ u quiet. cancelled_keeps_quiet s.locks.requests t u k.locks.orderly.one_each quiet) k.locks.waiters;
          waits = λ running b there idle. ⊎_elim
              (λ own. subst (λ (u : ℕ). is_waiting u left ≡ false) (sym (eqb-true b.txn t own)) (quiet_after_cancel t s.locks.requests k.locks.orderly))
              (λ other. cancelled_keeps_quiet s.locks.requests t b.txn k.locks.orderly.one_each (still_quiet running b there (eqb-false b.txn t other) idle))
              (cases_Bool (b.txn == t));
        })
      where
        still_quiet : s.failed ≡ false → (b : SessionTxn) → IsAmong b s.sessions.active → b.txn ≢ t → AsksForNothing (record s { waiting = ws }) b.session → is_waiting b.txn s.locks.requests ≡ false
        still_quiet running b there other idle = ⊎_elim
            (λ waits.
            let was = k.locks.waiters b.txn waits in
            let mine : HasSeat s.sessions b = subst (HasSeat s.sessions) (one_member k was.0 b was.1.0 there was.2) was.1 in
            k.locks.waits running b there (others running b mine other idle))
            (λ quiet. quiet)
            (cases_Bool (is_waiting b.txn s.locks.requests))

-- ---- a victim

module _ (o : Opening) (found : List LogRecord) (es : List Entry) (s : State) (k : IsSessionsState o found es s) (b : SessionTxn) (mem : HasSeat s.sessions b) (cycle : List ℕ) where
  abbrev new : State
  new = victim_taken s b cycle

  pub number_low : b.txn < s.sessions.next_txn
  number_low = k.sound.below b.txn (txn_among b s.sessions.active mem.0)

  pub victim_moves : StepsTo (doomed s.sessions b) (MoveLocks (held_by_all (cancelled b.txn s.locks.requests))) new.sessions
  victim_moves = back_moves o found es (with_doom s b) (doomed_state o found es s k b mem) b.txn number_low

  -- another that asks for nothing has asked for nothing
  asked_nothing : (c : SessionTxn) → HasSeat (doomed s.sessions b) c → c.txn ≢ b.txn → AsksForNothing new c.session → AsksForNothing s c.session
  asked_nothing c mine other idle w m spared same =
      let apart : w.session ≢ b.session = λ own. other (one_txn s.sessions c b mine.1 mem.1 (sym same ∙ own)) in
      idle w (other_waits b.session cycle w s.waiting m apart) spared same

  pub victim_state : IsSessionsState o found es new
  victim_state =
      taken_back_state o found es (with_doom s b) (doomed_state o found es s k b mem) b.txn number_low (with_cycle b.session cycle s.waiting) (λ running c there other idle. asked_nothing c there other idle)

  -- ---- its call, and those of others

  module _ (h : WaitsOfSessions (length found) s) where
    own_wait : (v : Waiting) → v.session ≡ b.session → IsDecisionWait (length found) s v ⊎ IsLockWait s v → IsLockWait new (to_tell cycle v)
    own_wait v own (inl c) = absurd (⊎_elim (λ h. seat_apart mem.1 (ap s.sessions.seats (sym own) ∙ h.2.1)) (λ h. h.4 b.txn mem.2 (ap s.sessions.seats own ∙ mem.1)) c.unanswered)
    own_wait v own (inr l) =
        record { txn = with_list b (doomed_list b); active = (its_list b (doomed_list b) s.sessions.active mem.0, mem.1, mem.2); of = sym own; whole = λ spared. absurd cc; at = l.at; is = l.is; lock = l.lock; asked = l.asked }

    other_wait : (v : Waiting) → v.session ≢ b.session → IsDecisionWait (length found) s v ⊎ IsLockWait s v → IsDecisionWait (length found) new v ⊎ IsLockWait new v
    other_wait v other (inl c) = inl (record { number = c.number; decision = c.decision; is = c.is; unanswered = unanswered v c.unanswered; some = c.some; there = c.there; decided = c.decided })
      where
        unanswered : (v : Waiting) → IsUnanswered s.sessions v.session v.call c.decision → IsUnanswered new.sessions v.session v.call c.decision
        unanswered v (inl x) = inl x
        unanswered v (inr x) = inr (x.0, (x.1.0, λ m. x.1.1 (subst (IsAmong x.0.txn) (txns_with b.txn (doomed_list b) s.sessions.active) m)), x.2, x.3, x.4)
    other_wait v other (inr l) =
        let apart : l.txn.txn ≢ b.txn = λ same. other (sym l.of ∙ ap (λ (x : SessionTxn). x.session) (one_member k l.txn b l.active.0 mem.0 same)) in
        inr (record { txn = l.txn; active = (other_list b.txn (doomed_list b) l.txn s.sessions.active l.active.0 apart, l.active.1, l.active.2); of = l.of; whole = l.whole; at = l.at; is = l.is; lock = l.lock; asked = l.asked })

    each_wait : (w : Waiting) → IsAmong w new.waiting → IsDecisionWait (length found) new w ⊎ IsLockWait new w
    each_wait w m =
        let was = was_waiting b.session cycle w s.waiting m in
        ⊎_elim
        (λ own.
        let same = eqb-true was.was.session b.session own in
        inr (subst (IsLockWait new) (is_to_tell b.session cycle was.was w was.is same) (own_wait was.was same (h.each was.was was.there))))
        (λ other.
        let apart = eqb-false was.was.session b.session other in
        subst (λ (x : Waiting). IsDecisionWait (length found) new x ⊎ IsLockWait new x) (is_as_it_was b.session cycle was.was w was.is apart) (other_wait was.was apart (h.each was.was was.there)))
        (cases_Bool (was.was.session == b.session))

    pub victim_waits : WaitsOfSessions (length found) new
    victim_waits = record {
      each = each_wait;
      once = still_once b.session cycle s.waiting h.once;
      resolves = λ running r ended.
          let was = h.resolves running r (ended.0, λ m. ended.1 (subst (IsAmong r.txn) (sym (txns_with b.txn (doomed_list b) s.sessions.active)) m)) in
          let its = decision_waiting was.0 (call.Resolve r.global r.outcome) was.1 in
          (was.0, was.1, other_waits b.session cycle its s.waiting was.2 (not_resolver o found es s k h its was.2 r.global r.outcome refl b mem.1 mem.2));
      resolve_once = still_resolve_once b.session cycle s.waiting h.resolve_once;
      prepares = λ running p m e.
          let was = h.prepares running p m e in
          (was.0, was.1, other_waits b.session cycle (decision_waiting was.0 (call.Prepare p.global) was.1) s.waiting was.2 (λ same. seat_apart mem.1 (ap s.sessions.seats (sym same) ∙ was.3)), was.3);
    }
