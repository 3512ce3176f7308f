-- What the calls that wait stand on stays with each step.
use Rattle.std.proofs.Common.{◌≡◌, ◌≢◌, ◌⊎◌, inl, inr, ⊎_elim, ◌∷◌, ℕ, List, [], false, None, refl, sym, ap, subst, ◌∙◌, length, true, cond, ◌<◌, Some}
use Rattle.std.specs.Prelude.{◌==◌}
use Rattle.std.proofs.lemmas.Bool.{cases_Bool, eqb-false, eqb-true, ne_eqb}
use Rattle.shore_types.specs.declared.layout.Geometry.{Geometry}
use Rattle.shore_model.specs.declared.calls.Call.{Call}
use Rattle.shore_model.specs.declared.calls.Call.TheVariants as call
use Rattle.shore_model.specs.declared.histories.Entry.{Entry}
use Rattle.shore_model.specs.declared.histories.Opening.{Opening}
use Rattle.shore_model.specs.declared.log_records.LogRecord.{LogRecord}
use Rattle.laws_lives.proofs.Lists.{among_map, mapped_one}
use Rattle.laws_lives.proofs.Members.{among_without, member_stays}
use Rattle.laws_lives.specs.Sessions.{SessionTxn, Sessions, in_txn, PreparedTxn, prepare_answered, with_answered, ResolvedTxn, txns_of, resolved_of, without_txn}
use Rattle.laws_lives.specs.Views.{IsAmong}
use Rattle.laws_calls.proofs.Elements.{waits_on}
use Rattle.laws_calls.proofs.Links.{BeginsToWait, GoesQuietly, IsLeft}
use Rattle.laws_calls.proofs.Prefixes.{whole_prefix}
use Rattle.laws_calls.proofs.SessionResumes.{waits_stay}
use Rattle.laws_calls.proofs.Sessions.{one_txn, one_member, seat_apart, prepare_seats, own_of}
use Rattle.laws_calls.specs.CallHistories.{IsPrefix}
use Rattle.laws_calls.specs.StateChanges.{decision_waiting, committed, wait_refused, with_failure}
use Rattle.laws_calls.specs.CallSteps.{aborted, lock_waiting, IsPreparing, prepare_ended, HasEnded}
use Rattle.laws_calls.specs.LockedStates.{IsSessionsState}
use Rattle.laws_calls.specs.SessionWaits.{IsDecisionWait, IsLockWait, WaitsOfSessions, IsUnanswered, IsNotUnderWay}
use Rattle.laws_calls.specs.States.{DoesNotWait, State, Waiting, HasSeat, without_waiting}
use Rattle.laws_calls.proofs.Waiters.{other_seat}
use Rattle.shore_model.specs.declared.sessions.SessionState.{SessionState}
use Rattle.shore_model.specs.Histories.{free}
use Rattle.shore_model.specs.declared.step.Wait.TheVariants.{Durable, Lock}
use Rattle.laws_lives.proofs.Acknowledged.{still_preparing}
use Rattle.laws_calls.specs.Shapes.{ResolvesNone}
use Rattle.shore_model.specs.declared.calls.Outcome.{Outcome}
use Rattle.laws_locks.specs.CallLocks.{Asked, lock_asked_by}
use Rattle.laws_calls.proofs.LeftWaits.{AreOlder, by_leaves, decision_wait_on, leaves_all, waits_left}
use Rattle.shore_model.specs.Records.{Records}
use Rattle.shore_locks.specs.Tables.{Table}
use Rattle.shore_model.specs.Requests.{held_by_all}

-- a failed manager may leave a prepare or a resolve unanswered
pub failed_waits : (base : ℕ) (s : State) → WaitsOfSessions base s → WaitsOfSessions base (with_failure s)
failed_waits base s k = record {
  each = λ w m. ⊎_elim
      (λ c. inl (record { number = c.number; decision = c.decision; is = c.is; unanswered = c.unanswered; some = c.some; there = c.there; decided = c.decided }))
      (λ l. inr (record { txn = l.txn; active = l.active; of = l.of; whole = l.whole; at = l.at; is = l.is; lock = l.lock; asked = l.asked }))
      (k.each w m);
  once = k.once;
  prepares = λ running. absurd cc;
  resolves = λ running. absurd cc;
  resolve_once = k.resolve_once;
}

-- one call more waits, which is no resolve
abbrev pub ResolveOnce : List Waiting → Type 0
ResolveOnce ws = (v w : Waiting) (global : List ℕ) (x y : Outcome) → IsAmong v ws → IsAmong w ws → v.call ≡ call.Resolve global x → w.call ≡ call.Resolve global y → v ≡ w

pub resolve_more : (w : Waiting) (ws : List Waiting) → ResolvesNone w.call → ResolveOnce ws → ResolveOnce (w ∷ ws)
resolve_more u ws none once v w global x y (inr m) (inr n) first second = once v w global x y m n first second
resolve_more u ws none once v w global x y (inl m) n first second = absurd (none global x (ap (λ (z : Waiting). z.call) m ∙ first))
resolve_more u ws none once v w global x y (inr m) (inl n) first second = absurd (none global y (ap (λ (z : Waiting). z.call) n ∙ second))

-- .. or some wait no more
pub resolve_less : (session : ℕ) (ws : List Waiting) → ResolveOnce ws → ResolveOnce (without_waiting session ws)
resolve_less session ws once v w global x y m n first second = once v w global x y (waits_on session v ws m).0 (waits_on session w ws n).0 first second

-- a call that asks for a lock is no resolve
pub asks_no_resolve : (c : Call) (lock : Asked) → lock_asked_by c ≡ Some lock → ResolvesNone c
asks_no_resolve c lock asks global x is = let clash : None ≡ Some lock = ap lock_asked_by (sym is) ∙ asks in cc

-- who waits with a resolve is in no transaction under way
pub resolver_outside : (base : ℕ) (s : State) (w : Waiting) (global : List ℕ) (x : Outcome) → IsDecisionWait base s w ⊎ IsLockWait s w → w.call ≡ call.Resolve global x
    → IsNotUnderWay s.sessions w.session
resolver_outside base s w global x (inr l) is = absurd (asks_no_resolve w.call l.lock l.asked global x is)
resolver_outside base s w global x (inl c) is = by c.unanswered
  where
    by : IsUnanswered s.sessions w.session w.call c.decision → IsNotUnderWay s.sessions w.session
    by (inl h) = let clash : call.Prepare h.1 ≡ call.Resolve global x = sym h.3 ∙ is in absurd cc
    by (inr h) = h.4

-- one session more waits, with one call
pub one_more : (session : ℕ) (s : State) (v w x : Waiting) → x.session ≡ session → DoesNotWait s session → ((v w : Waiting) → IsAmong v s.waiting → IsAmong w s.waiting → v.session ≡ w.session → v ≡ w)
    → IsAmong v (x ∷ s.waiting) → IsAmong w (x ∷ s.waiting) → v.session ≡ w.session → v ≡ w
one_more session s v w x of idle once (inl first) (inl second) same = sym first ∙ second
one_more session s v w x of idle once (inl first) (inr later) same = absurd (idle w later (sym same ∙ ap (λ (y : Waiting). y.session) (sym first) ∙ of))
one_more session s v w x of idle once (inr later) (inl second) same = absurd (idle v later (same ∙ ap (λ (y : Waiting). y.session) (sym second) ∙ of))
one_more session s v w x of idle once (inr later) (inr last) same = once v w later last same

lock_waits : (base session : ℕ) (s new : State) → WaitsOfSessions base s → BeginsToWait session s new → WaitsOfSessions base new
lock_waits base session s new k h =
    let x = lock_waiting h.txn h.call h.at in
    let later = record s { waiting = x ∷ s.waiting } in
    subst (WaitsOfSessions base) (sym h.is) (record {
      each = λ w m. ⊎_elim
          (λ same. inr (subst (IsLockWait later) same (record { txn = h.txn; active = h.active; of = refl; whole = λ spared. h.whole; at = h.at; is = refl; lock = h.lock; asked = h.asked })))
          (λ older. ⊎_elim
          (λ c. inl (record { number = c.number; decision = c.decision; is = c.is; unanswered = c.unanswered; some = c.some; there = c.there; decided = c.decided }))
          (λ l. inr (record { txn = l.txn; active = l.active; of = l.of; whole = l.whole; at = l.at; is = l.is; lock = l.lock; asked = l.asked }))
          (k.each w older))
          m;
      once = λ v w m n same. one_more session s v w x h.of h.idle k.once m n same;
      prepares = λ running p m e. let was = k.prepares running p m e in (was.0, was.1, inr was.2, was.3);
      resolves = λ running r ended. let was = k.resolves running r ended in (was.0, was.1, inr was.2);
      resolve_once = resolve_more x s.waiting (asks_no_resolve h.call h.lock h.asked) k.resolve_once;
    })

left_waits : (base session : ℕ) (s new : State) → WaitsOfSessions base s → IsLeft session s new → WaitsOfSessions base new
left_waits base session s new k (inl same) = subst (WaitsOfSessions base) (sym same) k
left_waits base session s new k (inr (inl failed)) = subst (WaitsOfSessions base) (sym failed) (failed_waits base s k)
left_waits base session s new k (inr (inr waits)) = lock_waits base session s new k waits

pub quietly_waits : (base : ℕ) (g : Geometry) (session : ℕ) (s new : State) (made : List Entry) → AreOlder s → WaitsOfSessions base s → GoesQuietly g session s new made → WaitsOfSessions base new
quietly_waits base g session s new made older k h = left_waits base session h.mid new (waits_left base s h.mid older (by_leaves g s s h.events h.mid made h.quiet h.goes (leaves_all s)) k) h.left

-- ---- those who are told that they are prepared

-- another stays as it was
not_answered : {t : ℕ} (u : ℕ) (name : List ℕ) (ps : List PreparedTxn) → IsAmong (record { txn = u; global = name; answered = false }) ps → u ≢ t
    → IsAmong (record { txn = u; global = name; answered = false }) (with_answered t ps)
not_answered u name [] m other = absurd m
not_answered {t} u name (p ∷ ps) (inl same) other = inl (ap (λ b. cond b (record { txn = p.txn; global = p.global; answered = true }) p) (ne_eqb p.txn t (λ e. other (sym (ap (λ (x : PreparedTxn). x.txn) same) ∙ e))) ∙ same)
not_answered u name (p ∷ ps) (inr later) other = inr (not_answered u name ps later other)

-- who is told is answered
answered_now : (t : ℕ) (p : PreparedTxn) (ps : List PreparedTxn) → IsAmong p (with_answered t ps) → p.answered ≡ false → p.txn ≡ t → ⊥
answered_now t p [] m e same = m
answered_now t p (q ∷ ps) m e same =
    (elim (q.txn == t) as (λ b. (q.txn == t) ≡ b → IsAmong p (cond b (record { txn = q.txn; global = q.global; answered = true }) q ∷ with_answered t ps) → ⊥) [
      | true ↦ λ x. ⊎_elim (λ here. let clash : true ≡ false = ap (λ (y : PreparedTxn). y.answered) here ∙ e in cc) (λ later. answered_now t p ps later e same)
      | false ↦ λ x. ⊎_elim (λ here. eqb-false q.txn t x (ap (λ (y : PreparedTxn). y.txn) here ∙ same)) (λ later. answered_now t p ps later e same)
    ]) refl m

-- ---- a transaction ends

module _ (o : Opening) (found : List LogRecord) (es : List Entry) (s : State) (k : IsSessionsState o found es s) (h : WaitsOfSessions (length found) s) where
  -- a transaction that leaves those under way is none that is resolved
  pub still_ended : (a : SessionTxn) → HasSeat s.sessions a → (r : ResolvedTxn) → IsAmong r s.sessions.resolving → (IsAmong r.txn (txns_of (without_txn a.txn s.sessions.active)) → ⊥)
      → HasEnded s.sessions r
  still_ended a mine r m none = (m, λ active. by (mapped_one (λ (x : SessionTxn). x.txn) r.txn s.sessions.active active))
    where
      by : (b : SessionTxn) × IsAmong b s.sessions.active × (b.txn ≡ r.txn) → ⊥
      by (b, there, its) = ⊎_elim
          (λ same. (own_of k a mine).2.1 (subst (λ t. IsAmong t (resolved_of s.sessions)) (sym its ∙ eqb-true b.txn a.txn same) (among_map (λ (x : ResolvedTxn). x.txn) r s.sessions.resolving m)))
          (λ other. none (subst (λ t. IsAmong t (txns_of (without_txn a.txn s.sessions.active))) its
          (among_map (λ (x : SessionTxn). x.txn) b (without_txn a.txn s.sessions.active) (member_stays a.txn b s.sessions.active there (eqb-false b.txn a.txn other)))))
          (cases_Bool (b.txn == a.txn))

  pub ended_without : (a : SessionTxn) (r : ResolvedTxn) → HasEnded s.sessions r → IsAmong r.txn (txns_of (without_txn a.txn s.sessions.active)) → ⊥
  ended_without a r ended m = by (mapped_one (λ (x : SessionTxn). x.txn) r.txn (without_txn a.txn s.sessions.active) m)
    where
      by : (b : SessionTxn) × IsAmong b (without_txn a.txn s.sessions.active) × (b.txn ≡ r.txn) → ⊥
      by (b, there, its) = ended.1 (subst (λ t. IsAmong t (txns_of s.sessions.active)) its (among_map (λ (x : SessionTxn). x.txn) b s.sessions.active (among_without a.txn b s.sessions.active there).0))

  -- the session of a transaction that is under way waits with no resolve
  pub not_resolver : (w : Waiting) → IsAmong w s.waiting → (global : List ℕ) (x : Outcome) → w.call ≡ call.Resolve global x → (a : SessionTxn) → s.sessions.seats a.session ≡ in_txn a.txn
      → 0 < a.txn → w.session ≢ a.session
  not_resolver w m global x is a seat above same = resolver_outside (length found) s w global x (h.each w m) is a.txn above (ap s.sessions.seats same ∙ seat)

  -- ---- a prepare is answered

  module _ (session t : ℕ) (global : List ℕ) (mine : IsPreparing s.sessions session t global) where
    abbrev told : State
    told = record s { sessions = prepare_answered s.sessions t; waiting = without_waiting session s.waiting }

    doubt_above : (p : PreparedTxn) → IsAmong p s.sessions.prepared → 0 < p.txn
    doubt_above p m = k.whole.above p.txn (k.agree.under_way p.txn (among_map (λ (x : PreparedTxn). x.txn) p s.sessions.prepared m))

    -- another session's transaction is another
    other_txn : (n u : ℕ) (name : List ℕ) → n ≢ session → IsPreparing s.sessions n u name → u ≢ t
    other_txn n u name other p same =
        other (k.seats.one n session (subst (λ (x : SessionState). 0 < x.txn) (sym p.1) (doubt_above (record { txn = u; global = name; answered = false }) p.0))
        (ap (λ (x : SessionState). x.txn) p.1 ∙ same ∙ sym (ap (λ (x : SessionState). x.txn) mine.1)))

    -- the session waits with its prepare
    no_resolver : s.failed ≡ false → (w : Waiting) → IsAmong w s.waiting → (name : List ℕ) (x : Outcome) → w.call ≡ call.Resolve name x → w.session ≢ session
    no_resolver running w m name x is same =
        let doubt : PreparedTxn = record { txn = t; global = global; answered = false } in
        let was = h.prepares running doubt mine.0 refl in
        let v = decision_waiting was.0 (call.Prepare global) was.1 in
        let above = doubt_above doubt mine.0 in
        let one : was.0 ≡ session = k.seats.one was.0 session (subst (λ (y : SessionState). 0 < y.txn) (sym was.3) above) (ap (λ (y : SessionState). y.txn) (was.3 ∙ sym mine.1)) in
        let its : v ≡ w = h.once v w was.2 m (one ∙ sym same) in
        let clash : call.Prepare global ≡ call.Resolve name x = ap (λ (y : Waiting). y.call) its ∙ is in
        cc

    told_wait : (w : Waiting) → w.session ≢ session → IsDecisionWait (length found) s w ⊎ IsLockWait s w → IsDecisionWait (length found) told w ⊎ IsLockWait told w
    told_wait w other (inl c) =
        inl (decision_wait_on (length found) s told w
        (λ u name p. (not_answered u name s.sessions.prepared p.0 (other_txn w.session u name other p), p.1)) (λ r ended is out. (ended, out)) (whole_prefix s.log) c)
    told_wait w other (inr l) = inr (record { txn = l.txn; active = l.active; of = l.of; whole = l.whole; at = l.at; is = l.is; lock = l.lock; asked = l.asked })

    told_waits : WaitsOfSessions (length found) told
    told_waits = record {
      each = λ w m. let on = waits_on session w s.waiting m in told_wait w on.1 (h.each w on.0);
      once = λ v w m n same. h.once v w (waits_on session v s.waiting m).0 (waits_on session w s.waiting n).0 same;
      prepares = λ running p m e.
          let was_there = still_preparing t p s.sessions.prepared m e in
          let was = h.prepares running p was_there e in
          let other : was.0 ≢ session = λ same. answered_now t p s.sessions.prepared m e (ap (λ (x : SessionState). x.txn) (sym was.3 ∙ ap s.sessions.seats same ∙ mine.1)) in
          (was.0, was.1, waits_stay session (decision_waiting was.0 (call.Prepare p.global) was.1) s.waiting was.2 other, was.3);
      resolves = λ running r ended.
          let was = h.resolves running r ended in
          let its = decision_waiting was.0 (call.Resolve r.global r.outcome) was.1 in
          (was.0, was.1, waits_stay session its s.waiting was.2 (λ same. no_resolver running its was.2 r.global r.outcome refl same));
      resolve_once = resolve_less session s.waiting h.resolve_once;
    }

    pub prepared_waits : WaitsOfSessions (length found) (prepare_ended s session t global)
    prepared_waits =
        subst (λ (x : Sessions). WaitsOfSessions (length found) (record s { sessions = x; waiting = without_waiting session s.waiting })) (prepare_seats s.sessions session t global) told_waits

  -- ---- a commit or an abort is answered

  module _ (a : SessionTxn) (mem : HasSeat s.sessions a) (idle : DoesNotWait s a.session) (R : Records) (locks : Table) (log : List LogRecord) (on : IsPrefix s.log log) where
    -- the transaction is under way no more, and its session is in none
    abbrev gone : State
    gone = record s {
      sessions = record s.sessions { records = R; active = without_txn a.txn s.sessions.active; held = held_by_all locks.requests; seats = λ n. cond (a.session == n) free (s.sessions.seats n) };
      locks = locks;
      log = log;
    }

    waits_behind : (w : Waiting) → IsAmong w s.waiting → IsDecisionWait (length found) s w ⊎ IsLockWait s w → IsDecisionWait (length found) gone w ⊎ IsLockWait gone w
    waits_behind w m (inl c) =
        inl (decision_wait_on (length found) s gone w
        (λ t global p. (p.0, other_seat s.sessions.seats a.session w.session free (λ same. seat_apart mem.1 (ap s.sessions.seats same ∙ p.1)) ∙ p.1))
        (λ r ended is out. (
          (ended.0, ended_without a r ended),
          λ t above e. out t above (sym (other_seat s.sessions.seats a.session w.session free (λ same. out a.txn mem.2 (sym (ap s.sessions.seats same) ∙ mem.1))) ∙ e),
        )) on c)
    waits_behind w m (inr l) =
        let other : l.txn.txn ≢ a.txn = λ same. idle w m (sym l.of ∙ ap (λ (x : SessionTxn). x.session) (one_member k l.txn a l.active.0 mem.0 same)) in
        let apart : a.session ≢ l.txn.session = λ same. other (one_txn s.sessions l.txn a l.active.1 mem.1 (sym same)) in
        inr (record {
          txn = l.txn;
          active = (member_stays a.txn l.txn s.sessions.active l.active.0 other, other_seat s.sessions.seats a.session l.txn.session free apart ∙ l.active.1, l.active.2);
          of = l.of;
          whole = l.whole;
          at = l.at;
          is = l.is;
          lock = l.lock;
          asked = l.asked;
        })

    gone_waits : WaitsOfSessions (length found) gone
    gone_waits = record {
      each = λ w m. waits_behind w m (h.each w m);
      once = h.once;
      prepares = λ running p m e.
          let was = h.prepares running p m e in
          (was.0, was.1, was.2, other_seat s.sessions.seats a.session was.0 free (λ same. seat_apart mem.1 (ap s.sessions.seats same ∙ was.3)) ∙ was.3);
      resolves = λ running r ended. h.resolves running r (still_ended a mem r ended.0 ended.1);
      resolve_once = h.resolve_once;
    }

  pub aborted_waits : (a : SessionTxn) → HasSeat s.sessions a → DoesNotWait s a.session → IsPrefix s.log (aborted s a).log → WaitsOfSessions (length found) (aborted s a)
  aborted_waits a mem idle on = gone_waits a mem idle (aborted s a).sessions.records (aborted s a).locks (aborted s a).log on

  pub committed_waits : (a : SessionTxn) → HasSeat s.sessions a → DoesNotWait s a.session → WaitsOfSessions (length found) (committed s a)
  committed_waits a mem idle = gone_waits a mem idle s.sessions.records (committed s a).locks (committed s a).log (_ ∷ [], refl)

  -- ---- a call waits no more

  -- the session of a transaction that is not prepared waits for no record
  pub no_record_awaited : (a : SessionTxn) → HasSeat s.sessions a → (v : Waiting) → IsAmong v s.waiting → v.session ≡ a.session → (n : ℕ) → v.wait ≢ Durable n
  no_record_awaited a mine v m of n is = by (h.each v m)
    where
      by : IsDecisionWait (length found) s v ⊎ IsLockWait s v → ⊥
      by (inl c) = ⊎_elim (λ x. seat_apart mine.1 (ap s.sessions.seats (sym of) ∙ x.2.1)) (λ x. x.4 a.txn mine.2 (ap s.sessions.seats of ∙ mine.1)) c.unanswered
      by (inr l) = let clash : Durable n ≡ Lock l.at = sym is ∙ l.is in cc

  module _ (session : ℕ) (kept : s.failed ≡ false → (v : Waiting) → IsAmong v s.waiting → v.session ≡ session → (n : ℕ) → v.wait ≢ Durable n) where
    pub woken_waits : WaitsOfSessions (length found) (wait_refused s session)
    woken_waits = record {
      each = λ w m. ⊎_elim
          (λ c. inl (record { number = c.number; decision = c.decision; is = c.is; unanswered = c.unanswered; some = c.some; there = c.there; decided = c.decided }))
          (λ l. inr (record { txn = l.txn; active = l.active; of = l.of; whole = l.whole; at = l.at; is = l.is; lock = l.lock; asked = l.asked }))
          (h.each w (waits_on session w s.waiting m).0);
      once = λ v w m n same. h.once v w (waits_on session v s.waiting m).0 (waits_on session w s.waiting n).0 same;
      prepares = λ running p m e.
          let was = h.prepares running p m e in
          (was.0, was.1, waits_stay session (decision_waiting was.0 (call.Prepare p.global) was.1) s.waiting was.2 (λ of. kept running (decision_waiting was.0 (call.Prepare p.global) was.1) was.2 of was.1 refl), was.3);
      resolves = λ running r ended.
          let was = h.resolves running r ended in
          let its = decision_waiting was.0 (call.Resolve r.global r.outcome) was.1 in
          (was.0, was.1, waits_stay session its s.waiting was.2 (λ of. kept running its was.2 of was.1 refl));
      resolve_once = resolve_less session s.waiting h.resolve_once;
    }
