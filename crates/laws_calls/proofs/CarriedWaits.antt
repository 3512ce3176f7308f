-- What the calls that wait stand on stays where a resolve goes on: as it decides, as its rollback ends, and as it is answered.
use Rattle.std.proofs.Common.{◌≡◌, ◌≢◌, ◌⊎◌, inl, inr, ⊎_elim, ◌∷◌, ◌<◌, ℕ, List, false, refl, sym, ap, subst, ◌∙◌}
use Rattle.shore_model.specs.declared.calls.Call.TheVariants as call
use Rattle.shore_model.specs.declared.calls.Outcome.{Outcome}
use Rattle.laws_lives.specs.Sessions.{PreparedTxn, ResolvedTxn, SessionTxn, in_prepared, in_txn}
use Rattle.laws_lives.specs.Views.{IsAmong}
use Rattle.laws_calls.proofs.Elements.{waits_on}
use Rattle.laws_calls.proofs.SessionResumes.{waits_stay}
use Rattle.laws_calls.proofs.LeftWaits.{decision_wait_on}
use Rattle.laws_calls.proofs.SessionsWaiting.{one_more, resolve_less}
use Rattle.laws_calls.specs.CallHistories.{IsPrefix}
use Rattle.laws_calls.specs.CallSteps.{HasEnded}
use Rattle.laws_calls.specs.SessionWaits.{IsDecisionWait, IsLockWait, WaitsOfSessions}
use Rattle.laws_calls.specs.StateChanges.{decision_waiting}
use Rattle.laws_calls.specs.States.{DoesNotWait, HasSeat, State, Waiting, without_waiting}

-- Those who waited stand as they did. Of the resolved transactions that are under way no more, none is new, unless it is this resolve's own.
pub record CarriesWaits (Own : ResolvedTxn → Type 0) (s new : State) : Type 0 where
  pub failed : new.failed ≡ s.failed
  pub doubts : (p : PreparedTxn) → IsAmong p new.sessions.prepared → IsAmong p s.sessions.prepared
  pub doubts_on : (p : PreparedTxn) → IsAmong p s.sessions.prepared → p.answered ≡ false → IsAmong p new.sessions.prepared
  pub doubt_seats : (p : PreparedTxn) (n : ℕ) → IsAmong p new.sessions.prepared → s.sessions.seats n ≡ in_prepared p.txn → new.sessions.seats n ≡ in_prepared p.txn
  pub outside : (n t : ℕ) → 0 < t → new.sessions.seats n ≡ in_txn t → s.sessions.seats n ≡ in_txn t
  pub under_way : (a : SessionTxn) → HasSeat s.sessions a → HasSeat new.sessions a
  pub ending : (r : ResolvedTxn) → HasEnded new.sessions r → HasEnded s.sessions r ⊎ Own r
  pub on : IsPrefix s.log new.log

module _ (base : ℕ) (Own : ResolvedTxn → Type 0) (s new : State) (k : WaitsOfSessions base s) (h : CarriesWaits Own s new) where
  still_prepares : (session t : ℕ) (global : List ℕ) → IsAmong (record { txn = t; global = global; answered = false }) s.sessions.prepared × (s.sessions.seats session ≡ in_prepared t)
      → IsAmong (record { txn = t; global = global; answered = false }) new.sessions.prepared × (new.sessions.seats session ≡ in_prepared t)
  still_prepares session t global p =
      let doubt : PreparedTxn = record { txn = t; global = global; answered = false } in
      let there = h.doubts_on doubt p.0 refl in
      (there, h.doubt_seats doubt session there p.1)

  carried : (w : Waiting) → ((r : ResolvedTxn) → HasEnded s.sessions r → w.call ≡ call.Resolve r.global r.outcome → HasEnded new.sessions r)
      → IsDecisionWait base s w ⊎ IsLockWait s w → IsDecisionWait base new w ⊎ IsLockWait new w
  carried w ended (inl c) =
      inl (decision_wait_on base s new w (λ t global p. still_prepares w.session t global p)
      (λ r was is out. (ended r was is, λ t above e. out t above (h.outside w.session t above e))) h.on c)
  carried w ended (inr l) =
      inr (record { txn = l.txn; active = h.under_way l.txn l.active; of = l.of; whole = l.whole; at = l.at; is = l.is; lock = l.lock; asked = l.asked })

  running : new.failed ≡ false → s.failed ≡ false
  running e = sym h.failed ∙ e

  -- ---- the same calls wait

  pub carried_same : new.waiting ≡ s.waiting → ((r : ResolvedTxn) → HasEnded s.sessions r → HasEnded new.sessions r) → ((r : ResolvedTxn) → HasEnded new.sessions r → Own r → HasEnded s.sessions r)
      → WaitsOfSessions base new
  carried_same same ended own = record {
    each = λ w m. carried w (λ r was is. ended r was) (k.each w (subst (IsAmong w) same m));
    once = λ v w m n is. k.once v w (subst (IsAmong v) same m) (subst (IsAmong w) same n) is;
    prepares = λ runs p m e.
        let was = k.prepares (running runs) p (h.doubts p m) e in
        (was.0, was.1, subst (IsAmong (decision_waiting was.0 (call.Prepare p.global) was.1)) (sym same) was.2, h.doubt_seats p was.0 m was.3);
    resolves = λ runs r now.
        let was = k.resolves (running runs) r (⊎_elim (λ before. before) (own r now) (h.ending r now)) in
        (was.0, was.1, subst (IsAmong (decision_waiting was.0 (call.Resolve r.global r.outcome) was.1)) (sym same) was.2);
    resolve_once = λ v w global x y m n first second. k.resolve_once v w global x y (subst (IsAmong v) same m) (subst (IsAmong w) same n) first second;
  }

  -- ---- the resolve waits too

  module _ (session : ℕ) (own : ResolvedTxn) (n : ℕ) (idle : DoesNotWait s session) where
    abbrev x : Waiting
    x = decision_waiting session (call.Resolve own.global own.outcome) n

    pub carried_own : new.waiting ≡ x ∷ s.waiting → ((r : ResolvedTxn) → HasEnded s.sessions r → HasEnded new.sessions r) → ((r : ResolvedTxn) → Own r → r ≡ own)
        → IsDecisionWait base new x → ((w : Waiting) (y : Outcome) → IsAmong w s.waiting → w.call ≢ call.Resolve own.global y) → WaitsOfSessions base new
    carried_own same ended is_own its free = record {
      each = λ w m. ⊎_elim (λ first. inl (subst (IsDecisionWait base new) first its)) (λ older. carried w (λ r was is. ended r was) (k.each w older)) (now w m);
      once = λ v w m l is. one_more session s v w x refl idle k.once (now v m) (now w l) is;
      prepares = λ runs p m e.
          let was = k.prepares (running runs) p (h.doubts p m) e in
          (was.0, was.1, back (decision_waiting was.0 (call.Prepare p.global) was.1) (inr was.2), h.doubt_seats p was.0 m was.3);
      resolves = λ runs r ends. ⊎_elim
          (λ before. let was = k.resolves (running runs) r before in (was.0, was.1, back (decision_waiting was.0 (call.Resolve r.global r.outcome) was.1) (inr was.2)))
          (λ mine. (session, n, back (decision_waiting session (call.Resolve r.global r.outcome) n) (inl (ap (λ (q : ResolvedTxn). decision_waiting session (call.Resolve q.global q.outcome) n) (sym (is_own r mine))))))
          (h.ending r ends);
      resolve_once = λ v w global y z m l first second. one v w global y z (now v m) (now w l) first second;
    }
      where
        now : (w : Waiting) → IsAmong w new.waiting → IsAmong w (x ∷ s.waiting)
        now w m = subst (IsAmong w) same m

        back : (w : Waiting) → IsAmong w (x ∷ s.waiting) → IsAmong w new.waiting
        back w m = subst (IsAmong w) (sym same) m

        other : (w : Waiting) (global : List ℕ) (y z : Outcome) → IsAmong w s.waiting → x.call ≡ call.Resolve global y → w.call ≢ call.Resolve global z
        other w global y z m first second =
            let name : own.global ≡ global = same_name own.outcome y own.global global first in
            free w z m (subst (λ (g : List ℕ). w.call ≡ call.Resolve g z) (sym name) second)
          where
            same_name : (a b : Outcome) (g e : List ℕ) → call.Resolve g a ≡ call.Resolve e b → g ≡ e
            same_name a b g e is = cc

        one : (v w : Waiting) (global : List ℕ) (y z : Outcome) → IsAmong v (x ∷ s.waiting) → IsAmong w (x ∷ s.waiting) → v.call ≡ call.Resolve global y → w.call ≡ call.Resolve global z → v ≡ w
        one v w global y z (inl d) (inl e) first second = sym d ∙ e
        one v w global y z (inl d) (inr l) first second = absurd (other w global y z l (ap (λ (u : Waiting). u.call) d ∙ first) second)
        one v w global y z (inr m) (inl e) first second = absurd (other v global z y m (ap (λ (u : Waiting). u.call) e ∙ second) first)
        one v w global y z (inr m) (inr l) first second = k.resolve_once v w global y z m l first second

  -- ---- a resolve is answered that waited

  module _ (w : Waiting) (there : IsAmong w s.waiting) (own : ResolvedTxn) (asks : w.call ≡ call.Resolve own.global own.outcome) where
    -- a call that is no such resolve is another session's
    stays : (v : Waiting) → IsAmong v s.waiting → ((v ≡ w) → v.call ≢ w.call) → IsAmong v (without_waiting w.session s.waiting)
    stays v m apart = waits_stay w.session v s.waiting m (λ same. let is = k.once v w m there same in apart is (ap (λ (u : Waiting). u.call) is))

    pub carried_less : new.waiting ≡ without_waiting w.session s.waiting
        → ((r : ResolvedTxn) → HasEnded s.sessions r → (r ≡ own) ⊎ HasEnded new.sessions r)
        → ((r : ResolvedTxn) → HasEnded new.sessions r → HasEnded s.sessions r × (r.global ≢ own.global)) → WaitsOfSessions base new
    carried_less same ended before = record {
      each = λ v m.
          let on = waits_on w.session v s.waiting (now v m) in
          carried v (λ r was is. ⊎_elim
          (λ mine. absurd (on.1 (ap (λ (u : Waiting). u.session) (k.resolve_once v w own.global r.outcome own.outcome on.0 there (is ∙ ap (λ (q : ResolvedTxn). call.Resolve q.global r.outcome) mine) asks))))
          (λ still. still) (ended r was)) (k.each v on.0);
      once = λ u v m n is. k.once u v (waits_on w.session u s.waiting (now u m)).0 (waits_on w.session v s.waiting (now v n)).0 is;
      prepares = λ runs p m e.
          let was = k.prepares (running runs) p (h.doubts p m) e in
          let v = decision_waiting was.0 (call.Prepare p.global) was.1 in
          (was.0, was.1, back v (stays v was.2 (λ is e. let clash : call.Prepare p.global ≡ call.Resolve own.global own.outcome = e ∙ asks in cc)), h.doubt_seats p was.0 m was.3);
      resolves = λ runs r ends.
          let old = before r ends in
          let was = k.resolves (running runs) r old.0 in
          let v = decision_waiting was.0 (call.Resolve r.global r.outcome) was.1 in
          (was.0, was.1, back v (stays v was.2 (λ is e. old.1 (same_name r.outcome own.outcome r.global own.global (e ∙ asks)))));
      resolve_once = λ u v global y z m n first second. resolve_less w.session s.waiting k.resolve_once u v global y z (now u m) (now v n) first second;
    }
      where
        now : (v : Waiting) → IsAmong v new.waiting → IsAmong v (without_waiting w.session s.waiting)
        now v m = subst (IsAmong v) same m

        back : (v : Waiting) → IsAmong v (without_waiting w.session s.waiting) → IsAmong v new.waiting
        back v m = subst (IsAmong v) (sym same) m

        same_name : (a b : Outcome) (g e : List ℕ) → call.Resolve g a ≡ call.Resolve e b → g ≡ e
        same_name a b g e is = cc
