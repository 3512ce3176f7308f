-- Rounds of waits and of victims that let a lock through: each leaves a state after the same entries, in which the transaction is as it was. So a call that goes
-- on behind them is one that came to its first wait and settled.
use Rattle.std.proofs.Common.{◌≡◌, ◌≢◌, inl, inr, ◌∷◌, ℕ, List, [], Bool, true, false, cond, None, Some, Ok, Err, refl, sym, ap, subst, ◌∙◌, append-nil}
use Rattle.std.specs.Prelude.{◌==◌, ◌||◌}
use Rattle.std.proofs.lemmas.Bool.{eqb-false, eqb-true}
use Rattle.shore_types.specs.declared.faults.Fault.{Fault}
use Rattle.shore_types.specs.declared.layout.Geometry.{Geometry}
use Rattle.shore_types.specs.declared.locking.Granule.{Granule}
use Rattle.shore_model.specs.declared.calls.Call.{Call}
use Rattle.shore_model.specs.declared.histories.Entry.{Entry}
use Rattle.shore_model.specs.declared.histories.Opening.{Opening}
use Rattle.shore_model.specs.declared.log_records.LogRecord.{LogRecord}
use Rattle.shore_locks.specs.Tables.{is_waiting}
use Rattle.shore_path.specs.declared.answers.Acquired.TheVariants as acquire
use Rattle.shore_cycles.specs.Blockers.{is_victim}
use Rattle.shore_cycles.specs.declared.victims.Victim.{Victim}
use Rattle.laws_locks.specs.CallLocks.{Asked, lock_asked_by}
use Rattle.laws_lives.specs.Sessions.{SessionTxn}
use Rattle.laws_lives.specs.UndoLists.{undo_rolled}
use Rattle.shore_model.specs.declared.rollbacks.Rollback.TheVariants.{Whole}
use Rattle.laws_lives.specs.Views.{IsAmong}
use Rattle.shore_model.specs.declared.step.Step.{Step}
use Rattle.shore_model.specs.declared.step.Step.TheVariants.{Refused, Waits}
use Rattle.shore_model.specs.declared.step.Wait.TheVariants.{Lock}
use Rattle.laws_calls.proofs.Elements.{waits_on}
use Rattle.laws_calls.proofs.SessionResumes.{woken}
use Rattle.laws_calls.proofs.SessionStates.{session_call_stays}
use Rattle.laws_calls.proofs.Sessions.{one_txn}
use Rattle.laws_calls.proofs.SessionsWaiting.{woken_waits, no_record_awaited}
use Rattle.laws_calls.proofs.SettledStates.{victims_stay}
use Rattle.laws_calls.proofs.Unwinding.{other_list}
use Rattle.laws_calls.proofs.VictimSteps.{victim_stays, victim_seat}
use Rattle.laws_calls.specs.CallSteps.{CallGoesOn, HasLocked, MayAsk, lock_outcome, lock_waiting}
use Rattle.laws_calls.specs.Events.{IsStateAfter}
use Rattle.laws_calls.specs.LockRounds.{EndsLock, EndsWell, IsBroken, LetThrough, LocksTo, waits_at}
use Rattle.laws_calls.specs.Settling.{GoesSettled, WaitsForNoLock}
use Rattle.laws_calls.specs.StateChanges.{wait_refused}
use Rattle.laws_calls.specs.States.{DoesNotWait, HasSeat, State, Waiting}
use Rattle.laws_calls.specs.Victims.{TakesVictims, with_cycle}

-- ---- a transaction that is no victim

-- another session's call is to be told a cycle
pub other_told : (session : ℕ) (cycle : List ℕ) (w : Waiting) (ws : List Waiting) → w.session ≢ session → IsAmong w ws → IsAmong w (with_cycle session cycle ws)
other_told session cycle w [] other there = absurd there
other_told session cycle w (x ∷ ws) other there = by (x.session == session) refl there (λ later. other_told session cycle w ws other later)
  where
    by : (b : Bool) → (x.session == session) ≡ b → IsAmong w (x ∷ ws) → (IsAmong w ws → IsAmong w (with_cycle session cycle ws))
        → IsAmong w (cond b (record { session = x.session; call = x.call; wait = x.wait; cycle = Some cycle }) x ∷ with_cycle session cycle ws)
    by b e (inr later) rest = inr (rest later)
    by true e (inl same) rest = absurd (other (ap (λ (y : Waiting). y.session) (sym same) ∙ eqb-true x.session session e))
    by false e (inl same) rest = inl same

not_first : (v : Victim) (vs : List Victim) (t : ℕ) → is_victim (v ∷ vs) t ≡ false → (v.txn == t) ≡ false
not_first v vs t none = by (v.txn == t) refl
  where
    by : (b : Bool) → (v.txn == t) ≡ b → b ≡ false
    by true e = let clash : true ≡ false = sym (ap (λ b. b || is_victim vs t) e) ∙ none in absurd cc
    by false e = refl

not_later : (v : Victim) (vs : List Victim) (t : ℕ) → is_victim (v ∷ vs) t ≡ false → is_victim vs t ≡ false
not_later v vs t none = sym (ap (λ b. b || is_victim vs t) (not_first v vs t none)) ∙ none

module _ (o : Opening) (found : List LogRecord) (es : List Entry) where
  -- a transaction under way that is none of them is as it was, and so is its call that waits
  pub record IsPassedOver (a : SessionTxn) (w : Waiting) (new : State) : Type 0 where
    pub active : HasSeat new.sessions a
    pub waits : IsAmong w new.waiting
    pub failed : new.failed ≡ false

  pub spared : (vs : List Victim) (s : State) (t : ℕ) (new : State) → IsStateAfter o found es s → TakesVictims s t vs new → (a : SessionTxn) (w : Waiting) → w.session ≡ a.session
      → is_victim vs a.txn ≡ false → IsPassedOver a w s → IsPassedOver a w new
  spared [] s t new k h a w of none was = subst (IsPassedOver a w) (sym h) was
  spared (v ∷ vs) s t new k h a w of none was =
      spared vs h.0 t new (victim_stays o found es s k t v h.0 h.1) h.2 a w of (not_later v vs a.txn none) (subst (IsPassedOver a w) (sym h.1.is) (record {
        active = (other_list b.txn (undo_rolled b.undo b.undo.images Whole) a s.sessions.active was.active.0 apart, was.active.1, was.active.2);
        waits = other_told b.session v.cycle w s.waiting (λ same. apart (one_txn s.sessions a b was.active.1 (victim_seat o found es s k t v h.0 h.1).1 (sym of ∙ same))) was.waits;
        failed = was.failed;
      }))
    where
      b : SessionTxn
      b = h.1.txn

      apart : a.txn ≢ b.txn
      apart same = eqb-false v.txn a.txn (not_first v vs a.txn none) (sym h.1.number ∙ sym same)

pub same_failed : (vs : List Victim) (s : State) (t : ℕ) (new : State) → TakesVictims s t vs new → new.failed ≡ s.failed
same_failed [] s t new h = ap (λ (x : State). x.failed) h
same_failed (v ∷ vs) s t new h = same_failed vs h.0 t new h.2 ∙ ap (λ (x : State). x.failed) h.1.is

-- ---- rounds

-- the transaction of a session asks for a lock: it is under way, waits for nothing, and no device has failed
pub record MayLock (o : Opening) (found : List LogRecord) (es : List Entry) (a : SessionTxn) (s : State) : Type 0 where
  pub after : IsStateAfter o found es s
  pub active : HasSeat s.sessions a
  pub idle : DoesNotWait s a.session
  pub running : s.failed ≡ false

module _ (g : Geometry) (o : Opening) (found : List LogRecord) (es : List Entry) (a : SessionTxn) (c : Call) (lock : Asked) (asks : lock_asked_by c ≡ Some lock) (may : MayAsk g c) (whole : a.undo.rolling ≡ None) where
  -- its wait leaves a state after the same entries
  waits_stay : (s : State) → MayLock o found es a s → (at : Granule) → (lock_outcome s a c lock).answer ≡ Ok (acquire.Waiting at) → IsStateAfter o found es (waits_at s a c lock at)
  waits_stay s k at waits =
      subst (λ (made : List Entry). IsStateAfter o found made (waits_at s a c lock at)) (append-nil es)
      (session_call_stays o found es s k.after g a.session c (Waits (Lock at)) (waits_at s a c lock at)
      (inr (inr (inr (inr (inr (inl (k.running, k.idle, (a, (k.active, refl), inr (inl (whole, inr (inl (may, (lock, at, asks, waits, refl, refl))))))))))))))

  -- so do victims that let it through, and the end of its wait
  pub round_stays : (s : State) → MayLock o found es a s → (at : Granule) (vs : List Victim) (broken : State) → IsBroken s a c lock at vs broken → is_victim vs a.txn ≡ false
      → IsStateAfter o found es broken × IsPassedOver o found es a (lock_waiting a c at) broken
  round_stays s k at vs broken h none =
      let after = waits_stay s k at h.waits in (
        victims_stay o found es (waits_at s a c lock at) after a.txn vs broken h.victims,
        spared o found es vs (waits_at s a c lock at) a.txn broken after h.victims a (lock_waiting a c at) refl none (record { active = k.active; waits = inl refl; failed = k.running }),
      )

  pub woken_after : (s : State) → IsStateAfter o found es s → HasSeat s.sessions a → is_waiting a.txn s.locks.requests ≡ false → s.failed ≡ false → MayLock o found es a (wait_refused s a.session)
  woken_after s k mem quiet running = record {
    after = record {
      sessions = woken g o found es s k.sessions a a.session (mem, refl) quiet;
      waits = woken_waits o found es s k.sessions k.waits a.session (λ works. no_record_awaited o found es s k.sessions k.waits a mem);
      forced = record { least = k.forced.least; most = k.forced.most; acknowledged_kept = k.forced.acknowledged_kept; tickets = k.forced.tickets };
      few = k.few;
    };
    active = mem;
    idle = λ w m. (waits_on a.session w s.waiting m).1;
    running = running;
  }

  pub let_through_stays : (rounds : List (List Victim)) (s later : State) → MayLock o found es a s → LetThrough s a c lock rounds later → MayLock o found es a later
  let_through_stays [] s later k h = subst (MayLock o found es a) (sym h) k
  let_through_stays (vs ∷ rounds) s later k h =
      let on = round_stays s k h.0 vs h.1 h.2 h.3 in
      let_through_stays rounds (wait_refused h.1 a.session) later (woken_after h.1 on.0 on.1.active h.4 on.1.failed) h.5

  -- ---- a call that goes on behind its rounds has settled

  pub settles_through : (rounds : List (List Victim)) (s later : State) → MayLock o found es a s → LetThrough s a c lock rounds later → (step : Step) (new : State)
      → GoesSettled g later a c step new → GoesSettled g s a c step new
  settles_through [] s later k h step new goes = subst (λ (x : State). GoesSettled g x a c step new) h goes
  settles_through (vs ∷ rounds) s later k h step new goes =
      let on = round_stays s k h.0 vs h.1 h.2 h.3 in
      let woken = woken_after h.1 on.0 on.1.active h.4 on.1.failed in
      let rest = settles_through rounds (wait_refused h.1 a.session) later woken h.5 step new goes in
      record {
        first = Waits (Lock h.0);
        mid = waits_at s a c lock h.0;
        rounds = vs ∷ rest.rounds;
        goes = (lock, h.0, asks, h.2.waits, refl, refl);
        settles = (
          a,
          h.0,
          h.1,
          (k.active, refl),
          refl,
          h.2.victims,
          inr (
            rest.first,
            rest.mid,
            h.4,
            inr (lock_waiting a c h.0, on.1.waits, refl, inr (on.1.failed, (a, (on.1.active, refl), inr (h.4, rest.goes)), refl)),
            rest.settles,
          ),
        );
      }

  -- ---- the end

  at_once : (s : State) (step : Step) (new : State) → WaitsForNoLock step → CallGoesOn g s a c step new → GoesSettled g s a c step new
  at_once s step new none goes = record { first = step; mid = new; rounds = []; goes = goes; settles = (none, refl, refl) }

  waits_on_end : (s : State) → MayLock o found es a s → (at : Granule) (new : State) → EndsWell s a c lock (acquire.Waiting at) new
      → GoesSettled g s a c (Waits (Lock at)) (record new { waiting = lock_waiting a c at ∷ new.waiting })
  waits_on_end s k at new h =
      subst (GoesSettled g s a c (Waits (Lock at))) h.6 (record {
        first = Waits (Lock at);
        mid = waits_at s a c lock at;
        rounds = h.0 ∷ [];
        goes = (lock, at, asks, h.2.waits, refl, refl);
        settles = (a, at, h.1, (k.active, refl), refl, h.2.victims, inl (refl, inl (h.4, h.5, refl, refl)));
      })

  refused_end : (s : State) → MayLock o found es a s → (f : Fault) (new : State) → EndsLock s a c lock (Err f) new → GoesSettled g s a c (Refused f) new
  refused_end s k f new (inl h) = at_once s (Refused f) new tt (inr (inl (lock, asks, h.0, h.1)))
  refused_end s k f new (inr (inl h)) = record {
    first = Waits (Lock h.0);
    mid = waits_at s a c lock h.0;
    rounds = h.1 ∷ [];
    goes = (lock, h.0, asks, h.3.waits, refl, refl);
    settles = (
      a,
      h.0,
      h.2,
      (k.active, refl),
      refl,
      h.3.victims,
      inl (
        refl,
        inr (inl (record {
          running = same_failed h.1 (waits_at s a c lock h.0) a.txn h.2 h.3.victims ∙ k.running;
          waited = record (lock_waiting a c h.0) { cycle = Some h.4 };
          there = h.6;
          of = refl;
          cycle = h.4;
          victim = refl;
          told = ap (λ (x : Fault). Refused x) h.5;
          is = h.7;
        })),
      ),
    );
  }
  refused_end s k f new (inr (inr h)) = record {
    first = Waits (Lock h.0);
    mid = waits_at s a c lock h.0;
    rounds = [] ∷ [];
    goes = (lock, h.0, asks, h.1, refl, refl);
    settles = (a, h.0, waits_at s a c lock h.0, (k.active, refl), refl, refl, inl (refl, inr (inr (refl, (ap (λ (x : Fault). Refused x) h.2, h.3)))));
  }

  -- ---- the lock as a whole

  module _ (s : State) (k : MayLock o found es a s) where
    -- it has the lock, and what comes behind it does not wait for one
    pub lock_done : (new : State) → LocksTo s a c lock (Ok acquire.Done) new → (step : Step) (last : State) → WaitsForNoLock step
        → ((locked : State) → HasLocked locked a c new → CallGoesOn g locked a c step last) → GoesSettled g s a c step last
    lock_done new h step last none goes =
        settles_through h.rounds s h.later k h.go step last (at_once h.later step last none (goes h.later (lock, asks, h.ends.0, h.ends.1)))

    pub lock_waits : (at : Granule) (new : State) → LocksTo s a c lock (Ok (acquire.Waiting at)) new
        → GoesSettled g s a c (Waits (Lock at)) (record new { waiting = lock_waiting a c at ∷ new.waiting })
    lock_waits at new h =
        settles_through h.rounds s h.later k h.go (Waits (Lock at)) _ (waits_on_end h.later (let_through_stays h.rounds s h.later k h.go) at new h.ends)

    pub lock_refused : (f : Fault) (new : State) → LocksTo s a c lock (Err f) new → GoesSettled g s a c (Refused f) new
    lock_refused f new h =
        settles_through h.rounds s h.later k h.go (Refused f) new (refused_end h.later (let_through_stays h.rounds s h.later k h.go) f new h.ends)
