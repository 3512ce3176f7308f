-- What a call and a resume as a whole come to without a victim of their own is what the call comes to in the state in which it asks last.
use Rattle.std.proofs.Common.{◌≡◌, ◌⊎◌, inl, inr, ⊎_elim, ℕ, List, [], false, Some, None, refl, sym, ap, subst, ◌∙◌}
use Rattle.std.specs.Prelude.{IsTrue}
use Rattle.shore_types.specs.declared.faults.Fault.{Fault}
use Rattle.shore_types.specs.declared.faults.Fault.TheVariants as fault
use Rattle.shore_types.specs.declared.layout.Geometry.{Geometry}
use Rattle.shore_types.specs.declared.locking.Granule.{Granule}
use Rattle.shore_model.specs.declared.calls.Call.{Call}
use Rattle.shore_model.specs.declared.histories.Entry.{Entry}
use Rattle.shore_model.specs.declared.histories.Opening.{Opening}
use Rattle.shore_model.specs.declared.log_records.LogRecord.{LogRecord}
use Rattle.shore_model.specs.declared.step.Step.{Step}
use Rattle.shore_model.specs.declared.step.Step.TheVariants.{Refused, Waits}
use Rattle.shore_model.specs.declared.step.Wait.{Wait}
use Rattle.shore_model.specs.declared.step.Wait.TheVariants.{Durable, Lock}
use Rattle.shore_locks.specs.Tables.{is_waiting}
use Rattle.laws_lives.specs.Sessions.{SessionTxn}
use Rattle.laws_lives.specs.Views.{IsAmong}
use Rattle.laws_calls.proofs.Decided.{both_ways}
use Rattle.laws_calls.proofs.Midway.{CallCameTo, CameTo, IsPaused, kept_midway, midway_paused, settled_call_to, settled_resume_to}
use Rattle.laws_calls.proofs.SessionInversions.{same_fault, waits_on_lock}
use Rattle.laws_calls.proofs.SessionResumes.{woken}
use Rattle.laws_calls.proofs.Sessions.{its_txn}
use Rattle.laws_calls.proofs.SettledWaits.{HasWaited, resumes_its}
use Rattle.laws_calls.proofs.WrongResumes.{goes_on_as_call}
use Rattle.laws_calls.specs.CallHistories.{txn_of}
use Rattle.laws_calls.specs.CallSteps.{CallStep, MayAsk, ResumeStep, ResumesCall, ResumesWait}
use Rattle.laws_calls.specs.Events.{IsStateAfter}
use Rattle.laws_calls.specs.LockedStates.{IsSessionsState}
use Rattle.laws_calls.specs.Midway.{AsksAgainIn, AsksIn, EndsFrom, Interlude, Intervene, IsCutShort, IsMidway, StaysWaiting}
use Rattle.laws_calls.specs.Settling.{SettledCall, SettledResume, WaitsForNoLock}
use Rattle.laws_calls.specs.Shapes.{ForItsTxn, LockWaitsMayAsk}
use Rattle.laws_calls.specs.StateChanges.{wait_refused}
use Rattle.laws_calls.specs.States.{IsOfSession, State, Waiting}
use Rattle.laws_calls.specs.Victims.{TellsVictim}

-- ---- a call that waited, and goes on

module _ (g : Geometry) (o : Opening) (found : List LogRecord) (es : List Entry) (session n : ℕ) (c : Call) (x : State) (p : IsPaused g o found es session n c x) (may : MayAsk g c) where
  -- it goes on only if its request waits no more
  quiet_in : (step : Step) (new : State) → WaitsForNoLock step → ResumesWait g x p.waits.waited (Lock p.at) step new → (a : SessionTxn) × IsOfSession x session a × (is_waiting a.txn x.locks.requests ≡ false)
  quiet_in step new free h = ⊎_elim
      (λ still. absurd (subst WaitsForNoLock still.1 free))
      (λ goes. (h.0, (h.1.0, h.1.1 ∙ p.waits.of), goes.0))
      h.2

  quiet_txn : (step : Step) (new : State) → WaitsForNoLock step → ResumeStep g x session step new → (a : SessionTxn) × IsOfSession x session a × (is_waiting a.txn x.locks.requests ≡ false)
  quiet_txn step new free h = ⊎_elim
      (λ failed. absurd (both_ways x.failed failed.0 p.waits.running))
      (λ runs. quiet_in step new free (subst (λ (w : Wait). ResumesWait g x p.waits.waited w step new) p.waits.lock runs.1))
      (resumes_its session n c p.at g x p.waits p.stays.waits.once step new h)

  goes_quiet : (step : Step) (new : State) → WaitsForNoLock step → ResumeStep g x session step new → ForItsTxn x session (λ a. is_waiting a.txn x.locks.requests ≡ false)
  goes_quiet step new free h a of =
      let one = quiet_txn step new free h in
      let same : one.0.txn ≡ a.txn = sym (its_txn x.sessions one.0 session one.1.0.1 one.1.1) ∙ its_txn x.sessions a session of.0.1 of.1 in
      subst (λ t. is_waiting t x.locks.requests ≡ false) same one.2

  -- the state in which it asks
  pub goes_from : (step : Step) (new : State) → WaitsForNoLock step → ResumeStep g x session step new → IsSessionsState o found es (wait_refused x session)
  goes_from step new free h = let one = quiet_txn step new free h in woken g o found es x p.stays.sessions one.0 session one.1 one.2

  pub goes_as_call : (step : Step) (new : State) → WaitsForNoLock step → ResumeStep g x session step new → CallStep g (wait_refused x session) session c step new
  goes_as_call step new free h =
      subst (λ (d : Call). CallStep g (wait_refused x session) session d step new) p.waits.its
      (goes_on_as_call g o found es x p.stays session p.waits.waited p.waits.there p.waits.of p.at p.waits.lock (subst (MayAsk g) (sym p.waits.its) may) p.waits.running (goes_quiet step new free h) step new h)

-- who waits for a lock was not to be refused before it asked
pub waits_may : (g : Geometry) (s new : State) (session : ℕ) (c : Call) (at : Granule) → CallStep g s session c (Waits (Lock at)) new → MayAsk g c
waits_may g s new session c at h = (waits_on_lock g s new session c at h).may

-- ---- a call

module _ (g : Geometry) (o : Opening) (found : List LogRecord) (es : List Entry) (s : State) (k : IsStateAfter o found es s) (session : ℕ) (c : Call) where
  -- it came to what it comes to in the state in which it asked last
  pub record AskedLast (step : Step) (new : State) : Type 0 where
    pub last : State
    pub asks : AsksIn g s session c last
    pub stays : IsSessionsState o found es last
    pub calls : CallStep g last session c step new

  -- it waits on, or is stopped there
  pub record StoppedAt (step : Step) (new : State) : Type 0 where
    pub between : List Interlude
    pub from : State
    pub midway : IsMidway g s session c between from
    pub paused : IsPaused g o found es session (txn_of s.sessions session) c from
    pub ends : StaysWaiting from session step new ⊎ IsCutShort from session step new

  pub call_asked_last : (step : Step) (new : State) → SettledCall g s session c step new → AskedLast step new ⊎ StoppedAt step new
  call_asked_last step new h = ⊎_elim
      (λ once. inl (record { last = s; asks = inl refl; stays = k.sessions; calls = once.1 }))
      (λ came. by came came.ends)
      (settled_call_to g s session c step new h)
    where
      by : (came : CallCameTo g s session c step new) → EndsFrom g came.from session step new → AskedLast step new ⊎ StoppedAt step new
      by came (inl still) = inr (record { between = came.between; from = came.from; midway = came.midway; paused = midway_paused g o found es s k session c came.between came.from came.midway; ends = inl still })
      by came (inr (inl stopped)) =
          inr (record { between = came.between; from = came.from; midway = came.midway; paused = midway_paused g o found es s k session c came.between came.from came.midway; ends = inr stopped })
      by came (inr (inr goes)) =
          let p = midway_paused g o found es s k session c came.between came.from came.midway in
          let m = came.midway in
          inl (record {
            last = wait_refused came.from session;
            asks = inr (came.between, came.from, m, refl);
            stays = goes_from g o found es session (txn_of s.sessions session) c came.from p (waits_may g s m.waits session c m.at m.calls) step new goes.0 goes.1;
            calls = goes_as_call g o found es session (txn_of s.sessions session) c came.from p (waits_may g s m.waits session c m.at m.calls) step new goes.0 goes.1;
          })

-- ---- a resume

module _ (g : Geometry) (o : Opening) (found : List LogRecord) (es : List Entry) (s : State) (k : IsStateAfter o found es s) (may : LockWaitsMayAsk g s) (session : ℕ) where
  -- A call of the session waited. A device had failed; or it is stopped there; or it came to what it comes to in the state in which it asked last.
  abbrev pub IsRefusedSo : Waiting → Fault → State → Type 0
  IsRefusedSo w f new =
      (IsTrue s.failed × (f ≡ fault.Failed))
      ⊎ (((between : List Interlude) × (from : State) × Intervene g session s between from × IsPaused g o found es session (txn_of s.sessions session) w.call s × IsCutShort from session (Refused f) new)
      ⊎ ((last : State) × AsksAgainIn g s session last × IsSessionsState o found es last × CallStep g last session w.call (Refused f) new))

  pub record RefusedResume (f : Fault) (new : State) : Type 0 where
    pub waited : Waiting
    pub there : IsAmong waited s.waiting
    pub of : waited.session ≡ session
    pub so : IsRefusedSo waited f new

  module _ (f : Fault) (new : State) where
    -- it goes on from there
    from_paused : (at : Granule) (w : Waiting) (there : IsAmong w s.waiting) (lock : w.wait ≡ Lock at) (between : List Interlude) (x : State) → Intervene g session s between x
        → IsPaused g o found es session (txn_of s.sessions session) w.call x → ResumeStep g x session (Refused f) new → IsRefusedSo w f new
    from_paused at w there lock between x way p h = inr (inr (
      wait_refused x session,
      (between, x, way, refl),
      goes_from g o found es session (txn_of s.sessions session) w.call x p (may w there at lock) (Refused f) new tt h,
      goes_as_call g o found es session (txn_of s.sessions session) w.call x p (may w there at lock) (Refused f) new tt h,
    ))

    -- no commit that waits is refused
    waits_for_lock : (w : Waiting) (wait : Wait) → ResumesWait g s w wait (Refused f) new → (at : Granule) × (wait ≡ Lock at)
    waits_for_lock w (Durable n) (inl h) = let clash = h.1 in absurd cc
    waits_for_lock w (Durable n) (inr (inl h)) = let clash = h.1 in absurd cc
    waits_for_lock w (Durable n) (inr (inr h)) = let clash = h.1 in absurd cc
    waits_for_lock w (Lock at) h = (at, refl)

    at_once : (w : Waiting) → IsAmong w s.waiting → w.session ≡ session → ResumeStep g s session (Refused f) new → ResumesCall g s w (Refused f) new → RefusedResume f new
    at_once w there of step (inl failed) = record { waited = w; there = there; of = of; so = inl (failed.0, same_fault f fault.Failed failed.1) }
    at_once w there of step (inr runs) =
        let lock = waits_for_lock w w.wait runs.1 in
        record {
          waited = w;
          there = there;
          of = of;
          so = from_paused lock.0 w there lock.1 [] s refl
              (record { stays = k; at = lock.0; waits = record { waited = w; there = there; of = of; its = refl; lock = lock.1; number = refl; running = runs.0 } })
              step;
        }

    by_step : ResumeStep g s session (Refused f) new → RefusedResume f new
    by_step (inl none) = let clash = none.1 in absurd cc
    by_step (inr h) = at_once h.0 h.1 h.2 (inr h) h.3

    by_told : TellsVictim s session (Refused f) new → RefusedResume f new
    by_told h = ⊎_elim
        (λ commits. let clash : None ≡ Some h.cycle = sym (ap (λ (x : Waiting). x.cycle) commits.is) ∙ h.victim in absurd cc)
        (λ locks. record {
          waited = h.waited;
          there = h.there;
          of = h.of;
          so = inr (inl (
            [],
            s,
            refl,
            record { stays = k; at = locks.at; waits = record { waited = h.waited; there = h.there; of = h.of; its = refl; lock = locks.is; number = refl; running = h.running } },
            inl h,
          ));
        })
        (k.waits.each h.waited h.there)

    by_way : (was : HasWaited s session) (came : CameTo g session s (Refused f) new) → EndsFrom g came.from session (Refused f) new → RefusedResume f new
    by_way was came ends =
        let w = was.waits.waited in
        let first : IsPaused g o found es session (txn_of s.sessions session) w.call s = record {
          stays = k;
          at = was.at;
          waits = record { waited = w; there = was.waits.there; of = was.waits.of; its = refl; lock = was.waits.lock; number = refl; running = was.waits.running };
        } in
        let p = kept_midway g o found es session (txn_of s.sessions session) w.call (λ y. Unit {0}) (λ y later e q t i. tt) s came.between came.from first tt came.intervene in
        record {
          waited = w;
          there = was.waits.there;
          of = was.waits.of;
          so = ⊎_elim
              (λ still. let clash = still.step_is in absurd cc)
              (λ over. ⊎_elim
              (λ stopped. inr (inl (came.between, came.from, came.intervene, first, stopped)))
              (λ goes. from_paused was.at w was.waits.there was.waits.lock came.between came.from came.intervene p.0 goes.1)
              over)
              ends;
        }

    pub resume_refused_so : SettledResume g s session (Refused f) new → RefusedResume f new
    resume_refused_so h = ⊎_elim by_step (λ rest. ⊎_elim by_told (λ on. by_way on.0 on.1 on.1.ends) rest) (settled_resume_to g s session (Refused f) new h)
