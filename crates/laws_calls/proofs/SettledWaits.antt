-- A call that waits for a lock waits on while victims are taken, and after a resume that waits anew.
use Rattle.std.proofs.Common.{◌≡◌, ◌≢◌, inl, inr, ⊎_elim, ℕ, List, [], ◌∷◌, Bool, true, false, cond, None, Some, refl, sym, ap, subst, ◌∙◌}
use Rattle.std.proofs.lemmas.Bool.{cases_Bool, eqb-false, eqb-true}
use Rattle.std.specs.Prelude.{◌==◌, Option}
use Rattle.shore_types.specs.declared.layout.Geometry.{Geometry}
use Rattle.shore_types.specs.declared.locking.Granule.{Granule}
use Rattle.shore_model.specs.declared.calls.Call.{Call}
use Rattle.shore_model.specs.declared.histories.Entry.{Entry}
use Rattle.shore_model.specs.declared.histories.Opening.{Opening}
use Rattle.shore_model.specs.declared.log_records.LogRecord.{LogRecord}
use Rattle.shore_locks.specs.Tables.{is_waiting}
use Rattle.laws_locks.specs.CallLocks.{Asked, lock_asked_by}
use Rattle.shore_cycles.specs.declared.victims.Victim.{Victim}
use Rattle.laws_lives.specs.Sessions.{SessionTxn, with_undo, Sessions}
use Rattle.laws_lives.specs.UndoLists.{UndoList, undo_rolled}
use Rattle.laws_lives.specs.Views.{IsAmong}
use Rattle.shore_model.specs.declared.step.Step.{Step}
use Rattle.shore_model.specs.declared.step.Step.TheVariants.{Done, Nothing, Refused, Waits}
use Rattle.shore_model.specs.declared.step.Wait.{Wait}
use Rattle.shore_model.specs.declared.step.Wait.TheVariants.{Durable, Lock}
use Rattle.laws_calls.proofs.SessionEndings.{call_waits}
use Rattle.laws_calls.specs.CallHistories.{txn_of}
use Rattle.laws_calls.specs.CallSteps.{CallStep, InnerStep, ResumeStep, ResumesCall, ResumesWait, lock_waiting}
use Rattle.laws_calls.specs.Events.{IsStateAfter}
use Rattle.laws_calls.specs.States.{IsOfSession, State, Waiting, HasSeat}
use Rattle.laws_calls.specs.Victims.{TakesVictim, TakesVictims, with_cycle}
use Rattle.laws_calls.proofs.Unwinding.{its_list, other_list, with_list}
use Rattle.shore_model.specs.declared.rollbacks.Rollback.TheVariants.{Whole}
use Rattle.laws_calls.proofs.Outside.{outside_no_lock}

-- the call of a session, whose transaction has this number, waits for a lock
pub record WaitsAt (session n : ℕ) (c : Call) (at : Granule) (s : State) : Type 0 where
  pub waited : Waiting
  pub there : IsAmong waited s.waiting
  pub of : waited.session ≡ session
  pub its : waited.call ≡ c
  pub lock : waited.wait ≡ Lock at
  pub number : txn_of s.sessions session ≡ n
  pub running : s.failed ≡ false

-- .. and its transaction is no victim
pub record IsSpared (session n : ℕ) (c : Call) (at : Granule) (s : State) : Type 0 where
  pub waits : WaitsAt session n c at s
  pub none : waits.waited.cycle ≡ None

-- its entry among the calls that wait
pub entry_there : (session n : ℕ) (c : Call) (at : Granule) (s : State) → IsSpared session n c at s → IsAmong (record { session = session; call = c; wait = Lock at; cycle = None }) s.waiting
entry_there session n c at s h =
    let w = h.waits.waited in
    subst (λ (v : Waiting). IsAmong v s.waiting)
    (ap (λ m. record { session = m; call = w.call; wait = w.wait; cycle = w.cycle }) h.waits.of
    ∙ ap (λ (x : Call). record { session = session; call = x; wait = w.wait; cycle = w.cycle }) h.waits.its
    ∙ ap (λ (x : Wait). record { session = session; call = c; wait = x; cycle = w.cycle }) h.waits.lock
    ∙ ap (λ (x : Option (List ℕ)). record { session = session; call = c; wait = Lock at; cycle = x }) h.none)
    h.waits.there

-- whose request still waits is no victim
pub still_spared : (o : Opening) (found : List LogRecord) (es : List Entry) (s : State) → IsStateAfter o found es s → (session n : ℕ) (c : Call) (at : Granule) → WaitsAt session n c at s
    → (a : SessionTxn) → IsOfSession s session a → a.txn ≡ n → is_waiting n s.locks.requests ≡ true → IsSpared session n c at s
still_spared o found es s k session n c at w a of its waits = by w.waited.cycle refl
  where
    by : (o : Option (List ℕ)) → w.waited.cycle ≡ o → IsSpared session n c at s
    by None is = record { waits = w; none = is }
    by (Some cycle) is =
        let quiet : is_waiting a.txn s.locks.requests ≡ false =
        k.sessions.locks.waits w.running a of.0.0
        (λ v m none same.
        let one : v ≡ w.waited = k.waits.once v w.waited m w.there (same ∙ of.1 ∙ sym w.of) in
        let clash : Some cycle ≡ None = sym is ∙ (ap (λ (x : Waiting). x.cycle) (sym one) ∙ none) in
        absurd cc) in
        let clash : true ≡ false = sym waits ∙ (ap (λ t. is_waiting t s.locks.requests) (sym its) ∙ quiet) in
        absurd cc

-- ---- victims

-- each call waits on, but for its cycle
record StillWaits (w : Waiting) (ws : List Waiting) : Type 0 where
  now : Waiting
  there : IsAmong now ws
  of : now.session ≡ w.session
  its : now.call ≡ w.call
  wait : now.wait ≡ w.wait

still_later : (w x : Waiting) (ws : List Waiting) → StillWaits w ws → StillWaits w (x ∷ ws)
still_later w x ws h = record { now = h.now; there = inr h.there; of = h.of; its = h.its; wait = h.wait }

cycle_stays : (session : ℕ) (cycle : List ℕ) (w : Waiting) (ws : List Waiting) → IsAmong w ws → StillWaits w (with_cycle session cycle ws)
cycle_stays session cycle w [] there = absurd there
cycle_stays session cycle w (x ∷ ws) (inl same) = subst (λ (w : Waiting). StillWaits w (with_cycle session cycle (x ∷ ws))) same (by (x.session == session))
  where
    by : (b : Bool) → StillWaits x (cond b (record { session = x.session; call = x.call; wait = x.wait; cycle = Some cycle }) x ∷ with_cycle session cycle ws)
    by true = record { now = record { session = x.session; call = x.call; wait = x.wait; cycle = Some cycle }; there = inl refl; of = refl; its = refl; wait = refl }
    by false = record { now = x; there = inl refl; of = refl; its = refl; wait = refl }
cycle_stays session cycle w (x ∷ ws) (inr later) = still_later w _ (with_cycle session cycle ws) (cycle_stays session cycle w ws later)

-- with another undo list in the place of one a session has its transaction still
still_seated : (t : ℕ) (undo : UndoList) (s : Sessions) (a : SessionTxn) → HasSeat s a → (b : SessionTxn) × HasSeat (record s { active = with_undo t undo s.active }) b × (b.session ≡ a.session)
still_seated t undo s a m = ⊎_elim
    (λ own. (with_list a undo, (subst (λ n. IsAmong (with_list a undo) (with_undo n undo s.active)) (eqb-true a.txn t own) (its_list a undo s.active m.0), m.1, m.2), refl))
    (λ other. (a, (other_list t undo a s.active m.0 (eqb-false a.txn t other), m.1, m.2), refl))
    (cases_Bool (a.txn == t))

-- a session stays in its transaction
pub victims_keep_txn : (session : ℕ) (s : State) (t : ℕ) (vs : List Victim) (new : State) → TakesVictims s t vs new → (a : SessionTxn) → IsOfSession s session a
    → (b : SessionTxn) × IsOfSession new session b
victims_keep_txn session s t [] new h a of = (a, subst (λ (x : State). IsOfSession x session a) (sym h) of)
victims_keep_txn session s t (v ∷ vs) new h a of =
    let b = still_seated h.1.txn.txn (undo_rolled h.1.txn.undo h.1.txn.undo.images Whole) s.sessions a of.0 in
    victims_keep_txn session h.0 t vs new h.2 b.0 (subst (λ (x : State). IsOfSession x session b.0) (sym h.1.is) (b.1, b.2 ∙ of.1))

module _ (session n : ℕ) (c : Call) (at : Granule) where
  victim_waits : (s : State) (t : ℕ) (v : Victim) (new : State) → TakesVictim s t v new → WaitsAt session n c at s → WaitsAt session n c at new
  victim_waits s t v new h w =
      let still = cycle_stays h.txn.session v.cycle w.waited s.waiting w.there in
      subst (WaitsAt session n c at) (sym h.is)
      (record {
        waited = still.now;
        there = still.there;
        of = still.of ∙ w.of;
        its = still.its ∙ w.its;
        lock = still.wait ∙ w.lock;
        number = w.number;
        running = w.running;
      })

  pub victims_wait : (s : State) (t : ℕ) (vs : List Victim) (new : State) → TakesVictims s t vs new → WaitsAt session n c at s → WaitsAt session n c at new
  victims_wait s t [] new h w = subst (WaitsAt session n c at) (sym h) w
  victims_wait s t (v ∷ vs) new h w = victims_wait h.0 t vs new h.2 (victim_waits s t v h.0 h.1 w)

  -- ---- a resume

  abbrev wait_of : Step → Wait
  wait_of (Waits wait) = wait
  wait_of (Done answer) = Lock at
  wait_of (Refused f) = Lock at
  wait_of Nothing = Lock at

  abbrev WaitsAnew : Wait → State → Type 0
  WaitsAnew wait new = (there : Granule) × (wait ≡ Lock there) × IsSpared session n c there new

  module _ (g : Geometry) (s : State) (w : WaitsAt session n c at s) (once : (v w : Waiting) → IsAmong v s.waiting → IsAmong w s.waiting → v.session ≡ w.session → v ≡ w) where
    wait_anew : w.waited.cycle ≡ None → (wait : Wait) (new : State) → ResumesWait g s w.waited (Lock at) (Waits wait) new → WaitsAnew wait new
    wait_anew none wait new h = ⊎_elim
        (λ still. (at, ap wait_of still.1, subst (IsSpared session n c at) (sym still.2) (record { waits = w; none = none })))
        (λ free.
        let on = free.1 in (
          on.1,
          on.4,
          subst (IsSpared session n c on.1) (sym on.5)
              (record {
                waits = record { waited = lock_waiting h.0 w.waited.call on.1; there = inl refl; of = h.1.1 ∙ w.of; its = w.its; lock = refl; number = w.number; running = w.running };
                none = refl;
              }),
        ))
        h.2

    -- it is the call that goes on
    pub resumes_its : (step : Step) (new : State) → ResumeStep g s session step new → ResumesCall g s w.waited step new
    resumes_its step new (inl h) = absurd (h.0 w.waited w.there w.of)
    resumes_its step new (inr h) = subst (λ (v : Waiting). ResumesCall g s v step new) (once h.0 w.waited h.1 w.there (h.2 ∙ sym w.of)) h.3

    resumed_anew : (wait : Wait) (new : State) → ResumesCall g s w.waited (Waits wait) new → WaitsAnew wait new
    resumed_anew wait new (inl h) = let clash = h.1 in absurd cc
    resumed_anew wait new (inr h) = wait_anew h.2 wait new (subst (λ (x : Wait). ResumesWait g s w.waited x (Waits wait) new) w.lock h.1)

    waits_anew : (step : Step) (new : State) → ResumeStep g s session step new → (wait : Wait) → step ≡ Waits wait → WaitsAnew wait new
    waits_anew step new h wait is = resumed_anew wait new (subst (λ (x : Step). ResumesCall g s w.waited x new) is (resumes_its step new h))

    pub resume_waits : (step : Step) (new : State) → ResumeStep g s session step new → (there : Granule) → step ≡ Waits (Lock there) → IsSpared session n c there new
    resume_waits step new h there is =
        let anew = waits_anew step new h (Lock there) is in
        subst (λ (x : Granule). IsSpared session n c x new) (sym (ap granule_of anew.1)) anew.2
      where
        granule_of : Wait → Granule
        granule_of (Lock x) = x
        granule_of (Durable m) = there

    pub resume_undecided : (step : Step) (new : State) → ResumeStep g s session step new → (m : ℕ) → step ≢ Waits (Durable m)
    resume_undecided step new h m is = let anew = waits_anew step new h (Durable m) is in let clash = anew.1 in absurd cc

-- ---- the first step

-- a call that waits for a lock asks for one, and leaves its session in the transaction that it was in
pub record HasAsked (s : State) (session : ℕ) (c : Call) (new : State) : Type 0 where
  pub lock : Asked
  pub asked : lock_asked_by c ≡ Some lock
  pub number : txn_of new.sessions session ≡ txn_of s.sessions session
  pub running : new.failed ≡ false

inner_asked : (g : Geometry) (s : State) (session : ℕ) (c : Call) (at : Granule) (new : State) (a : SessionTxn) → s.failed ≡ false → InnerStep g s a c (Waits (Lock at)) new → HasAsked s session c new
inner_asked g s session c at new a running (inl h) = let clash = h.2 in absurd cc
inner_asked g s session c at new a running (inr (inl (whole, inl h))) = let clash = h.2 in absurd cc
inner_asked g s session c at new a running (inr (inl (whole, inr (inl h)))) =
    subst (HasAsked s session c) (sym h.1.5) (record { lock = h.1.0; asked = h.1.2; number = refl; running = running })
inner_asked g s session c at new a running (inr (inl (whole, inr (inr (inl h))))) = absurd h.1
inner_asked g s session c at new a running (inr (inl (whole, inr (inr (inr (inl h)))))) = absurd h.1
inner_asked g s session c at new a running (inr (inl (whole, inr (inr (inr (inr h)))))) = let clash = h.2.3 in absurd cc
inner_asked g s session c at new a running (inr (inr (inl h))) = absurd h.3
inner_asked g s session c at new a running (inr (inr (inr h))) = absurd h.1

call_asked : (g : Geometry) (s : State) (session : ℕ) (c : Call) (at : Granule) (new : State) → CallStep g s session c (Waits (Lock at)) new → HasAsked s session c new
call_asked g s session c at new (inl h) = let clash = h.0 in absurd cc
call_asked g s session c at new (inr (inl h)) = let clash = h.1 in absurd cc
call_asked g s session c at new (inr (inr (inl h))) = let clash = h.2 in absurd cc
call_asked g s session c at new (inr (inr (inr (inl h)))) = absurd h.3
call_asked g s session c at new (inr (inr (inr (inr (inl h))))) = let clash = h.4 in absurd cc
call_asked g s session c at new (inr (inr (inr (inr (inr (inr (inl h))))))) = let clash = h.4 in absurd cc
call_asked g s session c at new (inr (inr (inr (inr (inr (inr (inr h))))))) = absurd (outside_no_lock s session c at new h.2)
call_asked g s session c at new (inr (inr (inr (inr (inr (inl h)))))) = inner_asked g s session c at new h.2.0 h.0 h.2.2

pub call_has_asked : (g : Geometry) (s : State) (session : ℕ) (c : Call) (at : Granule) (step : Step) (new : State) → step ≡ Waits (Lock at) → CallStep g s session c step new → HasAsked s session c new
call_has_asked g s session c at step new is h = call_asked g s session c at new (subst (λ (x : Step). CallStep g s session c x new) is h)

pub call_waits_at : (g : Geometry) (s : State) (session : ℕ) (c : Call) (step : Step) (new : State) → CallStep g s session c step new → (at : Granule) → step ≡ Waits (Lock at)
    → IsSpared session (txn_of s.sessions session) c at new
call_waits_at g s session c step new h at is =
    let asked = call_has_asked g s session c at step new is h in
    record {
      waits = record {
        waited = record { session = session; call = c; wait = Lock at; cycle = None };
        there = call_waits g s new session c (Lock at) (subst (λ (x : Step). CallStep g s session c x new) is h);
        of = refl;
        its = refl;
        lock = refl;
        number = asked.number;
        running = asked.running;
      };
      none = refl;
    }

-- whose resume waits for a lock waited for one
lock_waited : (g : Geometry) (s : State) (w : Waiting) (its : Wait) (at : Granule) (new : State) → ResumesWait g s w its (Waits (Lock at)) new → (there : Granule) × (its ≡ Lock there)
lock_waited g s w (Durable n) at new (inl h) = let clash = h.1 in absurd cc
lock_waited g s w (Durable n) at new (inr (inl h)) = let clash = h.1 in absurd cc
lock_waited g s w (Durable n) at new (inr (inr h)) = let clash = h.1 in absurd cc
lock_waited g s w (Lock there) at new h = (there, refl)

resumed_waited : (g : Geometry) (s : State) (w : Waiting) (at : Granule) (new : State) → ResumesCall g s w (Waits (Lock at)) new → (there : Granule) × (w.wait ≡ Lock there) × (s.failed ≡ false)
resumed_waited g s w at new (inl h) = let clash = h.1 in absurd cc
resumed_waited g s w at new (inr h) = let lock = lock_waited g s w w.wait at new h.1 in (lock.0, lock.1, h.0)

pub record HasWaited (s : State) (session : ℕ) : Type 0 where
  pub call : Call
  pub at : Granule
  pub waits : WaitsAt session (txn_of s.sessions session) call at s

its_waited : (g : Geometry) (s : State) (session : ℕ) (at : Granule) (new : State) → ResumeStep g s session (Waits (Lock at)) new → HasWaited s session
its_waited g s session at new (inl h) = let clash = h.1 in absurd cc
its_waited g s session at new (inr h) =
    let lock = resumed_waited g s h.0 at new h.3 in
    record { call = h.0.call; at = lock.0; waits = record { waited = h.0; there = h.1; of = h.2; its = refl; lock = lock.1; number = refl; running = lock.2 } }

pub resume_has_waited : (g : Geometry) (s : State) (session : ℕ) (at : Granule) (step : Step) (new : State) → step ≡ Waits (Lock at) → ResumeStep g s session step new → HasWaited s session
resume_has_waited g s session at step new is h = its_waited g s session at new (subst (λ (x : Step). ResumeStep g s session x new) is h)
