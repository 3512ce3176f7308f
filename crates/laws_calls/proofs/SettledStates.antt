-- What a call and a resume come to as a whole leaves a state after its entries; so does each event, and so do any events.
use Rattle.std.proofs.Common.{◌≡◌, ◌≢◌, inl, inr, ⊎_elim, ◌++◌, ◌∷◌, ℕ, List, [], Some, Ok, Err, true, refl, sym, ap, subst, ◌∙◌, append-nil, append_assoc}
use Rattle.std.specs.Prelude.{Option}
use Rattle.shore_types.specs.declared.faults.Fault.{Fault}
use Rattle.shore_types.specs.declared.faults.Fault.TheVariants as fault
use Rattle.shore_types.specs.declared.layout.Geometry.{Geometry}
use Rattle.shore_types.specs.declared.locking.Granule.{Granule}
use Rattle.shore_model.specs.declared.calls.Call.{Call}
use Rattle.shore_model.specs.declared.histories.Entry.{Entry}
use Rattle.shore_model.specs.declared.histories.Opening.{Opening}
use Rattle.shore_model.specs.declared.histories.Entry.TheVariants.{Exchanged}
use Rattle.shore_model.specs.declared.log_records.LogRecord.{LogRecord}
use Rattle.shore_locks.specs.Grants.{cancelled}
use Rattle.shore_locks.specs.Tables.{is_waiting}
use Rattle.laws_locks.specs.CallLocks.{Asked, lock_asked_by}
use Rattle.shore_cycles.specs.declared.victims.Victim.{Victim}
use Rattle.laws_lives.specs.SessionSteps.{exchange}
use Rattle.laws_lives.specs.Sessions.{SessionTxn}
use Rattle.shore_model.specs.declared.step.Step.{Step}
use Rattle.shore_model.specs.declared.step.Step.TheVariants.{Done, Nothing, Refused, Waits}
use Rattle.shore_model.specs.declared.step.Wait.TheVariants.{Durable, Lock}
use Rattle.laws_calls.proofs.GoingOn.{asking_is_inner}
use Rattle.laws_calls.proofs.LockedAnswers.{inner_under}
use Rattle.laws_calls.proofs.SessionStates.{as_it_was, its_wait, session_call_stays, session_failure_stays, session_force_stays, session_resume_stays, session_ask_stays}
use Rattle.laws_calls.proofs.Sessions.{its_txn}
use Rattle.laws_calls.proofs.SettledWaits.{IsSpared, WaitsAt, call_has_asked, call_waits_at, resume_has_waited, resume_undecided, resume_waits, still_spared, victims_keep_txn, victims_wait}
use Rattle.laws_calls.proofs.VictimSteps.{gives_up_stays, nothing_told, told_stays, victim_stays, withdrawn_stays}
use Rattle.laws_calls.specs.CallHistories.{txn_of, answered_under}
use Rattle.laws_calls.specs.CallSteps.{CallStep, ResumeStep, with_requests}
use Rattle.laws_calls.specs.Events.{Called, Forced, GaveUp, HasFailed, IsStateAfter, ManagerEvent, Resumed, EventMoves, EventsMove, MovesMaking, entries_of, entries_of_resume, entries_of_waiting, TicketAsked}
use Rattle.laws_calls.specs.LockedStates.{entries_of_resumed, entries_of_call}
use Rattle.laws_calls.specs.Settling.{SettledCall, SettledResume, Settles}
use Rattle.laws_calls.specs.StateChanges.{wait_refused, with_durable, with_failure}
use Rattle.laws_calls.specs.States.{IsOfSession, State, Waiting}
use Rattle.laws_calls.specs.Victims.{TakesVictims, TellsVictim, Withdraws}
use Rattle.laws_calls.proofs.Told.{entries_told, asks_decides_nothing}
use Rattle.laws_calls.proofs.ToldEntries.{told_of_call}
use Rattle.laws_calls.proofs.LongerLogs.{call_further, further_then, settles_further}

-- what is added once the call of a session that waited for a lock has ended
abbrev pub ended_entries : ℕ → ℕ → Call → Step → List Entry
ended_entries session n c (Done answer) = Exchanged session n (exchange c (Ok answer)) ∷ []
ended_entries session n c (Refused fault) = Exchanged session n (exchange c (Err fault)) ∷ []
ended_entries session n c (Waits wait) = []
ended_entries session n c Nothing = []

pub victims_stay : (o : Opening) (found : List LogRecord) (es : List Entry) (s : State) → IsStateAfter o found es s → (t : ℕ) (vs : List Victim) (new : State) → TakesVictims s t vs new → IsStateAfter o found es new
victims_stay o found es s k t [] new h = subst (IsStateAfter o found es) (sym h) k
victims_stay o found es s k t (v ∷ vs) new h = victims_stay o found es h.0 (victim_stays o found es s k t v h.0 h.1) t vs new h.2

module _ (o : Opening) (found : List LogRecord) (session n : ℕ) (c : Call) where
  -- the call has come so far: a state is left after the entries, and if it waits for a lock that is the call
  pub record HasComeTo (es : List Entry) (step : Step) (s : State) : Type 0 where
    pub stays : IsStateAfter o found (es ++ ended_entries session n c step) s
    pub waits : (at : Granule) → step ≡ Waits (Lock at) → IsSpared session n c at s
    pub undecided : (m : ℕ) → step ≢ Waits (Durable m)

  -- a resume of the session adds what is added by its end
  -- a call that waits for a lock goes under its transaction's number
  under : (es : List Entry) (s : State) → IsStateAfter o found es s → (at : Granule) (w : WaitsAt session n c at s) → answered_under s.sessions w.waited.session w.waited.call ≡ txn_of s.sessions w.waited.session
  under es s k at w = ⊎_elim
      (λ x. let clash : Lock at ≡ Durable x.number = sym w.lock ∙ ap (λ (v : Waiting). v.wait) x.is in absurd cc)
      (λ x. inner_under s w.waited.session w.waited.call (asking_is_inner w.waited.call x.lock x.asked))
      (k.waits.each w.waited w.there)

  end_entries : (es : List Entry) (s : State) → IsStateAfter o found es s → (at : Granule) (w : WaitsAt session n c at s) (step : Step) → entries_of_resumed s w.waited step ≡ ended_entries session n c step
  end_entries es s k at w (Done answer) =
      ap (λ t. Exchanged w.waited.session t (exchange w.waited.call (Ok answer)) ∷ []) (under es s k at w)
      ∙ ap (λ m. Exchanged m (txn_of s.sessions m) (exchange w.waited.call (Ok answer)) ∷ []) w.of
      ∙ ap (λ t. Exchanged session t (exchange w.waited.call (Ok answer)) ∷ []) w.number
      ∙ ap (λ (x : Call). Exchanged session n (exchange x (Ok answer)) ∷ []) w.its
  end_entries es s k at w (Refused fault) =
      ap (λ m. Exchanged m (txn_of s.sessions m) (exchange w.waited.call (Err fault)) ∷ []) w.of
      ∙ ap (λ t. Exchanged session t (exchange w.waited.call (Err fault)) ∷ []) w.number
      ∙ ap (λ (x : Call). Exchanged session n (exchange x (Err fault)) ∷ []) w.its
  end_entries es s k at w (Waits wait) = refl
  end_entries es s k at w Nothing = refl

  module _ (es : List Entry) (s : State) (k : IsStateAfter o found es s) (at : Granule) (w : WaitsAt session n c at s) where
    pub resume_entries : (step : Step) → entries_of_resume s session step ≡ ended_entries session n c step
    resume_entries step =
        ap (λ (x : Option Waiting). entries_of_waiting s x step) (its_wait session s.waiting w.waited k.waits.once w.there w.of) ∙ end_entries es s k at w step

    as_ended : (step : Step) (new : State) → IsStateAfter o found (es ++ entries_of_resume s session step) new → IsStateAfter o found (es ++ ended_entries session n c step) new
    as_ended step new h = subst (λ made. IsStateAfter o found (es ++ made) new) (resume_entries step) h

  -- it waits on
  still_comes : (es : List Entry) (s : State) → IsStateAfter o found es s → (at : Granule) → IsSpared session n c at s → HasComeTo es (Waits (Lock at)) s
  still_comes es s k at w = record {
    stays = subst (λ made. IsStateAfter o found made s) (sym (append-nil es)) k;
    waits = λ there is. subst (λ (x : Granule). IsSpared session n c x s) (ap granule_of is) w;
    undecided = λ m is. let clash = is in absurd cc;
  }
    where
      granule_of : Step → Granule
      granule_of (Waits (Lock x)) = x
      granule_of (Waits (Durable m)) = at
      granule_of (Done answer) = at
      granule_of (Refused f) = at
      granule_of Nothing = at

  -- it is refused
  refused_comes : (es : List Entry) (step : Step) (f : Fault) (s : State) → step ≡ Refused f → IsStateAfter o found (es ++ ended_entries session n c step) s → HasComeTo es step s
  refused_comes es step f s is k = record {
    stays = k;
    waits = λ at waits. let clash : Refused f ≡ Waits (Lock at) = sym is ∙ waits in absurd cc;
    undecided = λ m waits. let clash : Refused f ≡ Waits (Durable m) = sym is ∙ waits in absurd cc;
  }

  module _ (es : List Entry) (s : State) (k : IsStateAfter o found es s) (at : Granule) (w : WaitsAt session n c at s) where
    pub resume_comes : (g : Geometry) (step : Step) (new : State) → ResumeStep g s session step new → HasComeTo es step new
    resume_comes g step new h = record {
      stays = as_ended es s k at w step new (session_resume_stays o found es s k g session step new h);
      waits = resume_waits session n c at g s w k.waits.once step new h;
      undecided = resume_undecided session n c at g s w k.waits.once step new h;
    }

    told_comes : (step : Step) (new : State) → TellsVictim s session step new → HasComeTo es step new
    told_comes step new h = refused_comes es step (fault.Deadlock h.cycle) new h.told (as_ended es s k at w step new (told_stays o found es s k session step new h))

    -- the transaction that is told is the one whose request is taken back
    pub its_withdraws : (a b : SessionTxn) → a.session ≡ session → a.txn ≡ n → IsOfSession s session b → (step : Step) (new : State) → Withdraws s a step new → Withdraws s b step new
    its_withdraws a b its txn of step new h =
        let number : a.txn ≡ b.txn = txn ∙ sym w.number ∙ its_txn s.sessions b session of.0.1 of.1 in (
          h.0,
          h.1 ∙ ap (λ m. with_requests (wait_refused s m) (cancelled a.txn s.locks.requests)) (its ∙ sym of.1)
              ∙ ap (λ t. with_requests (wait_refused s b.session) (cancelled t s.locks.requests)) number,
        )

    withdrawn_comes : (b : SessionTxn) → IsOfSession s session b → (step : Step) (new : State) → Withdraws s b step new → HasComeTo es step new
    withdrawn_comes b of step new h =
        refused_comes es step fault.Memory new h.0 (as_ended es s k at w step new (withdrawn_stays o found es s k b session of w.waited w.there w.of at w.lock step new h))

  -- the victims leave a state in which the call waits on, for its transaction
  pub record IsBroken (es : List Entry) (s : State) (a : SessionTxn) (at : Granule) (broken : State) : Type 0 where
    pub before : IsStateAfter o found es s
    pub stays : IsStateAfter o found es broken
    pub waits : WaitsAt session n c at broken
    pub its : a.session ≡ session
    pub number : a.txn ≡ n
    pub txn : SessionTxn
    pub of : IsOfSession broken session txn
    pub txn_number : txn.txn ≡ n

  pub is_broken : (es : List Entry) (first : Step) (s : State) → HasComeTo es first s → (a : SessionTxn) (at : Granule) (broken : State) → IsOfSession s session a → first ≡ Waits (Lock at)
      → (vs : List Victim) → TakesVictims s a.txn vs broken → IsBroken es s a at broken
  is_broken es first s k a at broken of is vs h =
      let waits = (k.waits at is).waits in
      let plain = subst (λ made. IsStateAfter o found made s) (append-nil es) (subst (λ (x : Step). IsStateAfter o found (es ++ ended_entries session n c x) s) is k.stays) in
      let kept = victims_stay o found es s plain a.txn vs broken h in
      let on = victims_wait session n c at s a.txn vs broken h waits in
      let b = victims_keep_txn session s a.txn vs broken h a of in
      record {
        before = plain;
        stays = kept;
        waits = on;
        its = of.1;
        number = sym (its_txn s.sessions a session of.0.1 of.1) ∙ waits.number;
        txn = b.0;
        of = b.1;
        txn_number = sym (its_txn broken.sessions b.0 session b.1.0.1 b.1.1) ∙ on.number;
      }

  -- if its request still waits, it is none of the victims
  spared_in : (es : List Entry) (s : State) (a : SessionTxn) (at : Granule) (broken : State) → IsBroken es s a at broken → is_waiting a.txn broken.locks.requests ≡ true
      → IsSpared session n c at broken
  spared_in es s a at broken b waits =
      still_spared o found es broken b.stays session n c at b.waits b.txn b.of b.txn_number (subst (λ t. is_waiting t broken.locks.requests ≡ true) b.number waits)

  -- it goes on, or the victims have ended it
  pub settles_stays : (g : Geometry) (es : List Entry) (s : State) (first : Step) (rounds : List (List Victim)) (step : Step) (new : State) → HasComeTo es first s
      → Settles g s session first rounds step new → HasComeTo es step new
  settles_stays g es s first [] step new k h = subst (HasComeTo es step) (sym h.2) (subst (λ (x : Step). HasComeTo es x s) (sym h.1) k)
  settles_stays g es s first (vs ∷ rounds) step new k h =
      let broken = h.2 in
      let b = is_broken es first s k h.0 h.1 broken h.3 h.4 vs h.5 in
      ⊎_elim
      (λ ends. ⊎_elim
      (λ still. subst (HasComeTo es step) (sym still.3) (subst (λ (x : Step). HasComeTo es x broken) (sym (still.2 ∙ h.4)) (still_comes es broken b.stays h.1 (spared_in es s h.0 h.1 broken b still.0))))
      (λ end. ⊎_elim
      (told_comes es broken b.stays h.1 b.waits step new)
      (λ back. withdrawn_comes es broken b.stays h.1 b.waits b.txn b.of step new (its_withdraws es broken b.stays h.1 b.waits h.0 b.txn b.its b.number b.of step new back.1))
      end)
      ends.1)
      (λ goes. settles_stays g es goes.1 goes.0 rounds step new (resume_comes es broken b.stays h.1 b.waits g goes.0 goes.1 goes.3) goes.4)
      h.6

-- ---- calls and resumes

-- a call that waits for a lock adds nothing
pub adds_nothing : (s mid : State) (session : ℕ) (c : Call) (x : Step) (at : Granule) → x ≡ Waits (Lock at) → entries_of_call s session c x mid ≡ ended_entries session (txn_of s.sessions session) c x
adds_nothing s mid session c x at same = ap (λ (y : Step). entries_of_call s session c y mid) same ∙ ap (ended_entries session (txn_of s.sessions session) c) (sym same)

-- the call of a transaction that was under way has the number of it
pub call_entries : (s : State) (session : ℕ) (c : Call) (lock : Asked) → lock_asked_by c ≡ Some lock → (step : Step) → ((m : ℕ) → step ≢ Waits (Durable m))
    → ended_entries session (txn_of s.sessions session) c step ≡ entries_told s session c step
call_entries s session c lock asked (Done answer) undecided =
    ap (λ t. Exchanged session t (exchange c (Ok answer)) ∷ []) (sym (inner_under s session c (asking_is_inner c lock asked)))
    ∙ ap (λ ds. ds ++ Exchanged session (answered_under s.sessions session c) (exchange c (Ok answer)) ∷ []) (sym (asks_decides_nothing (txn_of s.sessions session) c lock asked))
call_entries s session c lock asked (Refused fault) undecided = refl
call_entries s session c lock asked (Waits (Lock at)) undecided = refl
call_entries s session c lock asked (Waits (Durable m)) undecided = absurd (undecided m refl)
call_entries s session c lock asked Nothing undecided = refl

module _ (o : Opening) (found : List LogRecord) (es : List Entry) (s : State) (k : IsStateAfter o found es s) where
  -- it waits for a lock first
  pub waiting_call_comes : (g : Geometry) (session : ℕ) (c : Call) (first : Step) (mid : State) (at : Granule) → first ≡ Waits (Lock at) → CallStep g s session c first mid
      → HasComeTo o found session (txn_of s.sessions session) c es first mid
  waiting_call_comes g session c first mid at is h = record {
    stays = subst (λ made. IsStateAfter o found (es ++ made) mid) (adds_nothing s mid session c first at is) (session_call_stays o found es s k g session c first mid h);
    waits = call_waits_at g s session c first mid h;
    undecided = λ m other. let clash : Waits (Lock at) ≡ Waits (Durable m) = sym is ∙ other in absurd cc;
  }

  settled_in : (g : Geometry) (session : ℕ) (c : Call) (step : Step) (new : State) (first : Step) (mid : State) → CallStep g s session c first mid → (rounds : List (List Victim))
      → Settles g mid session first rounds step new → IsStateAfter o found (es ++ entries_of_call s session c step new) new
  settled_in g session c step new first mid calls [] h =
      subst (λ (x : State). IsStateAfter o found (es ++ entries_of_call s session c step x) x) (sym h.2)
      (subst (λ (x : Step). IsStateAfter o found (es ++ entries_of_call s session c x mid) mid) (sym h.1) (session_call_stays o found es s k g session c first mid calls))
  settled_in g session c step new first mid calls (vs ∷ rounds) h =
      let asked = call_has_asked g s session c h.1 first mid h.4 calls in
      let come = settles_stays o found session (txn_of s.sessions session) c g es mid first (vs ∷ rounds) step new (waiting_call_comes g session c first mid h.1 h.4 calls) h in
      let told = subst (λ made. IsStateAfter o found (es ++ made) new) (call_entries s session c asked.lock asked.asked step come.undecided) come.stays in
      subst (λ made. IsStateAfter o found (es ++ made) new)
      (told_of_call o found es s new session c step k.sessions told.sessions
      (further_then s mid new (call_further g s session c first mid calls) (settles_further g mid session first (vs ∷ rounds) step new h)).on) told

  pub settled_call_stays : (g : Geometry) (session : ℕ) (c : Call) (step : Step) (new : State) → SettledCall g s session c step new
      → IsStateAfter o found (es ++ entries_of_call s session c step new) new
  settled_call_stays g session c step new h = settled_in g session c step new h.first h.mid h.calls h.rounds h.settles

  went_on_in : (g : Geometry) (session : ℕ) (step : Step) (new : State) (first : Step) (mid : State) → ResumeStep g s session first mid → (rounds : List (List Victim))
      → Settles g mid session first rounds step new → IsStateAfter o found (es ++ entries_of_resume s session step) new
  went_on_in g session step new first mid resumes [] h =
      subst (IsStateAfter o found (es ++ entries_of_resume s session step)) (sym h.2)
      (subst (λ (x : Step). IsStateAfter o found (es ++ entries_of_resume s session x) mid) (sym h.1) (session_resume_stays o found es s k g session first mid resumes))
  went_on_in g session step new first mid resumes (vs ∷ rounds) h =
      let was = resume_has_waited g s session h.1 first mid h.4 resumes in
      let come = settles_stays o found session (txn_of s.sessions session) was.call g es mid first (vs ∷ rounds) step new
      (resume_comes o found session (txn_of s.sessions session) was.call es s k was.at was.waits g first mid resumes) h in
      subst (λ made. IsStateAfter o found (es ++ made) new) (sym (resume_entries o found session (txn_of s.sessions session) was.call es s k was.at was.waits step)) come.stays

  pub settled_resume_stays : (g : Geometry) (session : ℕ) (step : Step) (new : State) → SettledResume g s session step new
      → IsStateAfter o found (es ++ entries_of_resume s session step) new
  settled_resume_stays g session step new (inl told) = told_stays o found es s k session step new told
  settled_resume_stays g session step new (inr (inl still)) = session_resume_stays o found es s k g session step new still.0
  settled_resume_stays g session step new (inr (inr on)) = went_on_in g session step new on.first on.mid on.resumes on.rounds on.settles

-- ---- any event, and events one after another

pub session_event_stays : (g : Geometry) (o : Opening) (found : List LogRecord) (es : List Entry) (s new : State) (e : ManagerEvent) → IsStateAfter o found es s
    → EventMoves g s e new → IsStateAfter o found (es ++ entries_of s e new) new
session_event_stays g o found es s new (Called session c step) k h = settled_call_stays o found es s k g session c step new h.1
session_event_stays g o found es s new (Resumed session step) k h = settled_resume_stays o found es s k g session step new h
session_event_stays g o found es s new (GaveUp session step) k (inl h) = gives_up_stays o found es s k session step new h
session_event_stays g o found es s new (GaveUp session step) k (inr h) =
    let nothing : [] ≡ entries_of_resume s session step = sym (nothing_told s session) ∙ ap (entries_of_resume s session) (sym h.told) in
    subst (λ made. IsStateAfter o found (es ++ made) new) nothing (subst (IsStateAfter o found (es ++ [])) (sym h.is) (as_it_was o found es s k))
session_event_stays g o found es s new (Forced n) k h =
    subst (IsStateAfter o found (es ++ [])) (sym h.2) (as_it_was o found es (with_durable n s) (session_force_stays o found es s k n h.0 h.1))
session_event_stays g o found es s new HasFailed k h = subst (IsStateAfter o found (es ++ [])) (sym h) (as_it_was o found es (with_failure s) (session_failure_stays o found es s k))
session_event_stays g o found es s new (TicketAsked ticket answer) k h =
    subst (IsStateAfter o found _) (sym h.1) (session_ask_stays o found es s k ticket answer h.0)

pub session_events_stay : (g : Geometry) (o : Opening) (found : List LogRecord) (es : List Entry) (s : State) (events : List ManagerEvent) (last : State) (made : List Entry)
    → IsStateAfter o found es s → MovesMaking g s events last made → IsStateAfter o found (es ++ made) last
session_events_stay g o found es s [] last made k h =
    subst (IsStateAfter o found (es ++ made)) (sym h.0) (subst (λ made. IsStateAfter o found (es ++ made) s) (sym h.1) (as_it_was o found es s k))
session_events_stay g o found es s (e ∷ events) last made k h =
    subst (λ made. IsStateAfter o found made last) (append_assoc es (entries_of s e h.0) h.1 ∙ ap (λ more. es ++ more) (sym h.4))
    (session_events_stay g o found (es ++ entries_of s e h.0) h.0 events last h.1 (session_event_stays g o found es s h.0 e k h.2) h.3)

-- ---- events make entries

pub session_events_make : (g : Geometry) (s : State) (events : List ManagerEvent) (last : State) → EventsMove g s events last
    → (made : List Entry) × MovesMaking g s events last made
session_events_make g s [] last h = ([], (h, refl))
session_events_make g s (e ∷ events) last h =
    let later = session_events_make g h.0 events last h.2 in
    (entries_of s e h.0 ++ later.0, (h.0, later.0, h.1, later.1, refl))

pub session_entries_come : (g : Geometry) (s : State) (events : List ManagerEvent) (last : State) (made : List Entry) → MovesMaking g s events last made
    → EventsMove g s events last
session_entries_come g s [] last made h = h.0
session_entries_come g s (e ∷ events) last made h = (h.0, h.2, session_entries_come g h.0 events last h.1 h.3)
