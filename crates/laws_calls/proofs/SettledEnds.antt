-- How the waits of calls and resumes begin and end once they have settled, and which of their refusals fail the state.
use Rattle.std.proofs.Common.{◌≡◌, ◌≢◌, inl, inr, ⊎_elim, ◌∷◌, ℕ, List, [], None, refl, sym, ap, subst, ◌∙◌}
use Rattle.shore_types.specs.declared.faults.Fault.{Fault}
use Rattle.shore_types.specs.declared.faults.Fault.TheVariants as fault
use Rattle.shore_types.specs.declared.layout.Geometry.{Geometry}
use Rattle.shore_types.specs.declared.locking.Granule.{Granule}
use Rattle.shore_model.specs.declared.calls.Answer.{Answer}
use Rattle.shore_model.specs.declared.calls.Call.{Call}
use Rattle.shore_model.specs.declared.histories.Entry.{Entry}
use Rattle.shore_model.specs.declared.histories.Opening.{Opening}
use Rattle.shore_model.specs.declared.log_records.LogRecord.{LogRecord}
use Rattle.shore_cycles.specs.declared.victims.Victim.{Victim}
use Rattle.shore_model.specs.declared.rollbacks.Rollback.TheVariants.{Whole}
use Rattle.laws_lives.specs.Sessions.{SessionTxn}
use Rattle.laws_lives.specs.Views.{IsAmong}
use Rattle.shore_model.specs.declared.step.Step.{Step}
use Rattle.shore_model.specs.declared.step.Step.TheVariants.{Done, Nothing, Refused, Waits}
use Rattle.shore_model.specs.declared.step.Wait.{Wait}
use Rattle.shore_model.specs.declared.step.Wait.TheVariants.{Durable, Lock}
use Rattle.laws_calls.proofs.RollingLeaves.{back_table, interrupted_table, savepoint_table}
use Rattle.laws_calls.proofs.SessionEndings.{call_waits, done_leaves, its_own_number, others_wait, refused_resume_waits_no_more, refusing_leaves, resumed_waits_no_more, WaitsForIts}
use Rattle.laws_calls.proofs.SessionFailures.{Fails, call_fails, resume_fails}
use Rattle.laws_calls.proofs.SettledStates.{HasComeTo, is_broken, resume_comes, settles_stays, waiting_call_comes}
use Rattle.laws_calls.proofs.SettledWaits.{IsSpared, entry_there, resume_has_waited, resume_waits}
use Rattle.laws_calls.specs.CallHistories.{txn_of}
use Rattle.laws_calls.specs.CallSteps.{AbortStep, BeginStep, CallStep, CommitStep, CallGoesOn, InnerStep, ResumeStep, ResumesCall, ResumesWait, OutsideStep}
use Rattle.laws_calls.specs.Events.{IsStateAfter}
use Rattle.laws_calls.specs.Settling.{SettledCall, SettledResume, Settles}
use Rattle.laws_calls.specs.States.{DoesNotWait, State, Waiting}
use Rattle.laws_calls.specs.Victims.{TellsVictim, Withdraws}
use Rattle.laws_calls.specs.Prepares.{PrepareStep}
use Rattle.laws_calls.proofs.ResolveLeaves.{none_added, resolve_waiting}
use Rattle.laws_calls.proofs.Outside.{outside_or}

-- an answer or a refusal
abbrev pub IsEnd : Step → Type 0
IsEnd (Done answer) = Unit {0}
IsEnd (Refused f) = Unit {0}
IsEnd (Waits wait) = ⊥
IsEnd Nothing = ⊥

-- the session waits no more once it has an answer or a refusal, and a refusal by a device fails the state
pub record EndsSo (session : ℕ) (step : Step) (new : State) : Type 0 where
  pub idle : IsEnd step → DoesNotWait new session
  pub fails : (f : Fault) → step ≡ Refused f → Fails f new

-- ---- a call

module _ (g : Geometry) (s new : State) where
  begin_leaves : (session : ℕ) (step : Step) → BeginStep s session step new → IsEnd step → new.waiting ≡ s.waiting
  begin_leaves session (Done answer) h end = ap (λ (x : State). x.waiting) h.4
  begin_leaves session (Refused f) h end = ap (λ (x : State). x.waiting) h.1
  begin_leaves session (Waits wait) h end = absurd h
  begin_leaves session Nothing h end = absurd h

  goes_leave : (a : SessionTxn) (c : Call) (step : Step) → CallGoesOn g s a c step new → IsEnd step → new.waiting ≡ s.waiting
  goes_leave a c (Done answer) h end = done_leaves g s a c answer new h
  goes_leave a c (Refused f) h end = refusing_leaves g s a c f new h
  goes_leave a c (Waits wait) h end = absurd end
  goes_leave a c Nothing h end = absurd h

  commit_leaves : (a : SessionTxn) (step : Step) → CommitStep s a step new → IsEnd step → new.waiting ≡ s.waiting
  commit_leaves a (Waits wait) h end = absurd end
  commit_leaves a (Done answer) h end = ap (λ (x : State). x.waiting) h.1
  commit_leaves a (Refused f) h end = absurd h
  commit_leaves a Nothing h end = absurd h

  prepare_leaves : (a : SessionTxn) (global : List ℕ) (step : Step) → PrepareStep g.version s a global step new → IsEnd step → new.waiting ≡ s.waiting
  prepare_leaves a global (Waits wait) h end = absurd end
  prepare_leaves a global (Refused f) h end = ap (λ (x : State). x.waiting) h.1
  prepare_leaves a global (Done answer) h end = absurd h
  prepare_leaves a global Nothing h end = absurd h

  abort_leaves : (a : SessionTxn) (step : Step) → AbortStep s a step new → new.waiting ≡ s.waiting
  abort_leaves a (Done answer) h = ap (λ (x : State). x.waiting) h.1
  abort_leaves a (Refused f) h = (interrupted_table s a Whole f new h).waiting
  abort_leaves a (Waits wait) h = absurd h
  abort_leaves a Nothing h = absurd h

  inner_leaves : (a : SessionTxn) (c : Call) (step : Step) → InnerStep g s a c step new → IsEnd step → new.waiting ≡ s.waiting
  inner_leaves a c step (inl h) end = ap (λ (x : State). x.waiting) h.3
  inner_leaves a c step (inr (inl (whole, inl h))) end = ap (λ (x : State). x.waiting) h.3
  inner_leaves a c step (inr (inl (whole, inr (inl h)))) end = goes_leave a c step h.1 end
  inner_leaves a c step (inr (inl (whole, inr (inr (inl h))))) end = commit_leaves a step h.1 end
  inner_leaves a c step (inr (inl (whole, inr (inr (inr (inl h)))))) end = (savepoint_table s a step new h.1).waiting
  inner_leaves a c step (inr (inl (whole, inr (inr (inr (inr h)))))) end = prepare_leaves a h.0 step h.2 end
  inner_leaves a c step (inr (inr (inl h))) end = (back_table s a h.0 step new h.3).waiting
  inner_leaves a c step (inr (inr (inr h))) end = abort_leaves a step h.1

  outside_leaves : (session : ℕ) (c : Call) (step : Step) → OutsideStep s session c step new → IsEnd step → new.waiting ≡ s.waiting
  outside_leaves session c step h end = ⊎_elim
      (λ same. ap (λ (x : State). x.waiting) same)
      (λ r. none_added s new session r.global r.asked step (λ n is. subst IsEnd is end) (resolve_waiting s session r.global r.asked step new r.to))
      (outside_or s session c step new h)

  pub call_leaves : (session : ℕ) (c : Call) (step : Step) → CallStep g s session c step new → IsEnd step → new.waiting ≡ s.waiting
  call_leaves session c step (inl h) end = ap (λ (x : State). x.waiting) h.1
  call_leaves session c step (inr (inl h)) end = ap (λ (x : State). x.waiting) h.2
  call_leaves session c step (inr (inr (inl h))) end = ap (λ (x : State). x.waiting) h.3
  call_leaves session c step (inr (inr (inr (inl h)))) end = begin_leaves session step h.3 end
  call_leaves session c step (inr (inr (inr (inr (inl h))))) end = ap (λ (x : State). x.waiting) h.5
  call_leaves session c step (inr (inr (inr (inr (inr (inr (inl h))))))) end = ap (λ (x : State). x.waiting) h.5
  call_leaves session c step (inr (inr (inr (inr (inr (inr (inr h))))))) end = outside_leaves session c step h.2 end
  call_leaves session c step (inr (inr (inr (inr (inr (inl h)))))) end = inner_leaves h.2.0 c step h.2.2 end

  -- a call that is not refused is made by a session that does not wait
  pub idle_before : (session : ℕ) (c : Call) (step : Step) → ((f : Fault) → step ≢ Refused f) → CallStep g s session c step new → DoesNotWait s session
  idle_before session c step taken (inl h) = absurd (taken fault.Memory h.0)
  idle_before session c step taken (inr (inl h)) = absurd (taken fault.Failed h.1)
  idle_before session c step taken (inr (inr (inl h))) = absurd (taken fault.Busy h.2)
  idle_before session c step taken (inr (inr (inr (inl h)))) = h.1
  idle_before session c step taken (inr (inr (inr (inr (inl h))))) = h.1
  idle_before session c step taken (inr (inr (inr (inr (inr (inr (inl h))))))) = h.1
  idle_before session c step taken (inr (inr (inr (inr (inr (inr (inr h))))))) = h.1
  idle_before session c step taken (inr (inr (inr (inr (inr (inl h)))))) = h.1

-- ---- rounds

module _ (g : Geometry) (o : Opening) (found : List LogRecord) (es : List Entry) (s : State) (k : IsStateAfter o found es s) (session : ℕ) (new : State) where
  call_ends : (c : Call) (step : Step) → DoesNotWait s session → CallStep g s session c step new → EndsSo session step new
  call_ends c step idle h = record {
    idle = λ end w m. idle w (subst (IsAmong w) (call_leaves g s new session c step h end) m);
    fails = λ f is. call_fails g o found es s k session c f new (subst (λ (x : Step). CallStep g s session c x new) is h);
  }

  resume_ends : (step : Step) → ResumeStep g s session step new → EndsSo session step new
  resume_ends step h = record {
    idle = by step h;
    fails = λ f is. resume_fails g o found es s k session f new (subst (λ (x : Step). ResumeStep g s session x new) is h);
  }
    where
      by : (step : Step) → ResumeStep g s session step new → IsEnd step → DoesNotWait new session
      by (Done answer) h end = resumed_waits_no_more g s new session answer h
      by (Refused f) h end = refused_resume_waits_no_more g s new session f h
      by (Waits wait) h end = absurd end
      by Nothing h end = absurd end

refused_by : (f exact : Fault) (new : State) (step : Step) → step ≡ Refused exact → step ≡ Refused f → Fails exact new → Fails f new
refused_by f exact new step is other fails = subst (λ (x : Fault). Fails x new) (ap fault_of (sym is ∙ other)) fails
  where
    fault_of : Step → Fault
    fault_of (Refused x) = x
    fault_of (Done answer) = exact
    fault_of (Waits wait) = exact
    fault_of Nothing = exact

told_ends : (s : State) (session : ℕ) (step : Step) (new : State) → TellsVictim s session step new → EndsSo session step new
told_ends s session step new h = record {
  idle = λ end. others_wait s new session (ap (λ (x : State). x.waiting) h.is);
  fails = λ f is. refused_by f (fault.Deadlock h.cycle) new step h.told is (inl tt);
}

withdrawn_ends : (s : State) (a : SessionTxn) (session : ℕ) (step : Step) (new : State) → a.session ≡ session → Withdraws s a step new → EndsSo session step new
withdrawn_ends s a session step new its h = record {
  idle = λ end. subst (DoesNotWait new) its (others_wait s new a.session (ap (λ (x : State). x.waiting) h.1));
  fails = λ f is. refused_by f fault.Memory new step h.0 is (inl tt);
}

still_ends : (session : ℕ) (step : Step) (at : Granule) (new : State) → step ≡ Waits (Lock at) → EndsSo session step new
still_ends session step at new is = record {
  idle = λ end. absurd (subst IsEnd is end);
  fails = λ f other. let clash : Waits (Lock at) ≡ Refused f = sym is ∙ other in absurd cc;
}

settles_ends : (g : Geometry) (o : Opening) (found : List LogRecord) (session n : ℕ) (c : Call) (es : List Entry) (s : State) (first : Step) (rounds : List (List Victim)) (step : Step) (new : State)
    → HasComeTo o found session n c es first s → EndsSo session first s → Settles g s session first rounds step new → EndsSo session step new
settles_ends g o found session n c es s first [] step new k ends h = subst (EndsSo session step) (sym h.2) (subst (λ (x : Step). EndsSo session x s) (sym h.1) ends)
settles_ends g o found session n c es s first (vs ∷ rounds) step new k ends h =
    let broken = h.2 in
    let b = is_broken o found session n c es first s k h.0 h.1 broken h.3 h.4 vs h.5 in
    ⊎_elim
    (λ over. ⊎_elim
    (λ still. still_ends session step h.1 new (still.2 ∙ h.4))
    (λ end. ⊎_elim (told_ends broken session step new) (λ back. withdrawn_ends broken h.0 session step new b.its back.1) end)
    over.1)
    (λ goes. settles_ends g o found session n c es goes.1 goes.0 rounds step new
    (resume_comes o found session n c es broken b.stays h.1 b.waits g goes.0 goes.1 goes.3)
    (resume_ends g o found es broken b.stays session goes.1 goes.0 goes.3) goes.4)
    h.6

-- ---- calls and resumes

-- the call of a session waits for this
abbrev pub CallWaits : ℕ → Call → Wait → State → Type 0
CallWaits session c wait new = IsAmong (record { session = session; call = c; wait = wait; cycle = None }) new.waiting

-- a call of the session still waits for this, and its transaction is no victim
abbrev pub WaitsSpared : ℕ → Wait → State → Type 0
WaitsSpared session wait new = (w : Waiting) × IsAmong w new.waiting × (w.session ≡ session) × (w.wait ≡ wait) × (w.cycle ≡ None)

durable_in : (g : Geometry) (s new : State) (w : Waiting) (its : Wait) (n : ℕ) → ResumesWait g s w its (Waits (Durable n)) new → (its ≡ Durable n) × (new ≡ s)
durable_in g s new w (Durable m) n (inl h) = (ap wait_of (sym h.1), h.2)
  where
    wait_of : Step → Wait
    wait_of (Waits wait) = wait
    wait_of (Done answer) = Durable m
    wait_of (Refused f) = Durable m
    wait_of Nothing = Durable m
durable_in g s new w (Durable m) n (inr (inl h)) = let clash = h.1 in absurd cc
durable_in g s new w (Durable m) n (inr (inr h)) = let clash = h.1 in absurd cc
durable_in g s new w (Lock at) n h = ⊎_elim
    (λ still. let clash = still.1 in absurd cc)
    (λ free. let clash = free.1.4 in absurd cc)
    h.2

durable_call : (g : Geometry) (s new : State) (w : Waiting) (n : ℕ) → IsAmong w s.waiting → ResumesCall g s w (Waits (Durable n)) new → WaitsSpared w.session (Durable n) new
durable_call g s new w n m (inl h) = let clash = h.1 in absurd cc
durable_call g s new w n m (inr h) =
    let still = durable_in g s new w w.wait n h.1 in
    subst (WaitsSpared w.session (Durable n)) (sym still.1) (w, m, refl, still.0, h.2)

durable_spared : (g : Geometry) (s new : State) (session n : ℕ) → ResumeStep g s session (Waits (Durable n)) new → WaitsSpared session (Durable n) new
durable_spared g s new session n (inl h) = let clash = h.1 in absurd cc
durable_spared g s new session n (inr h) = subst (λ m. WaitsSpared m (Durable n) new) h.2 (durable_call g s new h.0 n h.1 h.3)

spared_as : (session n : ℕ) (c : Call) (at : Granule) (s : State) → IsSpared session n c at s → WaitsSpared session (Lock at) s
spared_as session n c at s h = (h.waits.waited, h.waits.there, h.waits.of, h.waits.lock, h.none)

module _ (g : Geometry) (o : Opening) (found : List LogRecord) (es : List Entry) (s : State) (k : IsStateAfter o found es s) where
  module _ (session : ℕ) (c : Call) (new : State) where
    -- it waits for a lock first
    settled_on : (step first : Step) (mid : State) → CallStep g s session c first mid → (vs : List Victim) (rounds : List (List Victim)) → Settles g mid session first (vs ∷ rounds) step new
        → HasComeTo o found session (txn_of s.sessions session) c es step new
    settled_on step first mid calls vs rounds h =
        settles_stays o found session (txn_of s.sessions session) c g es mid first (vs ∷ rounds) step new (waiting_call_comes o found es s k g session c first mid h.1 h.4 calls) h

    begins_in : (wait : Wait) (first : Step) (mid : State) → CallStep g s session c first mid → (rounds : List (List Victim)) → Settles g mid session first rounds (Waits wait) new
        → CallWaits session c wait new
    begins_in wait first mid calls [] h =
        subst (CallWaits session c wait) (sym h.2)
        (call_waits g s mid session c wait (subst (λ (x : Step). CallStep g s session c x mid) (sym h.1) calls))
    begins_in (Lock at) first mid calls (vs ∷ rounds) h =
        entry_there session (txn_of s.sessions session) c at new ((settled_on (Waits (Lock at)) first mid calls vs rounds h).waits at refl)
    begins_in (Durable n) first mid calls (vs ∷ rounds) h = absurd ((settled_on (Waits (Durable n)) first mid calls vs rounds h).undecided n refl)

    pub settled_call_waits : (wait : Wait) → SettledCall g s session c (Waits wait) new → CallWaits session c wait new
    settled_call_waits wait h = begins_in wait h.first h.mid h.calls h.rounds h.settles

    number_in : (n : ℕ) (first : Step) (mid : State) → CallStep g s session c first mid → (rounds : List (List Victim)) → Settles g mid session first rounds (Waits (Durable n)) new → WaitsForIts s c n
    number_in n first mid calls [] h = its_own_number g s mid session n c (subst (λ (x : Step). CallStep g s session c x mid) (sym h.1) calls)
    number_in n first mid calls (vs ∷ rounds) h = absurd ((settled_on (Waits (Durable n)) first mid calls vs rounds h).undecided n refl)

    pub settled_number : (n : ℕ) → SettledCall g s session c (Waits (Durable n)) new → WaitsForIts s c n
    settled_number n h = number_in n h.first h.mid h.calls h.rounds h.settles

    ends_in : (step first : Step) (mid : State) → DoesNotWait s session → CallStep g s session c first mid → (rounds : List (List Victim)) → Settles g mid session first rounds step new
        → EndsSo session step new
    ends_in step first mid idle calls [] h =
        subst (EndsSo session step) (sym h.2) (subst (λ (x : Step). EndsSo session x mid) (sym h.1) (call_ends g o found es s k session mid c first idle calls))
    ends_in step first mid idle calls (vs ∷ rounds) h =
        settles_ends g o found session (txn_of s.sessions session) c es mid first (vs ∷ rounds) step new (waiting_call_comes o found es s k g session c first mid h.1 h.4 calls)
        (call_ends g o found es s k session mid c first idle calls) h

    -- the session did not wait, or its call was refused at once
    pub settled_call_ends : (step : Step) → DoesNotWait s session → SettledCall g s session c step new → EndsSo session step new
    settled_call_ends step idle h = ends_in step h.first h.mid idle h.calls h.rounds h.settles

    fails_in : (step first : Step) (mid : State) → CallStep g s session c first mid → (rounds : List (List Victim)) → Settles g mid session first rounds step new
        → (f : Fault) → step ≡ Refused f → Fails f new
    fails_in step first mid calls [] h f is =
        subst (Fails f) (sym h.2) (call_fails g o found es s k session c f mid (subst (λ (x : Step). CallStep g s session c x mid) (sym h.1 ∙ is) calls))
    fails_in step first mid calls (vs ∷ rounds) h f is = (ends_in step first mid idle calls (vs ∷ rounds) h).fails f is
      where
        idle : DoesNotWait s session
        idle = idle_before g s mid session c first (λ x refused. let clash : Waits (Lock h.1) ≡ Refused x = sym h.4 ∙ refused in absurd cc) calls

    pub settled_call_fails : (f : Fault) → SettledCall g s session c (Refused f) new → Fails f new
    settled_call_fails f h = fails_in (Refused f) h.first h.mid h.calls h.rounds h.settles f refl

    pub idle_in : (step first : Step) (mid : State) → ((f : Fault) → step ≢ Refused f) → CallStep g s session c first mid → (rounds : List (List Victim)) → Settles g mid session first rounds step new
        → DoesNotWait s session
    idle_in step first mid taken calls [] h = idle_before g s mid session c first (λ f refused. taken f (h.1 ∙ refused)) calls
    idle_in step first mid taken calls (vs ∷ rounds) h =
        idle_before g s mid session c first (λ f refused. let clash : Waits (Lock h.1) ≡ Refused f = sym h.4 ∙ refused in absurd cc) calls

    pub settled_answered : (answer : Answer) → SettledCall g s session c (Done answer) new → DoesNotWait new session
    settled_answered answer h =
        (settled_call_ends (Done answer) (idle_in (Done answer) h.first h.mid (λ f refused. let clash = refused in absurd cc) h.calls h.rounds h.settles) h).idle tt

  module _ (session : ℕ) (new : State) where
    went_on : (step first : Step) (mid : State) (resumes : ResumeStep g s session first mid) (vs : List Victim) (rounds : List (List Victim)) (h : Settles g mid session first (vs ∷ rounds) step new)
        → HasComeTo o found session (txn_of s.sessions session) (resume_has_waited g s session h.1 first mid h.4 resumes).call es step new
    went_on step first mid resumes vs rounds h =
        let was = resume_has_waited g s session h.1 first mid h.4 resumes in
        settles_stays o found session (txn_of s.sessions session) was.call g es mid first (vs ∷ rounds) step new
        (resume_comes o found session (txn_of s.sessions session) was.call es s k was.at was.waits g first mid resumes) h

    resumed_spared : (wait : Wait) (x : State) → ResumeStep g s session (Waits wait) x → WaitsSpared session wait x
    resumed_spared (Durable n) x h = durable_spared g s x session n h
    resumed_spared (Lock at) x h =
        let was = resume_has_waited g s session at (Waits (Lock at)) x refl h in
        spared_as session (txn_of s.sessions session) was.call at x (resume_waits session (txn_of s.sessions session) was.call was.at g s was.waits k.waits.once (Waits (Lock at)) x h at refl)

    still_in : (wait : Wait) (first : Step) (mid : State) → ResumeStep g s session first mid → (rounds : List (List Victim)) → Settles g mid session first rounds (Waits wait) new
        → WaitsSpared session wait new
    still_in wait first mid resumes [] h =
        subst (WaitsSpared session wait) (sym h.2) (resumed_spared wait mid (subst (λ (x : Step). ResumeStep g s session x mid) (sym h.1) resumes))
    still_in (Lock at) first mid resumes (vs ∷ rounds) h =
        let was = resume_has_waited g s session h.1 first mid h.4 resumes in
        spared_as session (txn_of s.sessions session) was.call at new ((went_on (Waits (Lock at)) first mid resumes vs rounds h).waits at refl)
    still_in (Durable n) first mid resumes (vs ∷ rounds) h = absurd ((went_on (Waits (Durable n)) first mid resumes vs rounds h).undecided n refl)

    pub settled_still_waits : (wait : Wait) → SettledResume g s session (Waits wait) new → WaitsSpared session wait new
    settled_still_waits wait (inl told) = let clash = told.told in absurd cc
    settled_still_waits wait (inr (inl still)) = resumed_spared wait new still.0
    settled_still_waits wait (inr (inr on)) = still_in wait on.first on.mid on.resumes on.rounds on.settles

    resume_ends_in : (step first : Step) (mid : State) → ResumeStep g s session first mid → (rounds : List (List Victim)) → Settles g mid session first rounds step new → EndsSo session step new
    resume_ends_in step first mid resumes [] h =
        subst (EndsSo session step) (sym h.2) (subst (λ (x : Step). EndsSo session x mid) (sym h.1) (resume_ends g o found es s k session mid first resumes))
    resume_ends_in step first mid resumes (vs ∷ rounds) h =
        let was = resume_has_waited g s session h.1 first mid h.4 resumes in
        settles_ends g o found session (txn_of s.sessions session) was.call es mid first (vs ∷ rounds) step new
        (resume_comes o found session (txn_of s.sessions session) was.call es s k was.at was.waits g first mid resumes)
        (resume_ends g o found es s k session mid first resumes) h

    pub settled_resume_ends : (step : Step) → SettledResume g s session step new → EndsSo session step new
    settled_resume_ends step (inl told) = told_ends s session step new told
    settled_resume_ends step (inr (inl still)) = resume_ends g o found es s k session new step still.0
    settled_resume_ends step (inr (inr on)) = resume_ends_in step on.first on.mid on.resumes on.rounds on.settles
