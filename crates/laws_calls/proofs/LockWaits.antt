-- What holds of a call that begins to wait holds of each call that waits, whatever happens: as that a call which waits for a lock was not to be refused
-- before it asked.
use Rattle.std.proofs.Common.{◌≡◌, inl, inr, ⊎_elim, ℕ, List, [], ◌∷◌, Bool, true, false, Some, refl, sym, ap, subst, cond}
use Rattle.shore_model.specs.declared.histories.Opening.{Opening}
use Rattle.std.specs.Prelude.{◌==◌, not}
use Rattle.shore_types.specs.declared.layout.Geometry.{Geometry}
use Rattle.shore_types.specs.declared.locking.Granule.{Granule}
use Rattle.shore_model.specs.declared.calls.Call.{Call}
use Rattle.shore_model.specs.declared.calls.Call.TheVariants as call
use Rattle.shore_model.specs.declared.log_records.LogRecord.{LogRecord}
use Rattle.shore_cycles.specs.declared.victims.Victim.{Victim}
use Rattle.shore_model.specs.declared.rollbacks.Rollback.TheVariants.{Whole}
use Rattle.laws_lives.specs.Sessions.{SessionTxn}
use Rattle.laws_calls.proofs.RollingLeaves.{back_table, interrupted_table, savepoint_table}
use Rattle.laws_lives.specs.Views.{IsAmong}
use Rattle.shore_model.specs.declared.step.Step.{Step}
use Rattle.shore_model.specs.declared.step.Step.TheVariants.{Done, Nothing, Refused, Waits}
use Rattle.shore_model.specs.declared.step.Wait.{Wait}
use Rattle.shore_model.specs.declared.step.Wait.TheVariants.{Durable, Lock}
use Rattle.laws_calls.proofs.AfterRefusals.{goes_leaves}
use Rattle.laws_calls.proofs.EndedWaits.{answers_wait}
use Rattle.laws_calls.proofs.SessionInversions.{answered_from, durable_no_lock}
use Rattle.laws_calls.specs.CallHistories.{IsOpened}
use Rattle.laws_calls.specs.Events.{Called, Forced, GaveUp, HasFailed, ManagerEvent, Resumed, EventMoves, EventsMove, TicketAsked}
use Rattle.laws_calls.specs.StateChanges.{decision_waiting, wait_refused}
use Rattle.laws_calls.specs.CallSteps.{AbortStep, BeginStep, CommitStep, CallGoesOn, InnerStep, MayAsk, ResumesWait, CallStep, ResumeStep, behind_lock, lock_waiting, OutsideStep}
use Rattle.laws_calls.specs.Settling.{SettledCall, SettledResume, Settles}
use Rattle.laws_calls.specs.Shapes.{LockWaitsMayAsk}
use Rattle.laws_calls.specs.States.{State, Waiting, next_number, without_waiting}
use Rattle.laws_calls.specs.Victims.{TakesVictim, TakesVictims, TellsVictim, with_cycle}
use Rattle.laws_calls.specs.Prepares.{PrepareStep}
use Rattle.laws_calls.proofs.ResolveLeaves.{resolve_waiting}
use Rattle.laws_calls.proofs.Outside.{outside_or}

-- who waits once a session's calls are taken out waited before
was_waiting : (n : ℕ) (ws : List Waiting) (w : Waiting) → IsAmong w (without_waiting n ws) → IsAmong w ws
was_waiting n [] w there = absurd there
was_waiting n (x ∷ ws) w there = by (x.session == n) (λ later. was_waiting n ws w later) there
  where
    by : (b : Bool) → (IsAmong w (without_waiting n ws) → IsAmong w ws) → IsAmong w (cond (not b) (x ∷ without_waiting n ws) (without_waiting n ws)) → IsAmong w (x ∷ ws)
    by true rest later = inr (rest later)
    by false rest (inl same) = inl same
    by false rest (inr later) = inr (rest later)

-- who waits once a victim is to be told its cycle waited before, with the same call
pub record WaitedSo (w : Waiting) (ws : List Waiting) : Type 0 where
  pub was : Waiting
  pub there : IsAmong was ws
  pub session : was.session ≡ w.session
  pub its : was.call ≡ w.call
  pub wait : was.wait ≡ w.wait

pub waited_so : (n : ℕ) (cycle : List ℕ) (ws : List Waiting) (w : Waiting) → IsAmong w (with_cycle n cycle ws) → WaitedSo w ws
waited_so n cycle [] w there = absurd there
waited_so n cycle (x ∷ ws) w there = by (x.session == n) (λ later. let h = waited_so n cycle ws w later in record { was = h.was; there = inr h.there; session = h.session; its = h.its; wait = h.wait }) there
  where
    by : (b : Bool) → (IsAmong w (with_cycle n cycle ws) → WaitedSo w (x ∷ ws))
        → IsAmong w (cond b (record { session = x.session; call = x.call; wait = x.wait; cycle = Some cycle }) x ∷ with_cycle n cycle ws) → WaitedSo w (x ∷ ws)
    by true rest (inl same) = record { was = x; there = inl refl; session = ap (λ (v : Waiting). v.session) same; its = ap (λ (v : Waiting). v.call) same; wait = ap (λ (v : Waiting). v.wait) same }
    by true rest (inr later) = rest later
    by false rest (inl same) = record { was = x; there = inl refl; session = ap (λ (v : Waiting). v.session) same; its = ap (λ (v : Waiting). v.call) same; wait = ap (λ (v : Waiting). v.wait) same }
    by false rest (inr later) = rest later

-- what has to hold of a session, its call, and what that waits for, holds of each call that waits
abbrev pub WaitsHave : (ℕ → Call → Wait → Type 0) → State → Type 0
WaitsHave P s = (w : Waiting) → IsAmong w s.waiting → P w.session w.call w.wait

-- .. and of this call of a session, if it begins to wait
pub record MayWait (g : Geometry) (P : ℕ → Call → Wait → Type 0) (session : ℕ) (c : Call) : Type 0 where
  pub locks : (at : Granule) → MayAsk g c → P session c (Lock at)
  pub records : (n : ℕ) → P session c (Durable n)

module _ (g : Geometry) (P : ℕ → Call → Wait → Type 0) (moves : (session : ℕ) (c : Call) (at later : Granule) → P session c (Lock at) → P session c (Lock later)) where
  -- the same calls wait
  as_before : (s new : State) → new.waiting ≡ s.waiting → WaitsHave P s → WaitsHave P new
  as_before s new is k w there = k w (subst (IsAmong w) is there)

  -- but for a session's
  but_one : (s new : State) (n : ℕ) → new.waiting ≡ without_waiting n s.waiting → WaitsHave P s → WaitsHave P new
  but_one s new n is k w there = k w (was_waiting n s.waiting w (subst (IsAmong w) is there))

  -- and one more
  and_one : (s new : State) (v : Waiting) → new.waiting ≡ v ∷ s.waiting → P v.session v.call v.wait → WaitsHave P s → WaitsHave P new
  and_one s new v is asks k w there = by (subst (IsAmong w) is there)
    where
      by : IsAmong w (v ∷ s.waiting) → P w.session w.call w.wait
      by (inl same) = subst (λ (x : Waiting). P x.session x.call x.wait) same asks
      by (inr later) = k w later

  goes_on : (s new : State) (a : SessionTxn) (c : Call) → ((at : Granule) → P a.session c (Lock at)) → (step : Step) → CallGoesOn g s a c step new → WaitsHave P s → WaitsHave P new
  goes_on s new a c may (Done answer) h =
      let t = answered_from g s a c new answer h in as_before s new (answers_wait g (behind_lock s a c t.lock) a new c answer t.behind)
  goes_on s new a c may (Waits wait) h = and_one s new (lock_waiting a c h.1) (ap (λ (s : State). s.waiting) h.5) (may h.1)
  goes_on s new a c may (Refused f) h = as_before s new (ap (λ (s : State). s.waiting) (goes_leaves g s new a c f h))
  goes_on s new a c may Nothing h = absurd h

  begins : (s new : State) (session : ℕ) (step : Step) → BeginStep s session step new → WaitsHave P s → WaitsHave P new
  begins s new session (Done answer) h = as_before s new (ap (λ (s : State). s.waiting) h.4)
  begins s new session (Refused f) h = as_before s new (ap (λ (s : State). s.waiting) h.1)
  begins s new session (Waits wait) h = absurd h
  begins s new session Nothing h = absurd h

  commits : (s new : State) (a : SessionTxn) → (step : Step) → CommitStep s a step new → WaitsHave P s → WaitsHave P new
  commits s new a (Done answer) h = as_before s new (ap (λ (s : State). s.waiting) h.1)
  commits s new a (Waits wait) h = absurd h
  commits s new a (Refused f) h = absurd h
  commits s new a Nothing h = absurd h

  prepares : (s new : State) (a : SessionTxn) (global : List ℕ) → ((n : ℕ) → P a.session (call.Prepare global) (Durable n)) → (step : Step) → PrepareStep g.version s a global step new → WaitsHave P s
      → WaitsHave P new
  prepares s new a global may (Waits wait) h = and_one s new (decision_waiting a.session (call.Prepare global) (next_number s)) (ap (λ (s : State). s.waiting) h.4) (may (next_number s))
  prepares s new a global may (Refused f) h = as_before s new (ap (λ (s : State). s.waiting) h.1)
  prepares s new a global may (Done answer) h = absurd h
  prepares s new a global may Nothing h = absurd h

  aborts : (s new : State) (a : SessionTxn) (step : Step) → AbortStep s a step new → WaitsHave P s → WaitsHave P new
  aborts s new a (Done answer) h = as_before s new (ap (λ (s : State). s.waiting) h.1)
  aborts s new a (Refused f) h = as_before s new (interrupted_table s a Whole f new h).waiting
  aborts s new a (Waits wait) h = absurd h
  aborts s new a Nothing h = absurd h

  inner : (s new : State) (a : SessionTxn) (c : Call) → MayWait g P a.session c → (step : Step) → InnerStep g s a c step new → WaitsHave P s → WaitsHave P new
  inner s new a c may step (inl h) = as_before s new (ap (λ (s : State). s.waiting) h.3)
  inner s new a c may step (inr (inl (whole, inl h))) = as_before s new (ap (λ (s : State). s.waiting) h.3)
  inner s new a c may step (inr (inl (whole, inr (inl h)))) = goes_on s new a c (λ at. may.locks at h.0) step h.1
  inner s new a c may step (inr (inl (whole, inr (inr (inl h))))) = commits s new a step h.1
  inner s new a c may step (inr (inl (whole, inr (inr (inr (inl h)))))) = as_before s new (savepoint_table s a step new h.1).waiting
  inner s new a c may step (inr (inl (whole, inr (inr (inr (inr h)))))) = prepares s new a h.0 (λ n. subst (λ (x : Call). P a.session x (Durable n)) h.1 (may.records n)) step h.2
  inner s new a c may step (inr (inr (inl h))) = as_before s new (back_table s a h.0 step new h.3).waiting
  inner s new a c may step (inr (inr (inr h))) = aborts s new a step h.1

  outsides : (s new : State) (session : ℕ) (c : Call) → MayWait g P session c → (step : Step) → OutsideStep s session c step new → WaitsHave P s → WaitsHave P new
  outsides s new session c may step h = ⊎_elim
      (λ same. as_before s new (ap (λ (s : State). s.waiting) same))
      (λ r. ⊎_elim
      (λ same. as_before s new same)
      (λ more. and_one s new (decision_waiting session (call.Resolve r.global r.asked) more.0) more.2 (subst (λ (x : Call). P session x (Durable more.0)) r.is (may.records more.0)))
      (resolve_waiting s session r.global r.asked step new r.to))
      (outside_or s session c step new h)

  pub called : (s new : State) (session : ℕ) (c : Call) → MayWait g P session c → (step : Step) → CallStep g s session c step new → WaitsHave P s → WaitsHave P new
  called s new session c may step (inl h) = as_before s new (ap (λ (s : State). s.waiting) h.1)
  called s new session c may step (inr (inl h)) = as_before s new (ap (λ (s : State). s.waiting) h.2)
  called s new session c may step (inr (inr (inl h))) = as_before s new (ap (λ (s : State). s.waiting) h.3)
  called s new session c may step (inr (inr (inr (inl h)))) = begins s new session step h.3
  called s new session c may step (inr (inr (inr (inr (inl h))))) = as_before s new (ap (λ (s : State). s.waiting) h.5)
  called s new session c may step (inr (inr (inr (inr (inr (inr (inl h))))))) = as_before s new (ap (λ (s : State). s.waiting) h.5)
  called s new session c may step (inr (inr (inr (inr (inr (inr (inr h))))))) = outsides s new session c may step h.2
  called s new session c may step (inr (inr (inr (inr (inr (inl h)))))) =
      inner s new h.2.0 c (subst (λ n. MayWait g P n c) (sym h.2.1.1) may) step h.2.2

  resumed : (s new : State) (w : Waiting) → IsAmong w s.waiting → (wait : Wait) → w.wait ≡ wait → (step : Step) → ResumesWait g s w wait step new
      → WaitsHave P s → WaitsHave P new
  resumed s new w there (Durable n) is step (inl h) k = as_before s new (ap (λ (s : State). s.waiting) h.2) k
  resumed s new w there (Durable n) is step (inr (inl h)) k = but_one s new w.session (ap (λ (s : State). s.waiting) h.2.4) k
  resumed s new w there (Durable n) is step (inr (inr h)) k = but_one s new w.session (ap (λ (s : State). s.waiting) h.2.3) k
  resumed s new w there (Lock at) is step h k =
      ⊎_elim
      (λ still. as_before s new (ap (λ (s : State). s.waiting) still.2) k)
      (λ goes. goes_on (wait_refused s w.session) new h.0 w.call
      (λ later. subst (λ n. P n w.call (Lock later)) (sym h.1.1) (moves w.session w.call at later (subst (P w.session w.call) is (k w there)))) step goes.1
      (but_one s (wait_refused s w.session) w.session refl k))
      h.2

  pub resumes : (s new : State) (session : ℕ) (step : Step) → ResumeStep g s session step new → WaitsHave P s → WaitsHave P new
  resumes s new session step (inl h) k = as_before s new (ap (λ (s : State). s.waiting) h.2) k
  resumes s new session step (inr h) k =
      ⊎_elim
      (λ failed. but_one s new h.0.session (ap (λ (s : State). s.waiting) failed.2) k)
      (λ runs. resumed s new h.0 h.1 h.0.wait refl step runs.1 k)
      h.3

  -- victims, and rounds of them
  victim : (s new : State) (t : ℕ) (v : Victim) → TakesVictim s t v new → WaitsHave P s → WaitsHave P new
  victim s new t v h k w there =
      let was = waited_so h.txn.session v.cycle s.waiting w (subst (IsAmong w) (ap (λ (x : State). x.waiting) h.is) there) in
      subst (λ n. P n w.call w.wait) was.session (subst (λ (c : Call). P was.was.session c w.wait) was.its (subst (P was.was.session was.was.call) was.wait (k was.was was.there)))

  pub victims : (s new : State) (t : ℕ) (vs : List Victim) → TakesVictims s t vs new → WaitsHave P s → WaitsHave P new
  victims s new t [] h k = subst (WaitsHave P) (sym h) k
  victims s new t (v ∷ vs) h k = victims h.0 new t vs h.2 (victim s h.0 t v h.1 k)

  told : (s new : State) (session : ℕ) (step : Step) → TellsVictim s session step new → WaitsHave P s → WaitsHave P new
  told s new session step h = but_one s new session (ap (λ (x : State). x.waiting) h.is)

  settles : (s new : State) (session : ℕ) (first : Step) (rounds : List (List Victim)) (step : Step) → Settles g s session first rounds step new → WaitsHave P s → WaitsHave P new
  settles s new session first [] step h k = subst (WaitsHave P) (sym h.2) k
  settles s new session first (vs ∷ rounds) step h k =
      let broken = victims s h.2 h.0.txn vs h.5 k in
      ⊎_elim
      (λ ends. ⊎_elim
      (λ still. subst (WaitsHave P) (sym still.3) broken)
      (λ end. ⊎_elim (λ its. told h.2 new session step its broken) (λ back. but_one h.2 new h.0.session (ap (λ (x : State). x.waiting) back.1.1) broken) end)
      ends.1)
      (λ goes. settles goes.1 new session goes.0 rounds step goes.4 (resumes h.2 goes.1 session goes.0 goes.3 broken))
      h.6

  -- a call of a session as a whole, and a resume
  pub call_waits_have : (s new : State) (session : ℕ) (c : Call) → MayWait g P session c → (step : Step) → SettledCall g s session c step new → WaitsHave P s → WaitsHave P new
  call_waits_have s new session c may step h k = settles h.mid new session h.first h.rounds step h.settles (called s h.mid session c may h.first h.calls k)

  pub resume_waits_have : (s new : State) (session : ℕ) (step : Step) → SettledResume g s session step new → WaitsHave P s → WaitsHave P new
  resume_waits_have s new session step (inl h) k = told s new session step h k
  resume_waits_have s new session step (inr (inl h)) k = resumes s new session step h.0 k
  resume_waits_have s new session step (inr (inr h)) k = settles h.mid new session h.first h.rounds step h.settles (resumes s h.mid session h.first h.resumes k)

  -- an event of the manager
  abbrev pub MayWaitIn : ManagerEvent → Type 0
  MayWaitIn (Called session c step) = MayWait g P session c
  MayWaitIn (Resumed session step) = Unit {0}
  MayWaitIn (GaveUp session step) = Unit {0}
  MayWaitIn (Forced n) = Unit {0}
  MayWaitIn HasFailed = Unit {0}
  MayWaitIn (TicketAsked ticket answer) = Unit {0}

  pub event_waits_on : (s new : State) (e : ManagerEvent) → MayWaitIn e → EventMoves g s e new → WaitsHave P s → WaitsHave P new
  event_waits_on s new (Called session c step) may h k = call_waits_have s new session c may step h.1 k
  event_waits_on s new (Resumed session step) may h k = resume_waits_have s new session step h k
  event_waits_on s new (GaveUp session step) may (inl h) k = but_one s new session (ap (λ (x : State). x.waiting) h.is) k
  event_waits_on s new (GaveUp session step) may (inr h) k = as_before s new (ap (λ (x : State). x.waiting) h.is) k
  event_waits_on s new (Forced n) may h k = as_before s new (ap (λ (s : State). s.waiting) h.2) k
  event_waits_on s new HasFailed may h k = as_before s new (ap (λ (s : State). s.waiting) h) k
  event_waits_on s new (TicketAsked ticket answer) may h k = as_before s new (ap (λ (s : State). s.waiting) h.1) k

-- ---- a call that waits for a lock was not to be refused before it asked

module _ (g : Geometry) where
  abbrev pub asked_for : ℕ → Call → Wait → Type 0
  asked_for session c wait = (at : Granule) → wait ≡ Lock at → MayAsk g c

  pub same_call : (session : ℕ) (c : Call) (at later : Granule) → asked_for session c (Lock at) → asked_for session c (Lock later)
  same_call session c at later asked other is = asked at refl

  pub may : (session : ℕ) (c : Call) → MayWait g asked_for session c
  may session c = record { locks = λ at may other is. may; records = λ n at e. absurd (durable_no_lock n at e) }

  may_in : (e : ManagerEvent) → MayWaitIn g asked_for same_call e
  may_in (Called session c step) = may session c
  may_in (Resumed session step) = tt
  may_in (GaveUp session step) = tt
  may_in (Forced n) = tt
  may_in HasFailed = tt
  may_in (TicketAsked ticket answer) = tt

  pub waits_may_ask : (s last : State) (events : List ManagerEvent) → EventsMove g s events last → LockWaitsMayAsk g s → LockWaitsMayAsk g last
  waits_may_ask s last [] h k = subst (LockWaitsMayAsk g) (sym h) k
  waits_may_ask s last (e ∷ events) h k = waits_may_ask h.0 last events h.2 (event_waits_on g asked_for same_call s h.0 e (may_in e) h.1 k)

  pub opened_may_ask : (o : Opening) (found : List LogRecord) (s : State) → IsOpened o found s → LockWaitsMayAsk g s
  opened_may_ask o found s h w there = absurd (subst (IsAmong w) h.waiting there)
