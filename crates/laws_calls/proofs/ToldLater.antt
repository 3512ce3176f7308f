-- A cycle that a session is to be told stood within an earlier event of the run.
use Rattle.std.proofs.Common.{◌≡◌, ◌⊎◌, inl, inr, ⊎_elim, ◌++◌, ℕ, List, [], ◌∷◌, Some, None, refl, sym, ap, subst, ◌∙◌}
use Rattle.shore_model.specs.declared.histories.Entry.{Entry}
use Rattle.shore_model.specs.declared.histories.Opening.{Opening}
use Rattle.std.specs.Prelude.{◌==◌}
use Rattle.std.proofs.lemmas.Bool.{cases_Bool, eqb-false, eqb-true}
use Rattle.shore_types.specs.declared.layout.Geometry.{Geometry}
use Rattle.shore_model.specs.declared.calls.Call.{Call}
use Rattle.shore_model.specs.declared.log_records.LogRecord.{LogRecord}
use Rattle.shore_model.specs.declared.step.Step.{Step}
use Rattle.shore_model.specs.declared.step.Step.TheVariants.{Done, Nothing, Refused, Waits}
use Rattle.shore_model.specs.declared.step.Wait.{Wait}
use Rattle.shore_model.specs.declared.step.Wait.TheVariants.{Durable, Lock}
use Rattle.shore_cycles.specs.declared.victims.Victim.{Victim}
use Rattle.laws_lives.specs.Sessions.{SessionTxn}
use Rattle.laws_lives.specs.Views.{IsAmong}
use Rattle.laws_calls.proofs.Elements.{waits_on}
use Rattle.laws_calls.proofs.Midway.{IsPaused, paused_at_first, paused_next, settled_call_to, settled_resume_to}
use Rattle.laws_calls.proofs.SessionEndings.{done_leaves, refusing_leaves, call_adds}
use Rattle.laws_calls.proofs.SessionOpens.{sessions_after_open}
use Rattle.laws_calls.proofs.SettledEnds.{call_leaves}
use Rattle.laws_calls.proofs.SettledDeadlocks.{of_victim, same_cycle}
use Rattle.laws_calls.proofs.SettledStates.{session_event_stays}
use Rattle.laws_calls.proofs.ToldCycles.{is_as_it_was, is_to_tell, was_waiting}
use Rattle.laws_calls.proofs.VictimSteps.{victim_seat}
use Rattle.laws_calls.proofs.WaitsThere.{call_nothing}
use Rattle.laws_calls.specs.CallHistories.{IsOpened, txn_of}
use Rattle.laws_calls.specs.CallSteps.{CallGoesOn, CallStep, ResumeStep, ResumesWait}
use Rattle.laws_calls.specs.Events.{Called, EventMoves, EventsMove, Forced, GaveUp, HasFailed, IsStateAfter, ManagerEvent, Resumed, entries_of, TicketAsked}
use Rattle.laws_calls.specs.Midway.{EndsFrom, Interlude, Intervene, Intervenes, IsCutShort, IsItsCycle, Takes, WaitsAnew}
use Rattle.laws_calls.specs.StateChanges.{wait_refused}
use Rattle.laws_calls.specs.States.{State, Waiting, without_waiting}
use Rattle.laws_calls.specs.StoodCycles.{IsWithin, StoodAmong}

-- ---- who is to be told one was to be told it before

-- each call that waits to be told a cycle waited before
abbrev pub WereToBeTold : State → State → Type 0
WereToBeTold s new = (w : Waiting) → IsAmong w new.waiting → (cycle : List ℕ) → w.cycle ≡ Some cycle → IsAmong w s.waiting

pub same_told : (s new : State) → new.waiting ≡ s.waiting → WereToBeTold s new
same_told s new same w m cycle is = subst (IsAmong w) same m

pub one_told : (s new : State) (x : Waiting) → x.cycle ≡ None → new.waiting ≡ x ∷ s.waiting → WereToBeTold s new
one_told s new x none is w m cycle told = by (subst (IsAmong w) is m)
  where
    by : IsAmong w (x ∷ s.waiting) → IsAmong w s.waiting
    by (inl same) = let clash : None ≡ Some cycle = sym none ∙ ap (λ (y : Waiting). y.cycle) same ∙ told in absurd cc
    by (inr later) = later

pub without_told : (s new : State) (n : ℕ) → new.waiting ≡ without_waiting n s.waiting → WereToBeTold s new
without_told s new n same w m cycle is = (waits_on n w s.waiting (subst (IsAmong w) same m)).0

then_told : (a b d : State) → WereToBeTold a b → WereToBeTold b d → WereToBeTold a d
then_told a b d first last w m cycle is = first w (last w m cycle is) cycle is

pub goes_told : (g : Geometry) (s new : State) (a : SessionTxn) (c : Call) (step : Step) → CallGoesOn g s a c step new → WereToBeTold s new
goes_told g s new a c (Done answer) h = same_told s new (done_leaves g s a c answer new h)
goes_told g s new a c (Refused f) h = same_told s new (refusing_leaves g s a c f new h)
goes_told g s new a c (Waits wait) h = one_told s new _ refl (ap (λ (x : State). x.waiting) h.5)
goes_told g s new a c Nothing h = absurd h

pub call_told : (g : Geometry) (s new : State) (session : ℕ) (c : Call) (step : Step) → CallStep g s session c step new → WereToBeTold s new
call_told g s new session c (Done answer) h = same_told s new (call_leaves g s new session c (Done answer) h tt)
call_told g s new session c (Refused f) h = same_told s new (call_leaves g s new session c (Refused f) h tt)
call_told g s new session c (Waits wait) h = one_told s new _ refl (call_adds g s new session c wait h)
call_told g s new session c Nothing h = absurd (call_nothing g s new session c h)

wait_told : (g : Geometry) (s new : State) (w : Waiting) (wait : Wait) (step : Step) → ResumesWait g s w wait step new → WereToBeTold s new
wait_told g s new w (Durable n) step (inl h) = same_told s new (ap (λ (x : State). x.waiting) h.2)
wait_told g s new w (Durable n) step (inr (inl h)) = without_told s new w.session (ap (λ (x : State). x.waiting) h.2.4)
wait_told g s new w (Durable n) step (inr (inr h)) = without_told s new w.session (ap (λ (x : State). x.waiting) h.2.3)
wait_told g s new w (Lock at) step h = ⊎_elim
    (λ still. same_told s new (ap (λ (x : State). x.waiting) still.2))
    (λ free. then_told s (wait_refused s w.session) new (without_told s (wait_refused s w.session) w.session refl) (goes_told g (wait_refused s w.session) new h.0 w.call step free.1))
    h.2

pub resume_told : (g : Geometry) (s new : State) (session : ℕ) (step : Step) → ResumeStep g s session step new → WereToBeTold s new
resume_told g s new session step (inl h) = same_told s new (ap (λ (x : State). x.waiting) h.2)
resume_told g s new session step (inr h) = ⊎_elim
    (λ failed. without_told s new h.0.session (ap (λ (x : State). x.waiting) failed.2))
    (λ runs. wait_told g s new h.0 h.0.wait step runs.1)
    h.3

cut_told : (x new : State) (session : ℕ) (step : Step) → IsCutShort x session step new → WereToBeTold x new
cut_told x new session step (inl told) = without_told x new session (ap (λ (y : State). y.waiting) told.is)
cut_told x new session step (inr back) = without_told x new back.0.session (ap (λ (y : State). y.waiting) back.2.1)

ends_told : (g : Geometry) (x new : State) (session : ℕ) (step : Step) → EndsFrom g x session step new → WereToBeTold x new
ends_told g x new session step (inl still) = same_told x new (ap (λ (y : State). y.waiting) still.is)
ends_told g x new session step (inr (inl cut)) = cut_told x new session step cut
ends_told g x new session step (inr (inr goes)) = resume_told g x new session step goes.1

-- ---- within an event

module _ (g : Geometry) (o : Opening) (found : List LogRecord) (es : List Entry) (session n : ℕ) (c : Call) where
  -- it was to be told, or it stood at some point of the way
  abbrev ToldSo : State → State → Waiting → List ℕ → Type 0
  ToldSo x last w cycle =
      IsAmong w x.waiting ⊎ ((y : State) × (before : List Interlude) × Intervene g session x before y × IsItsCycle y w.session cycle × ((later : List Interlude) × Intervene g session y later last))

  abbrev ToldOnTheWay : State → State → Type 0
  ToldOnTheWay x last = (w : Waiting) → IsAmong w last.waiting → (cycle : List ℕ) → w.cycle ≡ Some cycle → ToldSo x last w cycle

  victim_told : (x new : State) → IsPaused g o found es session n c x → (b : SessionTxn) (v : Victim) → Intervenes g session x (Takes b v) new → (w : Waiting) → IsAmong w new.waiting
      → (cycle : List ℕ) → w.cycle ≡ Some cycle → IsAmong w x.waiting ⊎ IsItsCycle x w.session cycle
  victim_told x new p b v h w m cycle is =
      let taken = h.2.0 in
      let was = was_waiting taken.txn.session v.cycle w x.waiting (subst (λ (y : State). IsAmong w y.waiting) taken.is m) in
      ⊎_elim
      (λ own.
      let its = eqb-true was.was.session taken.txn.session own in
      let same : v.cycle ≡ cycle = same_cycle v.cycle cycle (ap (λ (y : Waiting). y.cycle) (is_to_tell taken.txn.session v.cycle was.was w was.is its) ∙ is) in
      inr (subst (IsItsCycle x w.session) same (of_victim x taken.txn v (victim_seat o found es x p.stays h.0.txn v new taken) taken.number taken.victim w.session (sym its ∙ was.session_is))))
      (λ other.
      let same : was.was ≡ w = is_as_it_was taken.txn.session v.cycle was.was w was.is (eqb-false was.was.session taken.txn.session other) in
      inl (subst (λ (y : Waiting). IsAmong y x.waiting) same was.there))
      (cases_Bool (was.was.session == taken.txn.session))

  told_on_the_way : (x : State) (between : List Interlude) (last : State) → IsPaused g o found es session n c x → Intervene g session x between last → ToldOnTheWay x last
  told_on_the_way x [] last p h w m cycle is = inl (subst (λ (y : State). IsAmong w y.waiting) h m)
  told_on_the_way x (e ∷ between) last p h w m cycle is = ⊎_elim
      (first e h.1)
      (λ stood. inr (stood.0, e ∷ stood.1, (h.0, h.1, stood.2), stood.3, stood.4))
      (told_on_the_way h.0 between last (paused_next g o found es session n c x h.0 e p h.1) h.2 w m cycle is)
    where
      first : (e : Interlude) → Intervenes g session x e h.0 → IsAmong w h.0.waiting → ToldSo x last w cycle
      first (WaitsAnew at) i there = inl (resume_told g x h.0 session (Waits (Lock at)) i w there cycle is)
      first (Takes b v) i there = ⊎_elim
          (λ before. inl before)
          (λ stood. inr (x, [], refl, stood, (Takes b v ∷ between, (h.0, i, h.2))))
          (victim_told x h.0 p b v i w there cycle is)

module _ (g : Geometry) (o : Opening) (found : List LogRecord) (es : List Entry) (s : State) (k : IsStateAfter o found es s) where
  -- what an event leaves to be told was to be told before, or stood within it
  told_in : (new : State) (e : ManagerEvent) → EventMoves g s e new → (w : Waiting) → IsAmong w new.waiting → (cycle : List ℕ) → w.cycle ≡ Some cycle
      → IsAmong w s.waiting ⊎ ((x : State) × IsWithin g s e new x × IsItsCycle x w.session cycle)
  told_in new (Called session c step) h w m cycle is = ⊎_elim
      (λ once. inl (call_told g s new session c step once.1 w m cycle is))
      (λ came.
      let mid = came.midway in
      ⊎_elim
      (λ before. inl (call_told g s mid.waits session c (Waits (Lock mid.at)) mid.calls w before cycle is))
      (λ stood. inr (stood.0, (stood.1, record { at = mid.at; waits = mid.waits; calls = mid.calls; intervene = stood.2 }, (stood.4.0, came.from, stood.4.1, came.ends)), stood.3))
      (told_on_the_way g o found es session (txn_of s.sessions session) c mid.waits came.between came.from (paused_at_first g o found es s k session c mid.at mid.waits mid.calls) mid.intervene w
      (ends_told g came.from new session step came.ends w m cycle is) cycle is))
      (settled_call_to g s session c step new h.1)
  told_in new (Resumed session step) h w m cycle is = ⊎_elim
      (λ once. inl (resume_told g s new session step once w m cycle is))
      (⊎_elim
      (λ told. inl (without_told s new session (ap (λ (y : State). y.waiting) told.is) w m cycle is))
      (λ on.
      let came = on.1 in
      ⊎_elim
      (λ before. inl before)
      (λ stood. inr (stood.0, (stood.1, stood.2, (stood.4.0, came.from, stood.4.1, came.ends)), stood.3))
      (told_on_the_way g o found es session (txn_of s.sessions session) on.0.call s came.between came.from (record { stays = k; at = on.0.at; waits = on.0.waits }) came.intervene w
      (ends_told g came.from new session step came.ends w m cycle is) cycle is)))
      (settled_resume_to g s session step new h)
  told_in new (GaveUp session step) (inl h) w m cycle is = inl (without_told s new session (ap (λ (y : State). y.waiting) h.is) w m cycle is)
  told_in new (GaveUp session step) (inr h) w m cycle is = inl (subst (λ (y : State). IsAmong w y.waiting) h.is m)
  told_in new (Forced n) h w m cycle is = inl (subst (λ (y : State). IsAmong w y.waiting) h.2 m)
  told_in new HasFailed h w m cycle is = inl (subst (λ (y : State). IsAmong w y.waiting) h m)
  told_in new (TicketAsked ticket answer) h w m cycle is = inl (subst (λ (y : State). IsAmong w y.waiting) h.1 m)

-- ---- a run

pub told_among : (g : Geometry) (o : Opening) (found : List LogRecord) (es : List Entry) (s : State) → IsStateAfter o found es s → (events : List ManagerEvent) (last : State) → EventsMove g s events last
    → (w : Waiting) → IsAmong w last.waiting → (cycle : List ℕ) → w.cycle ≡ Some cycle → IsAmong w s.waiting ⊎ StoodAmong g s events last w.session cycle
told_among g o found es s k [] last h w m cycle is = inl (subst (λ (y : State). IsAmong w y.waiting) h m)
told_among g o found es s k (e ∷ events) last h w m cycle is = ⊎_elim
    (λ before. ⊎_elim
    (λ first. inl first)
    (λ stood. inr (h.0, h.1, h.2, inl stood))
    (told_in g o found es s k h.0 e h.1 w before cycle is))
    (λ stood. inr (h.0, h.1, h.2, inr stood))
    (told_among g o found (es ++ entries_of s e h.0) h.0 (session_event_stays g o found es s h.0 e k h.1) events last h.2 w m cycle is)

pub opened_told_among : (g : Geometry) (o : Opening) (found : List LogRecord) (first : State) (events : List ManagerEvent) (last : State) → IsOpened o found first → EventsMove g first events last
    → (w : Waiting) → IsAmong w last.waiting → (cycle : List ℕ) → w.cycle ≡ Some cycle → StoodAmong g first events last w.session cycle
opened_told_among g o found first events last opened h w m cycle is = ⊎_elim
    (λ before. absurd (subst (IsAmong w) opened.waiting before))
    (λ stood. stood)
    (told_among g o found [] first (sessions_after_open o found first opened) events last h w m cycle is)
