-- A cycle that a session is to be told begins with the transaction under way of the session: each step keeps that.
use Rattle.std.proofs.Common.{◌≡◌, ◌⊎◌, inl, inr, ⊎_elim, ◌++◌, ℕ, List, [], ◌∷◌, Some, None, refl, sym, ap, subst, ◌∙◌}
use Rattle.std.specs.Prelude.{◌==◌}
use Rattle.std.proofs.lemmas.Bool.{cases_Bool, eqb-false, eqb-true}
use Rattle.shore_types.specs.declared.faults.Fault.TheVariants.{Deadlock, Memory}
use Rattle.shore_types.specs.declared.layout.Geometry.{Geometry}
use Rattle.shore_model.specs.declared.calls.Call.{Call}
use Rattle.shore_model.specs.declared.histories.Entry.{Entry}
use Rattle.shore_model.specs.declared.histories.Opening.{Opening}
use Rattle.shore_model.specs.declared.log_records.LogRecord.{LogRecord}
use Rattle.shore_model.specs.declared.step.Step.{Step}
use Rattle.shore_model.specs.declared.step.Step.TheVariants.{Refused, Waits}
use Rattle.shore_model.specs.declared.step.Wait.{Wait}
use Rattle.shore_model.specs.declared.step.Wait.TheVariants.{Durable, Lock}
use Rattle.shore_cycles.specs.declared.victims.Victim.{Victim}
use Rattle.laws_lives.specs.Sessions.{SessionTxn, Sessions, prepare_answered}
use Rattle.laws_lives.specs.Views.{IsAmong}
use Rattle.laws_calls.proofs.Causes.{call_earns}
use Rattle.laws_calls.proofs.Midway.{CameTo, IsPaused, kept_midway, paused_at_first, settled_call_to, settled_resume_to}
use Rattle.laws_calls.proofs.SessionInversions.{same_fault}
use Rattle.laws_calls.proofs.Sessions.{one_txn, prepare_seats}
use Rattle.laws_calls.proofs.SettledAsks.{call_asked_last, resume_refused_so}
use Rattle.laws_calls.proofs.SettledDeadlocks.{same_cycle}
use Rattle.laws_calls.proofs.SettledStates.{session_event_stays}
use Rattle.laws_calls.proofs.ToldCycles.{WasWaiting, is_as_it_was, is_to_tell, was_waiting}
use Rattle.laws_calls.proofs.ToldLater.{WereToBeTold, call_told, goes_told, without_told}
use Rattle.laws_calls.proofs.VictimSteps.{gives_up_as, victim_seat}
use Rattle.laws_calls.proofs.WaitsThere.{call_were, goes_were}
use Rattle.laws_calls.proofs.WereUnderWay.{AllWereUnderWay, told_seat, was_in, was_it, was_with}
use Rattle.laws_calls.specs.CallHistories.{IsOpened, txn_of}
use Rattle.laws_calls.specs.CallSteps.{CallStep, ResumeStep, ResumesWait, prepare_ended, with_requests}
use Rattle.laws_calls.specs.Events.{Called, EventMoves, EventsMove, Forced, GaveUp, HasFailed, IsStateAfter, ManagerEvent, Resumed, entries_of, TicketAsked}
use Rattle.laws_calls.specs.Midway.{EndsFrom, Interlude, Intervene, Intervenes, Takes, WaitsAnew}
use Rattle.laws_calls.specs.Resolves.{resolve_ended}
use Rattle.laws_calls.specs.SessionWaits.{AllBeginWithTheirs, BeginsWithIts, HasTheFirst}
use Rattle.laws_calls.specs.Settling.{SettledCall, SettledResume}
use Rattle.laws_calls.specs.Shapes.{LockWaitsMayAsk}
use Rattle.laws_calls.specs.StateChanges.{wait_refused}
use Rattle.laws_calls.specs.States.{IsOfSession, State, Waiting}
use Rattle.laws_calls.specs.Victims.{TakesVictim, TellsVictim, Withdraws, victim_taken}
use Rattle.shore_locks.specs.Grants.{cancelled}

-- ---- what keeps it

-- of one whose session's transaction was under way with the same number
begins_on : (s new : State) (session : ℕ) (cycle : List ℕ) → ((b : SessionTxn) → IsOfSession new session b → (a : SessionTxn) × IsOfSession s session a × (a.txn ≡ b.txn)) → BeginsWithIts s session cycle
    → BeginsWithIts new session cycle
begins_on s new session cycle were k b of = let a = were b of in k a.0 a.1 ∙ ap Some a.2

-- of all, if nobody is to be told anew
all_begin : (s new : State) → WereToBeTold s new → AllWereUnderWay s new → AllBeginWithTheirs s → AllBeginWithTheirs new
all_begin s new told were k w m cycle is =
    begins_on s new w.session cycle (λ b its. let a = were b its.0 in (a.0, (a.1.0, a.1.1 ∙ its.1), a.2)) (k w (told w m cycle is) cycle is)

-- ---- a call

-- the call of a session that waits changes nothing
waiter_stays : (g : Geometry) (s new : State) (session : ℕ) (c : Call) (step : Step) → CallStep g s session c step new → (w : Waiting) → IsAmong w s.waiting → w.session ≡ session → new ≡ s
waiter_stays g s new session c step (inl h) w m of = h.1
waiter_stays g s new session c step (inr (inl h)) w m of = h.2
waiter_stays g s new session c step (inr (inr (inl h))) w m of = h.3
waiter_stays g s new session c step (inr (inr (inr (inl h)))) w m of = absurd (h.1 w m of)
waiter_stays g s new session c step (inr (inr (inr (inr (inl h))))) w m of = absurd (h.1 w m of)
waiter_stays g s new session c step (inr (inr (inr (inr (inr (inl h)))))) w m of = absurd (h.1 w m of)
waiter_stays g s new session c step (inr (inr (inr (inr (inr (inr (inl h))))))) w m of = absurd (h.1 w m of)
waiter_stays g s new session c step (inr (inr (inr (inr (inr (inr (inr h))))))) w m of = absurd (h.1 w m of)

call_begins : (g : Geometry) (s new : State) (session : ℕ) (c : Call) (step : Step) → CallStep g s session c step new → AllBeginWithTheirs s → AllBeginWithTheirs new
call_begins g s new session c step h k w m cycle is = ⊎_elim
    (λ own. subst (λ (x : State). BeginsWithIts x w.session cycle) (sym (waiter_stays g s new session c step h w there (eqb-true w.session session own))) (k w there cycle is))
    (λ other.
    let apart = eqb-false w.session session other in
    begins_on s new w.session cycle
    (λ b its. let a = call_were g s new session c step h b its.0 (λ same. apart (sym its.1 ∙ same)) in (a.0, (a.1.0, a.1.1 ∙ its.1), a.2))
    (k w there cycle is))
    (cases_Bool (w.session == session))
  where
    there : IsAmong w s.waiting
    there = call_told g s new session c step h w m cycle is

-- ---- a resume

-- once the wait of a session is over
over_begins : (s : State) (n : ℕ) → AllBeginWithTheirs s → AllBeginWithTheirs (wait_refused s n)
over_begins s n = all_begin s (wait_refused s n) (without_told s (wait_refused s n) n refl) (was_it s)

module _ (g : Geometry) (o : Opening) (found : List LogRecord) (es : List Entry) (s : State) (k : IsStateAfter o found es s) (session : ℕ) (step : Step) (new : State) (resumes : ResumeStep g s session step new)
    (was : AllBeginWithTheirs s) where
  same_begins : new ≡ s → AllBeginWithTheirs new
  same_begins same = subst AllBeginWithTheirs (sym same) was

  prepared_begins : (n t : ℕ) (global : List ℕ) → AllBeginWithTheirs (prepare_ended s n t global)
  prepared_begins n t global =
      subst (λ (x : Sessions). AllBeginWithTheirs (record (wait_refused s n) { sessions = x })) (prepare_seats s.sessions n t global)
      (all_begin s (record (wait_refused s n) { sessions = prepare_answered s.sessions t }) (without_told s (record (wait_refused s n) { sessions = prepare_answered s.sessions t }) n refl) (was_it s) was)

  wait_begins : (w : Waiting) → (wait : Wait) → ResumesWait g s w wait step new → AllBeginWithTheirs new
  wait_begins w (Durable n) (inl h) = same_begins h.2
  wait_begins w (Durable n) (inr (inl h)) = subst AllBeginWithTheirs (sym h.2.4) (prepared_begins w.session h.2.0 h.2.1)
  wait_begins w (Durable n) (inr (inr h)) = subst AllBeginWithTheirs (sym h.2.3)
      (all_begin s (resolve_ended s w.session h.2.0) (without_told s (resolve_ended s w.session h.2.0) w.session refl)
      (λ b m. was_it s b (m.0, sym (told_seat s.sessions.seats w.session b.session) ∙ m.1, m.2)) was)
  wait_begins w (Lock at) h = ⊎_elim
      (λ still. same_begins still.2)
      (λ free.
      let y = wait_refused s w.session in
      all_begin y new (goes_told g y new h.0 w.call step free.1) (goes_were g y h.0 w.call step new free.1) (over_begins s w.session was))
      h.2

  resume_begins : AllBeginWithTheirs new
  resume_begins = by resumes
    where
      by : ResumeStep g s session step new → AllBeginWithTheirs new
      by (inl h) = same_begins h.2
      by (inr h) = ⊎_elim
          (λ failed. subst AllBeginWithTheirs (sym failed.2) (over_begins s h.0.session was))
          (λ runs. wait_begins h.0 h.0.wait runs.1)
          h.3

-- ---- victims, and what stops a call

module _ (o : Opening) (found : List LogRecord) (es : List Entry) (s : State) (k : IsStateAfter o found es s) (was : AllBeginWithTheirs s) where
  victim_begins : (t : ℕ) (v : Victim) (new : State) → TakesVictim s t v new → AllBeginWithTheirs new
  victim_begins t v new h w m cycle is = ⊎_elim
      (λ own.
      let its = eqb-true x.was.session h.txn.session own in
      let same = same_cycle v.cycle cycle (ap (λ (y : Waiting). y.cycle) (is_to_tell h.txn.session v.cycle x.was w x.is its) ∙ is) in
      subst (BeginsWithIts new w.session) same (first (sym its ∙ x.session_is)))
      (λ other.
      let same : x.was ≡ w = is_as_it_was h.txn.session v.cycle x.was w x.is (eqb-false x.was.session h.txn.session other) in
      begins_on s new w.session cycle were (was w (subst (λ (y : Waiting). IsAmong y s.waiting) same x.there) cycle is))
      (cases_Bool (x.was.session == h.txn.session))
    where
      x : WasWaiting h.txn.session v.cycle s.waiting w
      x = was_waiting h.txn.session v.cycle w s.waiting (subst (λ (y : State). IsAmong w y.waiting) h.is m)

      were : (b : SessionTxn) → IsOfSession new w.session b → (a : SessionTxn) × IsOfSession s w.session a × (a.txn ≡ b.txn)
      were b its = let a = was_in s new (victim_taken s h.txn v.cycle) b h.is (was_with s h.txn.txn _ b) its.0 in (a.0, (a.1.0, a.1.1 ∙ its.1), a.2)

      first : h.txn.session ≡ w.session → BeginsWithIts new w.session v.cycle
      first of b its =
          let a = were b its in
          let one = one_txn s.sessions h.txn a.0 (victim_seat o found es s k t v new h).1 a.1.0.1 (of ∙ sym a.1.1) in
          h.victim.stands.first ∙ ap Some (sym h.number ∙ one ∙ a.2)

  told_begins : (session : ℕ) (step : Step) (new : State) → TellsVictim s session step new → AllBeginWithTheirs new
  told_begins session step new h = subst AllBeginWithTheirs (sym h.is) (over_begins s session was)

  withdrawn_begins : (a : SessionTxn) (step : Step) (new : State) → Withdraws s a step new → AllBeginWithTheirs new
  withdrawn_begins a step new h = subst AllBeginWithTheirs (sym h.1)
      (all_begin s (with_requests (wait_refused s a.session) (cancelled a.txn s.locks.requests)) (without_told s (with_requests (wait_refused s a.session) (cancelled a.txn s.locks.requests)) a.session refl) (was_it s) was)

-- ---- a whole call, and a whole resume

module _ (g : Geometry) (o : Opening) (found : List LogRecord) (es : List Entry) (session n : ℕ) (c : Call) where
  next_begins : (x new : State) (e : Interlude) → IsPaused g o found es session n c x → AllBeginWithTheirs x → Intervenes g session x e new → AllBeginWithTheirs new
  next_begins x new (Takes b v) p was h = victim_begins o found es x p.stays was h.0.txn v new h.2.0
  next_begins x new (WaitsAnew at) p was h = resume_begins g o found es x p.stays session (Waits (Lock at)) new h was

  ends_begin : (x : State) → IsPaused g o found es session n c x → AllBeginWithTheirs x → (step : Step) (new : State) → EndsFrom g x session step new → AllBeginWithTheirs new
  ends_begin x p was step new (inl still) = subst AllBeginWithTheirs (sym still.is) was
  ends_begin x p was step new (inr (inl (inl told))) = told_begins o found es x p.stays was session step new told
  ends_begin x p was step new (inr (inl (inr back))) = withdrawn_begins o found es x p.stays was back.0 step new back.2
  ends_begin x p was step new (inr (inr goes)) = resume_begins g o found es x p.stays session step new goes.1 was

  pub midway_begins : (s : State) (between : List Interlude) (x : State) → IsPaused g o found es session n c s → AllBeginWithTheirs s → Intervene g session s between x
      → IsPaused g o found es session n c x × AllBeginWithTheirs x
  midway_begins s between x p was way = kept_midway g o found es session n c AllBeginWithTheirs next_begins s between x p was way

  came_begins : (s : State) → IsPaused g o found es session n c s → AllBeginWithTheirs s → (step : Step) (new : State) → CameTo g session s step new → AllBeginWithTheirs new
  came_begins s p was step new came =
      let kept = midway_begins s came.between came.from p was came.intervene in
      ends_begin came.from kept.0 kept.1 step new came.ends

module _ (g : Geometry) (o : Opening) (found : List LogRecord) (es : List Entry) (s : State) (k : IsStateAfter o found es s) where
  pub settled_call_begins : (session : ℕ) (c : Call) (step : Step) (new : State) → AllBeginWithTheirs s → SettledCall g s session c step new → AllBeginWithTheirs new
  settled_call_begins session c step new was h = ⊎_elim
      (λ once. call_begins g s new session c step once.1 was)
      (λ came.
      let m = came.midway in
      came_begins g o found es session (txn_of s.sessions session) c m.waits (paused_at_first g o found es s k session c m.at m.waits m.calls)
      (call_begins g s m.waits session c (Waits (Lock m.at)) m.calls was) step new
      (record { between = came.between; from = came.from; intervene = m.intervene; ends = came.ends }))
      (settled_call_to g s session c step new h)

  pub settled_resume_begins : (session : ℕ) (step : Step) (new : State) → AllBeginWithTheirs s → SettledResume g s session step new → AllBeginWithTheirs new
  settled_resume_begins session step new was h = ⊎_elim
      (λ once. resume_begins g o found es s k session step new once was)
      (⊎_elim
      (told_begins o found es s k was session step new)
      (λ on. came_begins g o found es session (txn_of s.sessions session) on.0.call s (record { stays = k; at = on.0.at; waits = on.0.waits }) was step new on.1))
      (settled_resume_to g s session step new h)

  event_begins : (new : State) (e : ManagerEvent) → AllBeginWithTheirs s → EventMoves g s e new → AllBeginWithTheirs new
  event_begins new (Called session c step) was h = settled_call_begins session c step new was h.1
  event_begins new (Resumed session step) was h = settled_resume_begins session step new was h
  event_begins new (GaveUp session step) was (inl h) = withdrawn_begins o found es s k was h.txn (Refused Memory) new (refl, gives_up_as o found es s k session step new h)
  event_begins new (GaveUp session step) was (inr h) = subst AllBeginWithTheirs (sym h.is) was
  event_begins new (Forced n) was h = subst AllBeginWithTheirs (sym h.2) was
  event_begins new HasFailed was h = subst AllBeginWithTheirs (sym h) was
  event_begins new (TicketAsked ticket answer) was h = subst AllBeginWithTheirs (sym h.1) was

  -- .. and there is one
  pub has_the_first : AllBeginWithTheirs s → (w : Waiting) → IsAmong w s.waiting → (cycle : List ℕ) → w.cycle ≡ Some cycle → HasTheFirst s w.session cycle
  has_the_first was w m cycle is = ⊎_elim
      (λ decision. let clash : None ≡ Some cycle = sym (ap (λ (x : Waiting). x.cycle) decision.is) ∙ is in absurd cc)
      (λ lock. (lock.txn, (lock.active, lock.of), was w m cycle is lock.txn (lock.active, lock.of)))
      (k.waits.each w m)

  -- who is told its cycle
  pub told_first : (session : ℕ) (cycle : List ℕ) (new : State) → AllBeginWithTheirs s → TellsVictim s session (Refused (Deadlock cycle)) new → HasTheFirst new session cycle
  told_first session cycle new was told =
      let same : told.cycle ≡ cycle = same_deadlock told.told in
      subst (λ (x : State). HasTheFirst x session cycle) (sym told.is)
      (subst (λ (n : ℕ). HasTheFirst s n cycle) told.of (has_the_first was told.waited told.there cycle (told.victim ∙ ap Some same)))
    where
      same_deadlock : Refused (Deadlock cycle) ≡ Refused (Deadlock told.cycle) → told.cycle ≡ cycle
      same_deadlock e = cc

module _ (g : Geometry) (o : Opening) (found : List LogRecord) (es : List Entry) (s : State) (k : IsStateAfter o found es s) where
  pub call_told_first : (session : ℕ) (c : Call) (cycle : List ℕ) (new : State) → AllBeginWithTheirs s → SettledCall g s session c (Refused (Deadlock cycle)) new → HasTheFirst new session cycle
  call_told_first session c cycle new was h = ⊎_elim
      (λ t. absurd (call_earns g o found es t.last t.stays session c (Deadlock cycle) new t.calls))
      (λ t.
      let m = t.midway in
      let kept = midway_begins g o found es session (txn_of s.sessions session) c m.waits t.between t.from (paused_at_first g o found es s k session c m.at m.waits m.calls)
      (call_begins g s m.waits session c (Waits (Lock m.at)) m.calls was) m.intervene in
      ⊎_elim
      (λ still. let clash = still.step_is in absurd cc)
      (⊎_elim
      (told_first g o found es t.from kept.0.stays session cycle new kept.1)
      (λ back. let clash = same_fault (Deadlock cycle) Memory back.2.0 in absurd cc))
      t.ends)
      (call_asked_last g o found es s k session c (Refused (Deadlock cycle)) new h)

  pub resume_told_first : LockWaitsMayAsk g s → (session : ℕ) (cycle : List ℕ) (new : State) → AllBeginWithTheirs s → SettledResume g s session (Refused (Deadlock cycle)) new → HasTheFirst new session cycle
  resume_told_first may session cycle new was h =
      let t = resume_refused_so g o found es s k may session (Deadlock cycle) new h in ⊎_elim
      (λ failed. let clash = failed.1 in absurd cc)
      (⊎_elim
      (λ stopped.
      let kept = midway_begins g o found es session (txn_of s.sessions session) t.waited.call s stopped.0 stopped.1 stopped.3 was stopped.2 in
      ⊎_elim
      (told_first g o found es stopped.1 kept.0.stays session cycle new kept.1)
      (λ back. let clash = same_fault (Deadlock cycle) Memory back.2.0 in absurd cc)
      stopped.4)
      (λ asked. absurd (call_earns g o found es asked.0 asked.2 session t.waited.call (Deadlock cycle) new asked.3)))
      t.so

pub events_begin : (g : Geometry) (o : Opening) (found : List LogRecord) (es : List Entry) (s : State) (events : List ManagerEvent) (last : State) → IsStateAfter o found es s → AllBeginWithTheirs s
    → EventsMove g s events last → AllBeginWithTheirs last
events_begin g o found es s [] last k was h = subst AllBeginWithTheirs (sym h) was
events_begin g o found es s (e ∷ events) last k was h =
    events_begin g o found (es ++ entries_of s e h.0) h.0 events last (session_event_stays g o found es s h.0 e k h.1) (event_begins g o found es s k h.0 e was h.1) h.2

pub opened_begins : (o : Opening) (found : List LogRecord) (s : State) → IsOpened o found s → AllBeginWithTheirs s
opened_begins o found s h w m = absurd (subst (IsAmong w) h.waiting m)
