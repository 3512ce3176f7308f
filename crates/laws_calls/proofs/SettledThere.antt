-- A call and a resume as a whole that wait for a lock do so at the granule that they tell, and those that wait for a record do so for their commit's.
use Rattle.std.proofs.Common.{◌≡◌, ◌⊎◌, inl, inr, ⊎_elim, ◌++◌, ◌<◌, ℕ, List, [], ◌∷◌, true, Option, Some, None, refl, sym, ap, subst, ◌∙◌, length, arith, ◌≤◌, length-append}
use Rattle.std.specs.Prelude.{is_some}
use Rattle.shore_types.specs.declared.faults.Fault.TheVariants as fault
use Rattle.shore_types.specs.declared.layout.Geometry.{Geometry}
use Rattle.shore_types.specs.declared.locking.Granule.{Granule}
use Rattle.shore_model.specs.declared.calls.Call.{Call}
use Rattle.shore_model.specs.declared.histories.Entry.{Entry}
use Rattle.shore_model.specs.declared.histories.Opening.{Opening}
use Rattle.shore_model.specs.declared.log_records.LogRecord.{LogRecord}
use Rattle.shore_model.specs.declared.requests.Request.{Request}
use Rattle.shore_model.specs.declared.step.Step.{Step}
use Rattle.shore_model.specs.declared.step.Step.TheVariants.{Refused, Waits}
use Rattle.shore_model.specs.declared.step.Wait.{Wait}
use Rattle.shore_model.specs.declared.step.Wait.TheVariants.{Durable, Lock}
use Rattle.shore_locks.specs.Tables.{is_waiting, waiting_request}
use Rattle.laws_lives.specs.Sessions.{SessionTxn}
use Rattle.laws_lives.specs.Views.{IsAmong}
use Rattle.laws_calls.proofs.Midway.{CallCameTo, CameTo, IsPaused, kept_midway, midway_paused, paused_at_first, settled_call_to, settled_resume_to}
use Rattle.laws_calls.proofs.SessionInversions.{durable_no_lock, waits_on_record, AppendsIn}
use Rattle.laws_calls.proofs.SessionResumes.{woken}
use Rattle.laws_calls.proofs.SettledEnds.{settled_call_waits, settled_still_waits}
use Rattle.laws_calls.proofs.SettledStates.{session_event_stays}
use Rattle.laws_calls.proofs.SettledWaits.{HasWaited, resume_undecided}
use Rattle.laws_calls.proofs.VictimSteps.{gives_up_as}
use Rattle.laws_calls.proofs.WaitsThere.{call_there, fresh, fresh_active, resume_there, told_there, victim_there, withdrawn_there}
use Rattle.laws_calls.specs.CallHistories.{IsOpened, txn_of}
use Rattle.laws_calls.specs.CallSteps.{ResumeStep, ResumesWait, CallStep}
use Rattle.laws_calls.specs.Events.{Called, EventMoves, EventsMove, Forced, GaveUp, HasFailed, IsStateAfter, ManagerEvent, Resumed, entries_of, TicketAsked}
use Rattle.laws_calls.specs.Midway.{EndsFrom, HasItsWait, Interlude, Intervenes, Takes, WaitsAnew}
use Rattle.laws_calls.specs.SessionWaits.{AllWaitThere, IsDecisionWait, IsLockWait}
use Rattle.laws_calls.specs.Settling.{SettledCall, SettledResume}
use Rattle.laws_calls.specs.StateChanges.{wait_refused}
use Rattle.laws_calls.specs.States.{IsOfSession, State, Waiting, next_number}
use Rattle.laws_calls.specs.Prepares.{granules_in_ex}
use Rattle.laws_calls.specs.Shapes.{WaitsForItsRecord}
use Rattle.laws_lives.proofs.Lists.{length-push}
use Rattle.shore_model.specs.Logs.{previous_of}
use Rattle.shore_model.specs.declared.log_records.Payload.TheVariants as payload
use Rattle.laws_calls.proofs.Outside.{CommitWaits, RollbackWaits}
use Rattle.laws_calls.specs.Resolves.{DecidesRollback, RollsBack, rollback_number}
use Rattle.laws_calls.proofs.ResolveStays.{its_record, has_decided, made_by}
use Rattle.laws_calls.proofs.LongerLogs.{done_further}

-- ---- it is kept

module _ (g : Geometry) (o : Opening) (found : List LogRecord) (es : List Entry) (session n : ℕ) (c : Call) where
  there_next : (x new : State) (e : Interlude) → IsPaused g o found es session n c x → AllWaitThere x → Intervenes g session x e new → AllWaitThere new
  there_next x new (Takes b v) p was h = victim_there o found es x p.stays was h.0.txn v new h.2.0
  there_next x new (WaitsAnew at) p was h = resume_there g o found es x p.stays session (Waits (Lock at)) new h was

  ends_there : (x : State) → IsPaused g o found es session n c x → AllWaitThere x → (step : Step) (new : State) → EndsFrom g x session step new → AllWaitThere new
  ends_there x p was step new (inl still) = subst AllWaitThere (sym still.is) was
  ends_there x p was step new (inr (inl (inl told))) = told_there o found es x p.stays was session step new told
  ends_there x p was step new (inr (inl (inr back))) = withdrawn_there o found es x p.stays was back.0 step new back.2
  ends_there x p was step new (inr (inr goes)) = resume_there g o found es x p.stays session step new goes.1 was

  came_there : (s : State) → IsPaused g o found es session n c s → AllWaitThere s → (step : Step) (new : State) → CameTo g session s step new → AllWaitThere new
  came_there s p was step new came =
      let kept = kept_midway g o found es session n c AllWaitThere there_next s came.between came.from p was came.intervene in
      ends_there came.from kept.0 kept.1 step new came.ends

module _ (g : Geometry) (o : Opening) (found : List LogRecord) (es : List Entry) (s : State) (k : IsStateAfter o found es s) where
  pub settled_call_there : (session : ℕ) (c : Call) (step : Step) (new : State) → AllWaitThere s → SettledCall g s session c step new → AllWaitThere new
  settled_call_there session c step new was h = ⊎_elim
      (λ once. call_there g o found es s k session c step new once.1 was)
      (λ came.
      let m = came.midway in
      came_there g o found es session (txn_of s.sessions session) c m.waits (paused_at_first g o found es s k session c m.at m.waits m.calls)
      (call_there g o found es s k session c (Waits (Lock m.at)) m.waits m.calls was) step new
      (record { between = came.between; from = came.from; intervene = m.intervene; ends = came.ends }))
      (settled_call_to g s session c step new h)

  paused_of : (session : ℕ) (was : HasWaited s session) → IsPaused g o found es session (txn_of s.sessions session) was.call s
  paused_of session was = record { stays = k; at = was.at; waits = was.waits }

  pub settled_resume_there : (session : ℕ) (step : Step) (new : State) → AllWaitThere s → SettledResume g s session step new → AllWaitThere new
  settled_resume_there session step new was h = ⊎_elim
      (λ once. resume_there g o found es s k session step new once was)
      (⊎_elim
      (told_there o found es s k was session step new)
      (λ on. came_there g o found es session (txn_of s.sessions session) on.0.call s (paused_of session on.0) was step new on.1))
      (settled_resume_to g s session step new h)

  event_there : (new : State) (e : ManagerEvent) → AllWaitThere s → EventMoves g s e new → AllWaitThere new
  event_there new (Called session c step) was h = settled_call_there session c step new was h.1
  event_there new (Resumed session step) was h = settled_resume_there session step new was h
  event_there new (GaveUp session step) was (inl h) = withdrawn_there o found es s k was h.txn (Refused fault.Memory) new (refl, gives_up_as o found es s k session step new h)
  event_there new (GaveUp session step) was (inr h) = subst AllWaitThere (sym h.is) was
  event_there new (Forced n) was h = subst AllWaitThere (sym h.2) was
  event_there new HasFailed was h = subst AllWaitThere (sym h) was
  event_there new (TicketAsked ticket answer) was h = subst AllWaitThere (sym h.1) was

pub events_there : (g : Geometry) (o : Opening) (found : List LogRecord) (es : List Entry) (s : State) (events : List ManagerEvent) (last : State) → IsStateAfter o found es s → AllWaitThere s
    → EventsMove g s events last → AllWaitThere last
events_there g o found es s [] last k was h = subst AllWaitThere (sym h) was
events_there g o found es s (e ∷ events) last k was h =
    events_there g o found (es ++ entries_of s e h.0) h.0 events last (session_event_stays g o found es s h.0 e k h.1) (event_there g o found es s k h.0 e was h.1) h.2

pub opened_there : (o : Opening) (found : List LogRecord) (s : State) → IsOpened o found s → AllWaitThere s
opened_there o found s h session w m = absurd (subst (IsAmong w) h.waiting m)

-- ---- what waits, and where

waiter_of : (t : ℕ) (s : State) → is_waiting t s.locks.requests ≡ true → (r : Request) × (waiting_request t s.locks.requests ≡ Some r)
waiter_of t s = by (waiting_request t s.locks.requests) refl
  where
    by : (o : Option Request) → waiting_request t s.locks.requests ≡ o → is_some o ≡ true → (r : Request) × (waiting_request t s.locks.requests ≡ Some r)
    by None e waits = absurd cc
    by (Some r) e waits = (r, e)

-- its session's transaction waits, and its call waits there
its_wait_at : (s : State) (session : ℕ) (at : Granule) → AllWaitThere s → (w : Waiting) → IsAmong w s.waiting → w.session ≡ session → w.wait ≡ Lock at
    → (a : SessionTxn) → IsOfSession s session a → is_waiting a.txn s.locks.requests ≡ true → HasItsWait s session at
its_wait_at s session at there w m its lock a of waits =
    let r = waiter_of a.txn s waits in record { txn = a; of = of; request = r.0; waits = r.1; there = (there session w m its at lock a of r.0 r.1).there }

module _ (g : Geometry) (o : Opening) (found : List LogRecord) (es : List Entry) (s : State) (k : IsStateAfter o found es s) (was : AllWaitThere s) (session : ℕ) (at : Granule) (new : State) where
  pub settled_call_waits_at : (c : Call) → SettledCall g s session c (Waits (Lock at)) new → HasItsWait new session at
  settled_call_waits_at c h = ⊎_elim
      (λ once. absurd once.0)
      (λ came. by came came.ends)
      (settled_call_to g s session c (Waits (Lock at)) new h)
    where
      by : (came : CallCameTo g s session c (Waits (Lock at)) new) → EndsFrom g came.from session (Waits (Lock at)) new → HasItsWait new session at
      by came (inl still) =
          its_wait_at new session at (settled_call_there g o found es s k session c (Waits (Lock at)) new was h) (record { session = session; call = c; wait = Lock at; cycle = None })
          (settled_call_waits g o found es s k session c new (Lock at) h) refl refl still.txn (subst (λ (x : State). IsOfSession x session still.txn) (sym still.is) still.of)
          (subst (λ (x : State). is_waiting still.txn.txn x.locks.requests ≡ true) (sym still.is) still.waits)
      by came (inr (inl (inl told))) = let clash = told.told in absurd cc
      by came (inr (inl (inr back))) = let clash = back.2.0 in absurd cc
      by came (inr (inr goes)) = absurd goes.0

  -- the request of a transaction whose resume waits
  resumed_txn : ResumeStep g s session (Waits (Lock at)) new → (a : SessionTxn) × IsOfSession new session a × (is_waiting a.txn new.locks.requests ≡ true)
  resumed_txn (inl h) = let clash = h.1 in absurd cc
  resumed_txn (inr h) = ⊎_elim
      (λ failed. let clash = failed.1 in absurd cc)
      (λ runs. by h.0.wait runs.1)
      h.3
    where
      by : (wait : Wait) → ResumesWait g s h.0 wait (Waits (Lock at)) new → (a : SessionTxn) × IsOfSession new session a × (is_waiting a.txn new.locks.requests ≡ true)
      by (Durable n) (inl x) = let clash = x.1 in absurd cc
      by (Durable n) (inr (inl x)) = let clash = x.1 in absurd cc
      by (Durable n) (inr (inr x)) = let clash = x.1 in absurd cc
      by (Lock there) x = ⊎_elim
          (λ still. (
            x.0,
            subst (λ (y : State). IsOfSession y session x.0) (sym still.2) (x.1.0, x.1.1 ∙ h.2),
            subst (λ (y : State). is_waiting x.0.txn y.locks.requests ≡ true) (sym still.2) still.0,
          ))
          (λ free.
          let y = wait_refused s h.0.session in
          let ready = woken g o found es s k.sessions x.0 h.0.session x.1 free.0 in
          let one = fresh g o found es y ready x.0 x.1.0 free.0 h.0.call at new free.1 in
          (x.0, (fresh_active g o found es y ready x.0 x.1.0 free.0 h.0.call at new free.1, x.1.1 ∙ h.2), ap is_some one.1))
          x.2

  pub settled_resume_waits_at : SettledResume g s session (Waits (Lock at)) new → HasItsWait new session at
  settled_resume_waits_at h =
      let t = ⊎_elim resumed_txn (⊎_elim (λ told. let clash = told.told in absurd cc) (λ on. ends on.1.from on.1.ends)) (settled_resume_to g s session (Waits (Lock at)) new h) in
      let w = settled_still_waits g o found es s k session new (Lock at) h in
      its_wait_at new session at (settled_resume_there g o found es s k session (Waits (Lock at)) new was h) w.0 w.1 w.2 w.3 t.0 t.1 t.2
    where
      ends : (x : State) → EndsFrom g x session (Waits (Lock at)) new → (a : SessionTxn) × IsOfSession new session a × (is_waiting a.txn new.locks.requests ≡ true)
      ends x (inl still) = (
        still.txn,
        subst (λ (y : State). IsOfSession y session still.txn) (sym still.is) still.of,
        subst (λ (y : State). is_waiting still.txn.txn y.locks.requests ≡ true) (sym still.is) still.waits,
      )
      ends x (inr (inl (inl told))) = let clash = told.told in absurd cc
      ends x (inr (inl (inr back))) = let clash = back.2.0 in absurd cc
      ends x (inr (inr goes)) = absurd goes.0

-- ---- commits

module _ (g : Geometry) (o : Opening) (found : List LogRecord) (es : List Entry) (s : State) (k : IsStateAfter o found es s) (session n : ℕ) (new : State) where
  same_number : (m : ℕ) → Durable n ≡ Durable m → n ≡ m
  same_number m e = cc

  -- it has its record, and that is not durable
  abbrev pub WaitsTruly : Call → Type 0
  WaitsTruly c = WaitsForItsRecord s session c n new × (new.durable < n) × (n ≤ length new.log)

  rollback_truly : (global : List ℕ) (b : SessionTxn) (d : State) → DecidesRollback s global b d → RollsBack d session global b (Waits (Durable n)) new → (new.durable < n) × (n ≤ length new.log)
  rollback_truly global b d by to =
      let number = same_number (rollback_number b.txn d.log) to.1 in
      let its = its_record g o found es s k session global b d (made_by s global b d by) (has_decided g o found es s k session global b d by) in
      let within = its.within in
      let forced = ap (λ (x : State). x.durable) to.2 in
      let less = to.0 in
      let on = (done_further d b).on in
      let longer = ap length on.1 ∙ length-append d.log on.0 in
      let log = ap (λ (x : State). length x.log) to.2 in
      (omega (arith, number, forced, less), omega (arith, number, within, log, longer))

  resolves : (c : Call) → CommitWaits s session c (Durable n) new ⊎ RollbackWaits s session c (Durable n) new → WaitsTruly c
  resolves c (inl t) =
      let number = same_number (next_number s) t.waits in
      let forced = ap (λ (x : State). x.durable) t.left in
      let log = ap (λ (x : State). length x.log) t.left in
      let longer = length-push s.log (record { txn = t.txn.txn; previous = previous_of t.txn.txn s.log; payload = payload.Commit }) in
      let most = k.forced.most in
      (inr (inl (t.global, t.is, number, (t.txn, t.resolvable, t.left))), omega (arith, number, forced, most), omega (arith, number, log, longer))
  resolves c (inr t) = let truly = rollback_truly t.global t.txn t.decided t.by t.to in (inr (inr (t.global, t.is, (t.txn, t.decided, t.by, t.to))), truly.0, truly.1)

  appends : (c : Call) → AppendsIn g s new session c n → WaitsTruly c
  appends c t =
      let most = k.forced.most in
      let prepares = t.3 in
      let number = same_number (next_number s) prepares.2.3 in
      let forced = ap (λ (x : State). x.durable) prepares.2.4 in
      let log = ap (λ (x : State). length x.log) prepares.2.4 in
      let longer = length-push s.log (record { txn = t.0.txn; previous = previous_of t.0.txn s.log; payload = payload.Prepare prepares.0 (granules_in_ex s t.0) }) in
      (inl (prepares.0, prepares.1, number, (t.0, t.1, prepares.2.4)), omega (arith, number, forced, most), omega (arith, number, log, longer))

  at_once : (c : Call) → CallStep g s session c (Waits (Durable n)) new → WaitsTruly c
  at_once c h = ⊎_elim (appends c) (resolves c) (waits_on_record g s new session c n h)

  pub settled_record_waits : (c : Call) → SettledCall g s session c (Waits (Durable n)) new → WaitsTruly c
  settled_record_waits c h = ⊎_elim
      (λ once. at_once c once.1)
      (λ came. ⊎_elim
      (λ still. let clash = still.step_is in absurd cc)
      (⊎_elim
      (⊎_elim (λ told. let clash = told.told in absurd cc) (λ back. let clash = back.2.0 in absurd cc))
      (λ goes.
      let p = midway_paused g o found es s k session c came.between came.from came.midway in
      absurd (resume_undecided session (txn_of s.sessions session) c p.at g came.from p.waits p.stays.waits.once (Waits (Durable n)) new goes.1 n refl)))
      came.ends)
      (settled_call_to g s session c (Waits (Durable n)) new h)

  -- a commit that waits: its record is that one, which is in the log and not durable, and nothing has changed
  pub record WaitsOnCommit : Type 0 where
    pub waited : Waiting
    pub there : IsAmong waited s.waiting
    pub of : waited.session ≡ session
    pub lock : waited.wait ≡ Durable n
    pub commit : IsDecisionWait (length found) s waited
    pub above : s.durable < n
    pub is : new ≡ s

  waits_on : (w : Waiting) → IsAmong w s.waiting → w.session ≡ session → (wait : Wait) → w.wait ≡ wait → ResumesWait g s w wait (Waits (Durable n)) new → WaitsOnCommit
  waits_on w m of (Durable n') is (inl h) =
      let same = same_number n' (its_wait h.1) in
      record { waited = w; there = m; of = of; lock = is ∙ ap Durable (sym same); commit = commit_in w m n' is (k.waits.each w m); above = subst (λ x. s.durable < x) (sym same) h.0; is = h.2 }
    where
      its_wait : Waits (Durable n) ≡ Waits (Durable n') → Durable n ≡ Durable n'
      its_wait e = cc

      commit_in : (w : Waiting) → IsAmong w s.waiting → (m : ℕ) → w.wait ≡ Durable m → IsDecisionWait (length found) s w ⊎ IsLockWait s w → IsDecisionWait (length found) s w
      commit_in w there m is (inl c) = c
      commit_in w there m is (inr l) = absurd (durable_no_lock m l.at (sym is ∙ l.is))
  waits_on w m of (Durable n') is (inr (inl h)) = let clash = h.1 in absurd cc
  waits_on w m of (Durable n') is (inr (inr h)) = let clash = h.1 in absurd cc
  waits_on w m of (Lock at) is h = ⊎_elim
      (λ still. let clash = still.1 in absurd cc)
      (λ free. let clash = free.1.4 in absurd cc)
      h.2

  by_resume : ResumeStep g s session (Waits (Durable n)) new → WaitsOnCommit
  by_resume (inl h) = let clash = h.1 in absurd cc
  by_resume (inr h) = ⊎_elim (λ failed. let clash = failed.1 in absurd cc) (λ runs. waits_on h.0 h.1 h.2 h.0.wait refl runs.1) h.3

  pub settled_resume_waits_on : SettledResume g s session (Waits (Durable n)) new → WaitsOnCommit
  settled_resume_waits_on h = ⊎_elim
      by_resume
      (⊎_elim
      (λ told. let clash = told.told in absurd cc)
      (λ on. ⊎_elim
      (λ still. let clash = still.step_is in absurd cc)
      (⊎_elim
      (⊎_elim (λ told. let clash = told.told in absurd cc) (λ back. let clash = back.2.0 in absurd cc))
      (λ goes.
      let start : IsPaused g o found es session (txn_of s.sessions session) on.0.call s = record { stays = k; at = on.0.at; waits = on.0.waits } in
      let p = (kept_midway g o found es session (txn_of s.sessions session) on.0.call (λ y. Unit {0}) (λ y later e q t i. tt) s on.1.between on.1.from start tt on.1.intervene).0 in
      absurd (resume_undecided session (txn_of s.sessions session) on.0.call p.at g on.1.from p.waits p.stays.waits.once (Waits (Durable n)) new goes.1 n refl)))
      on.1.ends))
      (settled_resume_to g s session (Waits (Durable n)) new h)
