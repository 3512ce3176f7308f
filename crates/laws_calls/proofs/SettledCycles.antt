-- Once a call and a resume have settled, no cycle of waits is left: so it is after any events.
use Rattle.std.proofs.Common.{◌≡◌, inl, inr, ⊎_elim, ◌++◌, ◌∷◌, ℕ, List, [], true, false, None, Some, refl, sym, ap, subst, ◌∙◌}
use Rattle.shore_types.specs.declared.layout.Geometry.{Geometry}
use Rattle.shore_model.specs.declared.calls.Call.{Call}
use Rattle.shore_model.specs.declared.histories.Entry.{Entry}
use Rattle.shore_model.specs.declared.histories.Opening.{Opening}
use Rattle.shore_model.specs.declared.log_records.LogRecord.{LogRecord}
use Rattle.shore_model.specs.declared.requests.Request.{Request}
use Rattle.shore_model.specs.Requests.{HasNoCycle}
use Rattle.shore_locks.proofs.Members.{Contains-In}
use Rattle.shore_locks.proofs.Outcomes.{quiet_after_cancel}
use Rattle.shore_locks.specs.Grants.{cancelled}
use Rattle.shore_locks.specs.Orderly.{IsOrderly}
use Rattle.shore_locks.specs.Tables.{is_waiting}
use Rattle.shore_cycles.proofs.Steps.{cancelled_adds_none, quiet_waits_not}
use Rattle.shore_cycles.proofs.Walks.{cycle_as, member_waits}
use Rattle.shore_cycles.specs.Cycles.{IsOnEachCycle}
use Rattle.shore_cycles.specs.declared.victims.Victim.{Victim}
use Rattle.laws_lives.specs.Sessions.{SessionTxn}
use Rattle.laws_lives.specs.Views.{IsAmong}
use Rattle.shore_model.specs.declared.step.Step.{Step}
use Rattle.laws_calls.proofs.CycleSteps.{ClosesAtMost, call_closes, none_as_before, resume_closes}
use Rattle.laws_calls.proofs.SessionOpens.{sessions_after_open}
use Rattle.laws_calls.proofs.SettledAtOnce.{waiter_waits}
use Rattle.laws_calls.proofs.SettledStates.{HasComeTo, is_broken, resume_comes, session_event_stays, waiting_call_comes}
use Rattle.laws_calls.proofs.SettledWaits.{resume_has_waited}
use Rattle.laws_calls.proofs.VictimSteps.{victim_stays}
use Rattle.laws_calls.specs.CallHistories.{IsOpened, txn_of}
use Rattle.laws_calls.specs.CallSteps.{CallStep, ResumeStep}
use Rattle.laws_calls.specs.Events.{Called, Forced, GaveUp, HasFailed, IsStateAfter, ManagerEvent, Resumed, EventMoves, EventsMove, entries_of, TicketAsked}
use Rattle.laws_calls.specs.GivingUp.{GivesUp}
use Rattle.laws_calls.specs.Settling.{SettledCall, SettledResume, Settles}
use Rattle.laws_calls.specs.States.{IsOfSession, State, Waiting}
use Rattle.laws_calls.specs.Victims.{TakesVictims, TellsVictim}

-- ---- requests

-- if each cycle passes a transaction that waits for nothing, there is none
quiet_free : (rs : List Request) (t : ℕ) → IsOnEachCycle rs t → is_waiting t rs ≡ false → HasNoCycle rs
quiet_free rs t each quiet cycle closed =
    let next = member_waits rs cycle t closed (Contains-In cycle t (each cycle closed)) in
    quiet_waits_not t rs quiet next.0 next.1

-- a request that is taken back adds no cycle
cancelled_each : (rs : List Request) (t u : ℕ) → IsOrderly rs → IsOnEachCycle rs t → IsOnEachCycle (cancelled u rs) t
cancelled_each rs t u orderly each cycle closed = each cycle (cycle_as (cancelled u rs) rs cycle (λ a b in_a in_b h. cancelled_adds_none rs u a b orderly h) closed)

-- nobody waits on a cycle if nobody waits
pub none_in_none : (rs : List Request) → ((t : ℕ) → is_waiting t rs ≡ false) → HasNoCycle rs
none_in_none rs none [] closed = closed
none_in_none rs none (u ∷ us) closed =
    let next = member_waits rs (u ∷ us) u closed (inl refl) in
    let clash : true ≡ false = sym (waiter_waits rs u next.0 next.1) ∙ none u in
    absurd cc

-- ---- victims

victims_each : (o : Opening) (found : List LogRecord) (es : List Entry) (s : State) → IsStateAfter o found es s → (t u : ℕ) (vs : List Victim) (new : State) → TakesVictims s u vs new
    → IsOnEachCycle s.locks.requests t → IsOnEachCycle new.locks.requests t
victims_each o found es s k t u [] new h each = subst (λ (x : State). IsOnEachCycle x.locks.requests t) (sym h) each
victims_each o found es s k t u (v ∷ vs) new h each =
    victims_each o found es h.0 (victim_stays o found es s k u v h.0 h.1) t u vs new h.2
    (subst (λ (x : State). IsOnEachCycle x.locks.requests t) (sym h.1.is) (cancelled_each s.locks.requests t h.1.txn.txn k.sessions.locks.orderly each))

-- who is to be told its cycle waits for nothing
told_quiet : (o : Opening) (found : List LogRecord) (es : List Entry) (s : State) → IsStateAfter o found es s → (session : ℕ) (step : Step) (new : State) → TellsVictim s session step new
    → (a : SessionTxn) → IsOfSession s session a → is_waiting a.txn s.locks.requests ≡ false
told_quiet o found es s k session step new h a of = k.sessions.locks.waits h.running a of.0.0 spared
  where
    spared : (w : Waiting) → IsAmong w s.waiting → w.cycle ≡ None → w.session ≡ a.session → ⊥
    spared w m none same =
        let its : w ≡ h.waited = k.waits.once w h.waited m h.there (same ∙ of.1 ∙ sym h.of) in
        let clash : Some h.cycle ≡ None = sym h.victim ∙ (ap (λ (x : Waiting). x.cycle) (sym its) ∙ none) in
        absurd cc

-- ---- rounds

module _ (g : Geometry) (o : Opening) (found : List LogRecord) (session n : ℕ) (c : Call) (es : List Entry) where
  settles_free : (s : State) (first : Step) (rounds : List (List Victim)) (step : Step) (new : State) → HasComeTo o found session n c es first s → ClosesAtMost n first s
      → Settles g s session first rounds step new → HasNoCycle new.locks.requests
  settles_free s first [] step new k closes h = subst (λ (x : State). HasNoCycle x.locks.requests) (sym h.2) (closes.free h.0)
  settles_free s first (vs ∷ rounds) step new k closes h =
      let a = h.0 in
      let at = h.1 in
      let broken = h.2 in
      let b = is_broken o found session n c es first s k a at broken h.3 h.4 vs h.5 in
      let each = victims_each o found es s b.before n a.txn vs broken h.5 closes.each in
      let its : IsOnEachCycle broken.locks.requests a.txn = subst (IsOnEachCycle broken.locks.requests) (sym b.number) each in
      ⊎_elim
      (λ ends. ⊎_elim
      (λ still. subst (λ (x : State). HasNoCycle x.locks.requests) (sym still.3) (λ cycle closed. still.1 cycle closed (its cycle closed)))
      (λ end. ⊎_elim
      (λ told.
      let quiet : is_waiting n broken.locks.requests ≡ false =
      subst (λ t. is_waiting t broken.locks.requests ≡ false) b.txn_number (told_quiet o found es broken b.stays session step new told b.txn b.of) in
      none_as_before broken new (ap (λ (x : State). x.locks) told.is) (quiet_free broken.locks.requests n each quiet))
      (λ back.
      let orderly = b.stays.sessions.locks.orderly in
      subst (λ (x : State). HasNoCycle x.locks.requests) (sym back.1.1)
      (quiet_free (cancelled a.txn broken.locks.requests) a.txn (cancelled_each broken.locks.requests a.txn a.txn orderly its) (quiet_after_cancel a.txn broken.locks.requests orderly)))
      end)
      ends.1)
      (λ goes.
      let none = quiet_free broken.locks.requests a.txn its goes.2 in
      settles_free goes.1 goes.0 rounds step new
      (resume_comes o found session n c es broken b.stays at b.waits g goes.0 goes.1 goes.3)
      (subst (λ t. ClosesAtMost t goes.0 goes.1) b.waits.number (resume_closes g o found es broken b.stays.sessions none session goes.0 goes.1 goes.3))
      goes.4)
      h.6

-- ---- calls, resumes and events

-- a request that goes closes no cycle
pub given_up_free : (s new : State) (session : ℕ) (step : Step) → IsOrderly s.locks.requests → HasNoCycle s.locks.requests → GivesUp s session step new → HasNoCycle new.locks.requests
given_up_free s new session step orderly none h = subst (λ (x : State). HasNoCycle x.locks.requests) (sym h.is)
    (λ cycle closed. none cycle (cycle_as (cancelled h.txn.txn s.locks.requests) s.locks.requests cycle
    (λ a b in_a in_b waits. cancelled_adds_none s.locks.requests h.txn.txn a b orderly waits) closed))

module _ (g : Geometry) (o : Opening) (found : List LogRecord) (es : List Entry) (s : State) (k : IsStateAfter o found es s) (none : HasNoCycle s.locks.requests) where
  settled_in : (session : ℕ) (c : Call) (step : Step) (new : State) (first : Step) (mid : State) → CallStep g s session c first mid → (rounds : List (List Victim))
      → Settles g mid session first rounds step new → HasNoCycle new.locks.requests
  settled_in session c step new first mid calls [] h =
      subst (λ (x : State). HasNoCycle x.locks.requests) (sym h.2) ((call_closes g o found es s k.sessions none session c first mid calls).free h.0)
  settled_in session c step new first mid calls (vs ∷ rounds) h =
      settles_free g o found session (txn_of s.sessions session) c es mid first (vs ∷ rounds) step new (waiting_call_comes o found es s k g session c first mid h.1 h.4 calls)
      (call_closes g o found es s k.sessions none session c first mid calls) h

  pub settled_call_free : (session : ℕ) (c : Call) (step : Step) (new : State) → SettledCall g s session c step new → HasNoCycle new.locks.requests
  settled_call_free session c step new h = settled_in session c step new h.first h.mid h.calls h.rounds h.settles

  went_on_in : (session : ℕ) (step : Step) (new : State) (first : Step) (mid : State) → ResumeStep g s session first mid → (rounds : List (List Victim))
      → Settles g mid session first rounds step new → HasNoCycle new.locks.requests
  went_on_in session step new first mid resumes [] h =
      subst (λ (x : State). HasNoCycle x.locks.requests) (sym h.2) ((resume_closes g o found es s k.sessions none session first mid resumes).free h.0)
  went_on_in session step new first mid resumes (vs ∷ rounds) h =
      let was = resume_has_waited g s session h.1 first mid h.4 resumes in
      settles_free g o found session (txn_of s.sessions session) was.call es mid first (vs ∷ rounds) step new
      (resume_comes o found session (txn_of s.sessions session) was.call es s k was.at was.waits g first mid resumes)
      (resume_closes g o found es s k.sessions none session first mid resumes) h

  pub settled_resume_free : (session : ℕ) (step : Step) (new : State) → SettledResume g s session step new → HasNoCycle new.locks.requests
  settled_resume_free session step new (inl told) = none_as_before s new (ap (λ (x : State). x.locks) told.is) none
  settled_resume_free session step new (inr (inl still)) = none_as_before s new (ap (λ (x : State). x.locks) still.1) none
  settled_resume_free session step new (inr (inr on)) = went_on_in session step new on.first on.mid on.resumes on.rounds on.settles

  event_free : (new : State) (e : ManagerEvent) → EventMoves g s e new → HasNoCycle new.locks.requests
  event_free new (Called session c step) h = settled_call_free session c step new h.1
  event_free new (Resumed session step) h = settled_resume_free session step new h
  event_free new (GaveUp session step) (inl h) = given_up_free s new session step k.sessions.locks.orderly none h
  event_free new (GaveUp session step) (inr h) = none_as_before s new (ap (λ (x : State). x.locks) h.is) none
  event_free new (Forced n) h = none_as_before s new (ap (λ (x : State). x.locks) h.2) none
  event_free new HasFailed h = none_as_before s new (ap (λ (x : State). x.locks) h) none
  event_free new (TicketAsked ticket answer) h = none_as_before s new (ap (λ (x : State). x.locks) h.1) none

pub events_free : (g : Geometry) (o : Opening) (found : List LogRecord) (es : List Entry) (s : State) (events : List ManagerEvent) (last : State) → IsStateAfter o found es s → HasNoCycle s.locks.requests
    → EventsMove g s events last → HasNoCycle last.locks.requests
events_free g o found es s [] last k none h = subst (λ (x : State). HasNoCycle x.locks.requests) (sym h) none
events_free g o found es s (e ∷ events) last k none h =
    events_free g o found (es ++ entries_of s e h.0) h.0 events last (session_event_stays g o found es s h.0 e k h.1) (event_free g o found es s k none h.0 e h.1) h.2

pub opened_free : (g : Geometry) (o : Opening) (found : List LogRecord) (first : State) (events : List ManagerEvent) (last : State) → IsOpened o found first
    → EventsMove g first events last → HasNoCycle last.locks.requests
opened_free g o found first events last opened h =
    events_free g o found [] first events last (sessions_after_open o found first opened) (none_in_none first.locks.requests opened.locks.nobody_waits) h
