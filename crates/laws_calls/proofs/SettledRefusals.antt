-- Refusals of calls and resumes as a whole: each is earned in the state in which the call asks last, or its transaction is the victim of a cycle.
use Rattle.std.specs.Prelude.{IsTrue}
use Rattle.std.proofs.Common.{◌≡◌, ◌≢◌, ◌⊎◌, inl, inr, ⊎_elim, ℕ, List, Some, sym, ap, subst, ◌∙◌}
use Rattle.shore_types.specs.declared.faults.Fault.{Fault}
use Rattle.shore_types.specs.declared.faults.Fault.TheVariants as fault
use Rattle.shore_types.specs.declared.layout.Geometry.{Geometry}
use Rattle.shore_model.specs.declared.calls.Call.{Call}
use Rattle.shore_model.specs.declared.histories.Entry.{Entry}
use Rattle.shore_model.specs.declared.histories.Opening.{Opening}
use Rattle.shore_model.specs.declared.log_records.LogRecord.{LogRecord}
use Rattle.shore_model.specs.declared.step.Step.TheVariants.{Refused}
use Rattle.laws_lives.specs.Views.{IsAmong}
use Rattle.laws_calls.proofs.Causes.{call_earns}
use Rattle.laws_calls.proofs.SessionInversions.{same_fault}
use Rattle.laws_calls.proofs.SettledAsks.{AskedLast, IsRefusedSo, RefusedResume, StoppedAt, call_asked_last, resume_refused_so}
use Rattle.laws_calls.proofs.SettledDeadlocks.{StoodMidway, cycles_stood, cycles_stood_before}
use Rattle.laws_calls.specs.CallHistories.{txn_of}
use Rattle.laws_calls.specs.CallSteps.{CallStep}
use Rattle.laws_calls.specs.Causes.{EarnsRefusal}
use Rattle.laws_calls.specs.Events.{IsStateAfter}
use Rattle.laws_calls.specs.Midway.{AsksAgainIn, AsksIn, Interlude, Intervene, IsItsCycle, IsMidway}
use Rattle.laws_calls.specs.Settling.{SettledCall, SettledResume}
use Rattle.laws_calls.specs.Shapes.{LockWaitsMayAsk}
use Rattle.laws_calls.specs.States.{State, Waiting}
use Rattle.laws_calls.specs.Victims.{TellsVictim}

abbrev IsNoDeadlock : Fault → Type 0
IsNoDeadlock f = (cycle : List ℕ) → f ≢ fault.Deadlock cycle

same_told : (f : Fault) (cycle : List ℕ) → Refused f ≡ Refused (fault.Deadlock cycle) → f ≡ fault.Deadlock cycle
same_told f cycle is = same_fault f (fault.Deadlock cycle) is

same_list : (x y : List ℕ) → fault.Deadlock x ≡ fault.Deadlock y → x ≡ y
same_list x y e = cc

module _ (g : Geometry) (o : Opening) (found : List LogRecord) (es : List Entry) (s : State) (k : IsStateAfter o found es s) (session : ℕ) where
  -- ---- calls

  module _ (c : Call) where
    abbrev pub IsEarned : Fault → State → Type 0
    IsEarned f new = (last : State) × AsksIn g s session c last × CallStep g last session c (Refused f) new × EarnsRefusal g last session c f

    pub settled_call_earned : (f : Fault) (new : State) → IsNoDeadlock f → f ≢ fault.Memory → SettledCall g s session c (Refused f) new → IsEarned f new
    settled_call_earned f new none ample h = ⊎_elim asked stopped (call_asked_last g o found es s k session c (Refused f) new h)
      where
        asked : AskedLast g o found es s k session c (Refused f) new → IsEarned f new
        asked t = (t.last, t.asks, t.calls, call_earns g o found es t.last t.stays session c f new t.calls)

        stopped : StoppedAt g o found es s k session c (Refused f) new → IsEarned f new
        stopped t = ⊎_elim
            (λ still. let clash = still.step_is in absurd cc)
            (⊎_elim
            (λ told. absurd (none told.cycle (same_told f told.cycle told.told)))
            (λ back. absurd (ample (same_fault f fault.Memory back.2.0))))
            t.ends

    pub settled_call_deadlock : (cycle : List ℕ) (new : State) → SettledCall g s session c (Refused (fault.Deadlock cycle)) new
        → (between : List Interlude) × (x : State) × IsMidway g s session c between x × IsItsCycle x session cycle
        × ((later : List Interlude) × (from : State) × Intervene g session x later from × TellsVictim from session (Refused (fault.Deadlock cycle)) new)
    settled_call_deadlock cycle new h = ⊎_elim
        (λ t. absurd (call_earns g o found es t.last t.stays session c (fault.Deadlock cycle) new t.calls))
        (λ t. ⊎_elim
        (λ still. let clash = still.step_is in absurd cc)
        (⊎_elim
        (λ told.
        let same : told.cycle ≡ cycle = sym (same_list cycle told.cycle (same_fault (fault.Deadlock cycle) (fault.Deadlock told.cycle) told.told)) in
        let stood = subst (StoodMidway g o found es s k session c t.from) same (cycles_stood g o found es s k session c t.between t.from t.midway told.waited told.there told.of told.cycle told.victim) in
        (stood.0, stood.1, stood.2, stood.3, (stood.4.0, t.from, stood.4.1, told)))
        (λ back. let clash = same_fault (fault.Deadlock cycle) fault.Memory back.2.0 in absurd cc))
        t.ends)
        (call_asked_last g o found es s k session c (Refused (fault.Deadlock cycle)) new h)

  -- ---- resumes

  module _ (may : LockWaitsMayAsk g s) where
    abbrev pub IsEarnedAgain : Waiting → Fault → State → Type 0
    IsEarnedAgain w f new =
        (IsTrue s.failed × (f ≡ fault.Failed))
        ⊎ ((last : State) × AsksAgainIn g s session last × CallStep g last session w.call (Refused f) new × EarnsRefusal g last session w.call f)

    pub settled_resume_earned : (f : Fault) (new : State) → IsNoDeadlock f → f ≢ fault.Memory → SettledResume g s session (Refused f) new
        → (w : Waiting) × IsAmong w s.waiting × (w.session ≡ session) × IsEarnedAgain w f new
    settled_resume_earned f new none ample h =
        let t = resume_refused_so g o found es s k may session f new h in (t.waited, t.there, t.of, by t t.so)
      where
        by : (t : RefusedResume g o found es s k may session f new) → IsRefusedSo g o found es s k may session t.waited f new → IsEarnedAgain t.waited f new
        by t (inl failed) = inl failed
        by t (inr (inl stopped)) = ⊎_elim
            (λ told. absurd (none told.cycle (same_told f told.cycle told.told)))
            (λ back. absurd (ample (same_fault f fault.Memory back.2.0)))
            stopped.4
        by t (inr (inr asked)) = inr (asked.0, asked.1, asked.3, call_earns g o found es asked.0 asked.2 session t.waited.call f new asked.3)

    pub settled_resume_deadlock : (cycle : List ℕ) (new : State) → SettledResume g s session (Refused (fault.Deadlock cycle)) new
        → ((w : Waiting) × IsAmong w s.waiting × (w.session ≡ session) × (w.cycle ≡ Some cycle))
        ⊎ ((between : List Interlude) × (x : State) × Intervene g session s between x × IsItsCycle x session cycle
        × ((later : List Interlude) × (from : State) × Intervene g session x later from × TellsVictim from session (Refused (fault.Deadlock cycle)) new))
    settled_resume_deadlock cycle new h =
        let t = resume_refused_so g o found es s k may session (fault.Deadlock cycle) new h in ⊎_elim
        (λ failed. let clash = failed.1 in absurd cc)
        (⊎_elim
        (λ stopped. ⊎_elim
        (λ told.
        let same : told.cycle ≡ cycle = sym (same_list cycle told.cycle (same_fault (fault.Deadlock cycle) (fault.Deadlock told.cycle) told.told)) in
        ⊎_elim
        (λ before. inl (before.0, before.1, before.2, before.3 ∙ ap Some same))
        (λ stood. inr (stood.0, stood.1, stood.2, subst (IsItsCycle stood.1 session) same stood.3, (stood.4.0, stopped.1, stood.4.1, told)))
        (cycles_stood_before g o found es s session (txn_of s.sessions session) t.waited.call stopped.3 stopped.0 stopped.1 stopped.2 told.waited told.there told.of told.cycle told.victim))
        (λ back. let clash = same_fault (fault.Deadlock cycle) fault.Memory back.2.0 in absurd cc)
        stopped.4)
        (λ asked. absurd (call_earns g o found es asked.0 asked.2 session t.waited.call (fault.Deadlock cycle) new asked.3)))
        t.so
