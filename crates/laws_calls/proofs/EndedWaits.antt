-- A session whose call was answered or refused behind its wait waits no more, and a refusal without a device's or a page's fault fails nothing.
use Rattle.std.proofs.Common.{◌≡◌, ◌≢◌, inl, inr, ⊎_elim, ℕ, refl, ap, subst, ◌∙◌, List}
use Rattle.shore_types.specs.declared.faults.Device.{Device}
use Rattle.shore_types.specs.declared.faults.Fault.{Fault}
use Rattle.shore_types.specs.declared.faults.Fault.TheVariants as fault
use Rattle.shore_types.specs.declared.layout.Geometry.{Geometry}
use Rattle.shore_model.specs.declared.calls.Answer.{Answer}
use Rattle.shore_model.specs.declared.calls.Call.{Call}
use Rattle.shore_model.specs.declared.calls.Call.TheVariants as call
use Rattle.shore_model.specs.declared.rollbacks.Rollback.{Rollback}
use Rattle.shore_model.specs.declared.rollbacks.Rollback.TheVariants.{To, Whole}
use Rattle.laws_lives.specs.Sessions.{SessionTxn}
use Rattle.laws_calls.proofs.RollingLeaves.{unwound_runs}
use Rattle.laws_calls.specs.Rollbacks.{IsInterrupted}
use Rattle.laws_lives.specs.Views.{IsAmong}
use Rattle.shore_model.specs.declared.step.Step.TheVariants.{Done, Refused}
use Rattle.shore_model.specs.declared.step.Wait.{Wait}
use Rattle.shore_model.specs.declared.step.Wait.TheVariants.{Durable, Lock}
use Rattle.laws_calls.proofs.AfterRefusals.{goes_leaves}
use Rattle.laws_calls.proofs.SessionInversions.{answered_from}
use Rattle.laws_calls.proofs.WrongResumes.{of_another}
use Rattle.laws_calls.specs.StateChanges.{after_refusal, wait_refused}
use Rattle.laws_calls.specs.CallSteps.{AnswersBehind, CallGoesOn, InnerStep, LacksMemory, RefusesBehind, ResumesWait, CallStep, ResumeStep, behind_lock}
use Rattle.laws_calls.specs.States.{DoesNotWait, State, Waiting, without_waiting}
use Rattle.laws_calls.specs.Resolves.{DecidesRollback}
use Rattle.laws_calls.proofs.Outside.{outside_refused}

-- ---- who waits

module _ (g : Geometry) (l : State) (a : SessionTxn) (new : State) where
  pub answers_wait : (c : Call) (answer : Answer) → AnswersBehind g l a c answer new → new.waiting ≡ l.waiting
  answers_wait (call.Get id) answer h = ap (λ (s : State). s.waiting) h.1
  answers_wait (call.GetForUpdate id) answer h = ap (λ (s : State). s.waiting) h.1
  answers_wait (call.Insert store bytes) answer h = ap (λ (s : State). s.waiting) h.3.2
  answers_wait (call.Update id bytes) answer h = ap (λ (s : State). s.waiting) h.2.2
  answers_wait (call.Delete id) answer h = ap (λ (s : State). s.waiting) h.2.2
  answers_wait (call.Scan store) answer h = ap (λ (s : State). s.waiting) h.1
  answers_wait (call.Lock at mode) answer h = ap (λ (s : State). s.waiting) h.1
  answers_wait (call.TryLock at mode) answer h = ap (λ (s : State). s.waiting) h.1
  answers_wait _ answer h = absurd h

module _ (g : Geometry) (s new : State) (session : ℕ) where
  no_more : (n : ℕ) → n ≡ session → new.waiting ≡ without_waiting n s.waiting → DoesNotWait new session
  no_more n of is w there =
      of_another session s.waiting w (subst (λ (m : ℕ). IsAmong w (without_waiting m s.waiting)) of (subst (IsAmong w) is there))

  answered_on : (w : Waiting) → w.session ≡ session → (wait : Wait) (answer : Answer) → ResumesWait g s w wait (Done answer) new → DoesNotWait new session
  answered_on w of (Durable n) answer (inl h) = let clash = h.1 in absurd cc
  answered_on w of (Durable n) answer (inr (inl h)) = no_more w.session of (ap (λ (s : State). s.waiting) h.2.4)
  answered_on w of (Durable n) answer (inr (inr h)) = no_more w.session of (ap (λ (s : State). s.waiting) h.2.3)
  answered_on w of (Lock at) answer h =
      ⊎_elim
      (λ still. let clash = still.1 in absurd cc)
      (λ goes.
      let t = answered_from g (wait_refused s w.session) h.0 w.call new answer goes.1 in
      no_more w.session of (answers_wait g (behind_lock (wait_refused s w.session) h.0 w.call t.lock) h.0 new w.call answer t.behind))
      h.2

  pub answered_waits_no_more : (answer : Answer) → ResumeStep g s session (Done answer) new → DoesNotWait new session
  answered_waits_no_more answer (inl h) = let clash = h.1 in absurd cc
  answered_waits_no_more answer (inr h) = ⊎_elim (λ failed. let clash = failed.1 in absurd cc) (λ runs. answered_on h.0 h.2 h.0.wait answer runs.1) h.3

  refused_on : (w : Waiting) → w.session ≡ session → (wait : Wait) (f : Fault) → ResumesWait g s w wait (Refused f) new → DoesNotWait new session
  refused_on w of (Durable n) f (inl h) = let clash = h.1 in absurd cc
  refused_on w of (Durable n) f (inr (inl h)) = let clash = h.1 in absurd cc
  refused_on w of (Durable n) f (inr (inr h)) = let clash = h.1 in absurd cc
  refused_on w of (Lock at) f h =
      ⊎_elim
      (λ still. let clash = still.1 in absurd cc)
      (λ goes. no_more w.session of (ap (λ (s : State). s.waiting) (goes_leaves g (wait_refused s w.session) new h.0 w.call f goes.1)))
      h.2

  pub refused_waits_no_more : (f : Fault) → ResumeStep g s session (Refused f) new → DoesNotWait new session
  refused_waits_no_more f (inl h) = let clash = h.1 in absurd cc
  refused_waits_no_more f (inr h) =
      ⊎_elim (λ failed. no_more h.0.session h.2 (ap (λ (s : State). s.waiting) failed.2)) (λ runs. refused_on h.0 h.2 h.0.wait f runs.1) h.3

  -- ---- what does not fail

  abbrev pub Runs : Fault → Type 0
  Runs f = (f ≢ fault.Device) × ((device : Device) (offset : ℕ) → f ≢ fault.Damaged device offset)

  after_runs : (l : State) (f : Fault) → Runs f → (after_refusal f l).failed ≡ l.failed
  after_runs l fault.Device runs = absurd (runs.0 refl)
  after_runs l (fault.Damaged device offset) runs = absurd (runs.1 device offset refl)
  after_runs l _ runs = refl

  left : (l : State) (f : Fault) → Runs f → new ≡ after_refusal f l → new.failed ≡ l.failed
  left l f runs is = ap (λ (s : State). s.failed) is ∙ after_runs l f runs

  behind_runs : (l : State) (a : SessionTxn) (c : Call) (f : Fault) → Runs f → RefusesBehind g l a c f new → new.failed ≡ l.failed
  behind_runs l a (call.Get id) f runs h = left l f runs h.1
  behind_runs l a (call.GetForUpdate id) f runs h = left l f runs h.1
  behind_runs l a (call.Insert store bytes) f runs (inl h) = ap (λ (s : State). s.failed) h.2
  behind_runs l a (call.Insert store bytes) f runs (inr (inl h)) = ap (λ (s : State). s.failed) h.1.3
  behind_runs l a (call.Insert store bytes) f runs (inr (inr (inl h))) = ap (λ (s : State). s.failed) h.1.3
  behind_runs l a (call.Insert store bytes) f runs (inr (inr (inr h))) = left l f runs h.1
  behind_runs l a (call.Update id bytes) f runs h = left l f runs h.1
  behind_runs l a (call.Delete id) f runs h = left l f runs h.1
  behind_runs l a (call.Scan store) f runs h = left l f runs h.1
  behind_runs l a _ f runs h = absurd h

  memory_runs : (a : SessionTxn) (c : Call) → LacksMemory g s a c new → new.failed ≡ s.failed
  memory_runs a c (inl same) = ap (λ (s : State). s.failed) same
  memory_runs a c (inr h) =
      ⊎_elim (λ same. ap (λ (s : State). s.failed) same) (λ more. ap (λ (s : State). s.failed) more.5) h.2 ∙ ap (λ (s : State). s.failed) h.1.3

  pub goes_runs : (a : SessionTxn) (c : Call) (f : Fault) → Runs f → CallGoesOn g s a c (Refused f) new → new.failed ≡ s.failed
  goes_runs a c f runs (inl h) = memory_runs a c h.1
  goes_runs a c f runs (inr (inl h)) = ap (λ (s : State). s.failed) h.3
  goes_runs a c f runs (inr (inr h)) = behind_runs h.0 a c f runs h.2 ∙ ap (λ (s : State). s.failed) h.1.3

  interrupted_runs : (a : SessionTxn) (r : Rollback) (f : Fault) → Runs f → IsInterrupted s a r f new → new.failed ≡ s.failed
  interrupted_runs a r f runs h = left h.0 f runs h.3 ∙ unwound_runs s a r h.0 h.1

  inner_runs : (a : SessionTxn) (c : Call) (f : Fault) → Runs f → InnerStep g s a c (Refused f) new → new.failed ≡ s.failed
  inner_runs a c f runs (inl h) = ap (λ (s : State). s.failed) h.3
  inner_runs a c f runs (inr (inl (whole, inl h))) = ap (λ (s : State). s.failed) h.3
  inner_runs a c f runs (inr (inl (whole, inr (inl h)))) = goes_runs a c f runs h.1
  inner_runs a c f runs (inr (inl (whole, inr (inr (inl h))))) = absurd h.1
  inner_runs a c f runs (inr (inl (whole, inr (inr (inr (inl h)))))) = ap (λ (s : State). s.failed) h.1.2
  inner_runs a c f runs (inr (inl (whole, inr (inr (inr (inr h)))))) = ap (λ (s : State). s.failed) h.2.1
  inner_runs a c f runs (inr (inr (inl h))) = ⊎_elim (λ late. ap (λ (s : State). s.failed) late.2) (λ rolls. interrupted_runs a (To h.0) f runs rolls.1) h.3
  inner_runs a c f runs (inr (inr (inr h))) = interrupted_runs a Whole f runs h.1

  pub refusal_runs : (c : Call) (f : Fault) → f ≢ fault.Device → ((device : Device) (offset : ℕ) → f ≢ fault.Damaged device offset)
      → CallStep g s session c (Refused f) new → new.failed ≡ s.failed
  refusal_runs c f device damaged (inl h) = ap (λ (s : State). s.failed) h.1
  refusal_runs c f device damaged (inr (inl h)) = ap (λ (s : State). s.failed) h.2
  refusal_runs c f device damaged (inr (inr (inl h))) = ap (λ (s : State). s.failed) h.3
  refusal_runs c f device damaged (inr (inr (inr (inl h)))) = ap (λ (s : State). s.failed) h.3.1
  refusal_runs c f device damaged (inr (inr (inr (inr (inl h))))) = ap (λ (s : State). s.failed) h.5
  refusal_runs c f device damaged (inr (inr (inr (inr (inr (inr (inl h))))))) = ap (λ (s : State). s.failed) h.5
  refusal_runs c f device damaged (inr (inr (inr (inr (inr (inr (inr h))))))) = ⊎_elim
      (λ early. ap (λ (s : State). s.failed) early.same)
      (λ stopped. left stopped.how.0 f (device, damaged) stopped.how.3 ∙ unwound_runs stopped.decided stopped.txn Whole stopped.how.0 stopped.how.1 ∙ decided_runs stopped.global stopped.txn stopped.decided stopped.by)
      (outside_refused s session c f new h.2)
    where
      decided_runs : (global : List ℕ) (b : SessionTxn) (d : State) → DecidesRollback s global b d → d.failed ≡ s.failed
      decided_runs global b d (inl x) = ap (λ (y : State). y.failed) x.3
      decided_runs global b d (inr x) = ap (λ (y : State). y.failed) x.1
  refusal_runs c f device damaged (inr (inr (inr (inr (inr (inl h)))))) =
      inner_runs h.2.0 c f (device, damaged) h.2.2
