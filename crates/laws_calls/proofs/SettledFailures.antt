-- A refusal as a whole without a device's or a page's fault fails nothing, whatever victims were taken on the way.
use Rattle.std.proofs.Common.{◌≡◌, ◌≢◌, inl, inr, ⊎_elim, ℕ, List, [], ◌∷◌, ap, ◌∙◌}
use Rattle.shore_types.specs.declared.faults.Device.{Device}
use Rattle.shore_types.specs.declared.faults.Fault.{Fault}
use Rattle.shore_types.specs.declared.faults.Fault.TheVariants as fault
use Rattle.shore_types.specs.declared.layout.Geometry.{Geometry}
use Rattle.shore_types.specs.declared.locking.Granule.{Granule}
use Rattle.shore_model.specs.declared.calls.Call.{Call}
use Rattle.shore_model.specs.declared.step.Step.TheVariants.{Refused, Waits}
use Rattle.shore_model.specs.declared.step.Wait.{Wait}
use Rattle.shore_model.specs.declared.step.Wait.TheVariants.{Durable, Lock}
use Rattle.laws_calls.proofs.EndedWaits.{goes_runs, refusal_runs}
use Rattle.laws_calls.proofs.Midway.{settled_call_to, settled_resume_to}
use Rattle.laws_calls.proofs.SessionInversions.{waits_on_lock}
use Rattle.laws_calls.specs.CallSteps.{ResumeStep, ResumesWait}
use Rattle.laws_calls.specs.Midway.{EndsFrom, Interlude, Intervene, IsCutShort, Takes, WaitsAnew}
use Rattle.laws_calls.specs.Settling.{SettledCall, SettledResume}
use Rattle.laws_calls.specs.StateChanges.{wait_refused}
use Rattle.laws_calls.specs.States.{State, Waiting}

same : (x y : State) → x ≡ y → x.failed ≡ y.failed
same x y is = ap (λ (s : State). s.failed) is

-- ---- what comes between

module _ (g : Geometry) (session : ℕ) where
  waits_run : (x new : State) (w : Waiting) (its : Wait) (at : Granule) → ResumesWait g x w its (Waits (Lock at)) new → new.failed ≡ x.failed
  waits_run x new w (Durable n) at (inl h) = let clash = h.1 in absurd cc
  waits_run x new w (Durable n) at (inr (inl h)) = let clash = h.1 in absurd cc
  waits_run x new w (Durable n) at (inr (inr h)) = let clash = h.1 in absurd cc
  waits_run x new w (Lock there) at h = ⊎_elim (λ still. same new x still.2) (λ goes. ap (λ (s : State). s.failed) goes.1.5) h.2

  anew_runs : (x new : State) (at : Granule) → ResumeStep g x session (Waits (Lock at)) new → new.failed ≡ x.failed
  anew_runs x new at (inl h) = let clash = h.1 in absurd cc
  anew_runs x new at (inr h) = ⊎_elim (λ failed. let clash = failed.1 in absurd cc) (λ runs. waits_run x new h.0 h.0.wait at runs.1) h.3

  midway_runs : (x : State) (between : List Interlude) (last : State) → Intervene g session x between last → last.failed ≡ x.failed
  midway_runs x [] last h = same last x h
  midway_runs x (Takes b v ∷ between) last h = midway_runs h.0 between last h.2 ∙ ap (λ (s : State). s.failed) h.1.2.0.is
  midway_runs x (WaitsAnew at ∷ between) last h = midway_runs h.0 between last h.2 ∙ anew_runs x h.0 at h.1

-- ---- calls and resumes

module _ (g : Geometry) (new : State) (session : ℕ) (f : Fault) (device : f ≢ fault.Device) (damaged : (d : Device) (offset : ℕ) → f ≢ fault.Damaged d offset) where
  on_runs : (x : State) (w : Waiting) (its : Wait) → ResumesWait g x w its (Refused f) new → new.failed ≡ x.failed
  on_runs x w (Durable n) (inl h) = let clash = h.1 in absurd cc
  on_runs x w (Durable n) (inr (inl h)) = let clash = h.1 in absurd cc
  on_runs x w (Durable n) (inr (inr h)) = let clash = h.1 in absurd cc
  on_runs x w (Lock at) h = ⊎_elim
      (λ still. let clash = still.1 in absurd cc)
      (λ goes. goes_runs g (wait_refused x w.session) new w.session h.0 w.call f (device, damaged) goes.1)
      h.2

  resumed_runs : (x : State) → ResumeStep g x session (Refused f) new → new.failed ≡ x.failed
  resumed_runs x (inl h) = let clash = h.1 in absurd cc
  resumed_runs x (inr h) = ⊎_elim (λ failed. ap (λ (s : State). s.failed) failed.2) (λ runs. on_runs x h.0 h.0.wait runs.1) h.3

  cut_runs : (x : State) → IsCutShort x session (Refused f) new → new.failed ≡ x.failed
  cut_runs x (inl told) = ap (λ (s : State). s.failed) told.is
  cut_runs x (inr back) = ap (λ (s : State). s.failed) back.2.1

  ends_run : (x : State) → EndsFrom g x session (Refused f) new → new.failed ≡ x.failed
  ends_run x (inl still) = let clash = still.step_is in absurd cc
  ends_run x (inr (inl cut)) = cut_runs x cut
  ends_run x (inr (inr goes)) = resumed_runs x goes.1

  pub settled_call_runs : (s : State) (c : Call) → SettledCall g s session c (Refused f) new → new.failed ≡ s.failed
  settled_call_runs s c h = ⊎_elim
      (λ once. refusal_runs g s new session c f device damaged once.1)
      (λ came.
      let m = came.midway in
      ends_run came.from came.ends
      ∙ midway_runs g session m.waits came.between came.from m.intervene
      ∙ ap (λ (x : State). x.failed) (waits_on_lock g s m.waits session c m.at m.calls).goes.5)
      (settled_call_to g s session c (Refused f) new h)

  pub settled_resume_runs : (s : State) → SettledResume g s session (Refused f) new → new.failed ≡ s.failed
  settled_resume_runs s h = ⊎_elim
      (resumed_runs s)
      (⊎_elim
      (λ told. cut_runs s (inl told))
      (λ on. ends_run on.1.from on.1.ends ∙ midway_runs g session s on.1.between on.1.from on.1.intervene))
      (settled_resume_to g s session (Refused f) new h)
