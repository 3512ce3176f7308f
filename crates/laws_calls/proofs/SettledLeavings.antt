-- What a refused call and a refused resume leave as a whole: the state as it was, but for locks, calls that wait, and transactions that are doomed.
use Rattle.std.proofs.Common.{◌≡◌, ◌⊎◌, inl, inr, ⊎_elim, ◌++◌, ℕ, List, [], ◌∷◌, None, refl, sym, ap, subst, ◌∙◌}
use Rattle.shore_types.specs.declared.faults.Fault.{Fault}
use Rattle.shore_types.specs.declared.layout.Geometry.{Geometry}
use Rattle.shore_types.specs.declared.locking.Granule.{Granule}
use Rattle.shore_model.specs.declared.calls.Call.{Call}
use Rattle.shore_model.specs.declared.holds.Hold.{Hold}
use Rattle.shore_model.specs.declared.step.Step.{Step}
use Rattle.shore_model.specs.declared.step.Step.TheVariants.{Refused, Waits}
use Rattle.shore_model.specs.declared.step.Wait.{Wait}
use Rattle.shore_model.specs.declared.step.Wait.TheVariants.{Durable, Lock}
use Rattle.laws_lives.specs.Sessions.{SessionTxn, Sessions, doomed, locks_moved}
use Rattle.laws_calls.proofs.AfterRefusals.{goes_leaves, refusal_leaves}
use Rattle.laws_calls.proofs.Midway.{CameTo, settled_call_to, settled_resume_to}
use Rattle.laws_calls.proofs.SessionInversions.{waits_on_lock}
use Rattle.laws_calls.specs.CallSteps.{CallStep, ResumeStep, ResumesWait}
use Rattle.laws_calls.specs.Midway.{EndsFrom, Interlude, Intervene, IsCutShort, IsMidway, Takes, WaitsAnew, all_doomed, but_doomed, victims_among}
use Rattle.laws_calls.specs.Settling.{SettledCall, SettledResume}
use Rattle.laws_calls.specs.Shapes.{rollback_of, with_locks_of}
use Rattle.laws_calls.specs.StateChanges.{wait_refused}
use Rattle.laws_calls.specs.States.{State, Waiting}

-- ---- one after another

doomed_later : (s : Sessions) (bs cs : List SessionTxn) → all_doomed s (bs ++ cs) ≡ all_doomed (all_doomed s bs) cs
doomed_later s [] cs = refl
doomed_later s (b ∷ bs) cs = doomed_later (doomed s b) bs cs

doomed_moved : (s : Sessions) (held later : List Hold) (bs : List SessionTxn) → locks_moved (all_doomed (locks_moved s held) bs) later ≡ locks_moved (all_doomed s bs) later
doomed_moved s held later [] = refl
doomed_moved s held later (b ∷ bs) = doomed_moved (doomed s b) held later bs

-- the state with other sessions and what another has
abbrev with_those : State → State → Sessions → State
with_those s other sessions = record s { sessions = sessions; locks = other.locks; waiting = other.waiting; failed = other.failed }

left_later : (s x y : State) (bs cs : List SessionTxn) → x ≡ but_doomed s bs x → y ≡ but_doomed x cs y → y ≡ but_doomed s (bs ++ cs) y
left_later s x y bs cs first last =
    last ∙ ap (λ z. but_doomed z cs y) first
    ∙ ap (with_those s y) (doomed_moved (all_doomed s.sessions bs) x.sessions.held y.sessions.held cs ∙ ap (λ z. locks_moved z y.sessions.held) (sym (doomed_later s.sessions bs cs)))

-- ---- each piece

waits_left : (g : Geometry) (x new : State) (w : Waiting) (its : Wait) (at : Granule) → ResumesWait g x w its (Waits (Lock at)) new → new ≡ but_doomed x [] new
waits_left g x new w (Durable n) at (inl h) = let clash = h.1 in absurd cc
waits_left g x new w (Durable n) at (inr (inl h)) = let clash = h.1 in absurd cc
waits_left g x new w (Durable n) at (inr (inr h)) = let clash = h.1 in absurd cc
waits_left g x new w (Lock there) at h = ⊎_elim
    (λ still. subst (λ (y : State). y ≡ but_doomed x [] y) (sym still.2) refl)
    (λ goes. subst (λ (y : State). y ≡ but_doomed x [] y) (sym goes.1.5) refl)
    h.2

anew_left : (g : Geometry) (x new : State) (session : ℕ) (at : Granule) → ResumeStep g x session (Waits (Lock at)) new → new ≡ but_doomed x [] new
anew_left g x new session at (inl h) = let clash = h.1 in absurd cc
anew_left g x new session at (inr h) = ⊎_elim
    (λ failed. let clash = failed.1 in absurd cc)
    (λ runs. waits_left g x new h.0 h.0.wait at runs.1)
    h.3

locks_only : (s new : State) → new ≡ with_locks_of new s → new ≡ but_doomed s [] new
locks_only s new e = e ∙ sym (ap (λ (ws : List Waiting). record (with_locks_of new s) { waiting = ws }) (ap (λ (y : State). y.waiting) e))

refused_left : (g : Geometry) (s new : State) (session : ℕ) (c : Call) (f : Fault) → rollback_of c ≡ None → CallStep g s session c (Refused f) new → new ≡ but_doomed s [] new
refused_left g s new session c f none h = locks_only s new (refusal_leaves g s new session c f none h)

-- ---- what comes between

module _ (g : Geometry) (session : ℕ) where
  pub midway_left : (x : State) (between : List Interlude) (last : State) → Intervene g session x between last → last ≡ but_doomed x (victims_among between) last
  midway_left x [] last h = subst (λ (y : State). y ≡ but_doomed x [] y) (sym h) refl
  midway_left x (Takes b v ∷ between) last h =
      let taken = h.1.2.0 in
      let one : h.0 ≡ but_doomed x (b ∷ []) h.0 =
      subst (λ (d : SessionTxn). h.0 ≡ but_doomed x (d ∷ []) h.0) h.1.2.1 (subst (λ (y : State). y ≡ but_doomed x (taken.txn ∷ []) y) (sym taken.is) refl) in
      left_later x h.0 last (b ∷ []) (victims_among between) one (midway_left h.0 between last h.2)
  midway_left x (WaitsAnew at ∷ between) last h =
      left_later x h.0 last [] (victims_among between) (anew_left g x h.0 session at h.1) (midway_left h.0 between last h.2)

-- ---- calls and resumes

on_left : (g : Geometry) (x new : State) (session : ℕ) (w : Waiting) (its : Wait) (f : Fault) → ResumesWait g x w its (Refused f) new → new ≡ but_doomed x [] new
on_left g x new session w (Durable n) f (inl h) = let clash = h.1 in absurd cc
on_left g x new session w (Durable n) f (inr (inl h)) = let clash = h.1 in absurd cc
on_left g x new session w (Durable n) f (inr (inr h)) = let clash = h.1 in absurd cc
on_left g x new session w (Lock at) f h = ⊎_elim
    (λ still. let clash = still.1 in absurd cc)
    (λ goes. left_later x (wait_refused x w.session) new [] [] refl (locks_only (wait_refused x w.session) new (goes_leaves g (wait_refused x w.session) new h.0 w.call f goes.1)))
    h.2

pub resumed_left : (g : Geometry) (x new : State) (session : ℕ) (f : Fault) → ResumeStep g x session (Refused f) new → new ≡ but_doomed x [] new
resumed_left g x new session f (inl h) = let clash = h.1 in absurd cc
resumed_left g x new session f (inr h) = ⊎_elim
    (λ failed. subst (λ (y : State). y ≡ but_doomed x [] y) (sym failed.2) refl)
    (λ runs. on_left g x new session h.0 h.0.wait f runs.1)
    h.3

cut_left : (g : Geometry) (x new : State) (session : ℕ) (step : Step) → IsCutShort x session step new → new ≡ but_doomed x [] new
cut_left g x new session step (inl told) = subst (λ (y : State). y ≡ but_doomed x [] y) (sym told.is) refl
cut_left g x new session step (inr back) = subst (λ (y : State). y ≡ but_doomed x [] y) (sym back.2.1) refl

ends_left : (g : Geometry) (x new : State) (session : ℕ) (f : Fault) → EndsFrom g x session (Refused f) new → new ≡ but_doomed x [] new
ends_left g x new session f (inl still) = let clash = still.step_is in absurd cc
ends_left g x new session f (inr (inl cut)) = cut_left g x new session (Refused f) cut
ends_left g x new session f (inr (inr goes)) = resumed_left g x new session f goes.1

no_more : (bs : List SessionTxn) → bs ++ [] ≡ bs
no_more [] = refl
no_more (b ∷ bs) = ap (λ (cs : List SessionTxn). b ∷ cs) (no_more bs)

-- what a resume that has come so far leaves
came_left : (g : Geometry) (s new : State) (session : ℕ) (f : Fault) (came : CameTo g session s (Refused f) new) → new ≡ but_doomed s (victims_among came.between) new
came_left g s new session f came =
    subst (λ bs. new ≡ but_doomed s bs new) (no_more (victims_among came.between))
    (left_later s came.from new (victims_among came.between) [] (midway_left g session s came.between came.from came.intervene) (ends_left g came.from new session f came.ends))

module _ (g : Geometry) (s new : State) (session : ℕ) (f : Fault) where
  -- these came between
  abbrev pub HasComeIn : Call → List Interlude → Type 0
  HasComeIn c between = (between ≡ []) ⊎ ((x : State) × IsMidway g s session c between x)

  pub settled_refusal_leaves : (c : Call) → rollback_of c ≡ None → SettledCall g s session c (Refused f) new
      → (between : List Interlude) × HasComeIn c between × (new ≡ but_doomed s (victims_among between) new)
  settled_refusal_leaves c none h = ⊎_elim
      (λ once. ([], inl refl, refused_left g s new session c f none once.1))
      (λ came.
      let m = came.midway in
      let first : m.waits ≡ but_doomed s [] m.waits = waits_first m in
      let rest = came_left g m.waits new session f (record { between = came.between; from = came.from; intervene = m.intervene; ends = came.ends }) in
      (came.between, inr (came.from, m), left_later s m.waits new [] (victims_among came.between) first rest))
      (settled_call_to g s session c (Refused f) new h)
    where
      waits_first : {between : List Interlude} {x : State} (m : IsMidway g s session c between x) → m.waits ≡ but_doomed s [] m.waits
      waits_first m = subst (λ (y : State). y ≡ but_doomed s [] y) (sym (waits_on_lock g s m.waits session c m.at m.calls).goes.5) refl

  pub settled_resume_leaves : SettledResume g s session (Refused f) new
      → (between : List Interlude) × ((x : State) × Intervene g session s between x) × (new ≡ but_doomed s (victims_among between) new)
  settled_resume_leaves h = ⊎_elim
      (λ step. ([], (s, refl), resumed_left g s new session f step))
      (⊎_elim
      (λ told. ([], (s, refl), cut_left g s new session (Refused f) (inl told)))
      (λ on. (on.1.between, (on.1.from, on.1.intervene), came_left g s new session f on.1)))
      (settled_resume_to g s session (Refused f) new h)
