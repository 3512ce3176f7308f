-- Calls and resumes that no victim is needed for: they wait for no lock, or are the only ones that wait.
use Rattle.std.proofs.Common.{◌≡◌, ◌⊎◌, inl, inr, ⊎_elim, ℕ, List, [], ◌∷◌, true, false, None, Some, refl, sym, ap, ◌∙◌}
use Rattle.std.specs.Prelude.{Option, is_some}
use Rattle.std.specs.List.{AllByRecursion}
use Rattle.std.proofs.lemmas.Bool.{cases_Bool}
use Rattle.shore_types.specs.declared.layout.Geometry.{Geometry}
use Rattle.shore_types.specs.declared.locking.Granule.{Granule}
use Rattle.shore_model.specs.declared.calls.Call.{Call}
use Rattle.shore_model.specs.declared.requests.Request.{Request}
use Rattle.shore_model.specs.Requests.{WaitsFor}
use Rattle.shore_locks.proofs.Members.{In}
use Rattle.shore_locks.specs.Tables.{is_waiting, waiting_request}
use Rattle.shore_cycles.proofs.Steps.{quiet_waits_not, waits_as}
use Rattle.shore_cycles.specs.Cycles.{IsOnNoCycle}
use Rattle.laws_lives.specs.Sessions.{SessionTxn}
use Rattle.shore_model.specs.declared.step.Step.{Step}
use Rattle.shore_model.specs.declared.step.Step.TheVariants.{Waits}
use Rattle.shore_model.specs.declared.step.Wait.TheVariants.{Lock}
use Rattle.laws_calls.specs.CallSteps.{CallStep, ResumeStep}
use Rattle.laws_calls.specs.Settling.{SettledCall, SettledResume, WaitsForNoLock}
use Rattle.laws_calls.specs.States.{IsOfSession, State}

module _ (g : Geometry) (s : State) (session : ℕ) where
  pub at_once : (c : Call) (step : Step) (new : State) → CallStep g s session c step new → WaitsForNoLock step → SettledCall g s session c step new
  at_once c step new h free = record { first = step; mid = new; rounds = []; calls = h; settles = (free, refl, refl) }

  pub resumed_at_once : (step : Step) (new : State) → ResumeStep g s session step new → WaitsForNoLock step → SettledResume g s session step new
  resumed_at_once step new h free = inr (inr (record { first = step; mid = new; rounds = []; resumes = h; settles = (free, refl, refl) }))

  -- it waits, and no cycle passes it
  pub waits_at_once : (c : Call) (at : Granule) (new : State) → CallStep g s session c (Waits (Lock at)) new → (a : SessionTxn) → IsOfSession new session a
      → is_waiting a.txn new.locks.requests ≡ true → IsOnNoCycle new.locks.requests a.txn → SettledCall g s session c (Waits (Lock at)) new
  waits_at_once c at new h a of waits none = record {
    first = Waits (Lock at);
    mid = new;
    rounds = [] ∷ [];
    calls = h;
    settles = (a, at, new, of, refl, refl, inl (refl, inl (waits, none, refl, refl)));
  }

-- ---- who waits alone

-- who waits for somebody waits
pub waiter_waits : (rs : List Request) (t u : ℕ) → WaitsFor rs t u → is_waiting t rs ≡ true
waiter_waits rs t u h = ⊎_elim (λ waits. waits) (λ quiet. absurd (quiet_waits_not t rs quiet u h)) (cases_Bool (is_waiting t rs))

-- on a cycle two wait, one for the other
pub lone_waiter_is_on_no_cycle : (rs : List Request) (t : ℕ) → ((u : ℕ) → is_waiting u rs ≡ true → u ≡ t) → IsOnNoCycle rs t
lone_waiter_is_on_no_cycle rs t lone [] closed passes = absurd closed
lone_waiter_is_on_no_cycle rs t lone (u ∷ []) closed passes = closed.0 refl
lone_waiter_is_on_no_cycle rs t lone (u ∷ v ∷ []) closed passes =
    closed.0.0 (lone u (waiter_waits rs u v closed.0) ∙ sym (lone v (waiter_waits rs v u closed.1)))
lone_waiter_is_on_no_cycle rs t lone (u ∷ v ∷ w ∷ ws) closed passes =
    closed.0.0 (lone u (waiter_waits rs u v closed.0) ∙ sym (lone v (waiter_waits rs v w closed.1.0)))

-- the requests of others want nothing
abbrev pub IsItsOrIdle : ℕ → Request → Type 0
IsItsOrIdle t r = (is_some r.wanted ≡ false) ⊎ (r.txn ≡ t)

its_or_idle : (t : ℕ) (r : Request) (rs : List Request) → AllByRecursion (IsItsOrIdle t) rs → In r rs → is_some r.wanted ≡ true → r.txn ≡ t
its_or_idle t r [] all there wants = absurd there
its_or_idle t r (x ∷ rs) all (inr later) wants = its_or_idle t r rs all.1 later wants
its_or_idle t r (x ∷ rs) all (inl same) wants =
    ⊎_elim
    (λ idle. let clash : true ≡ false = sym wants ∙ ap (λ (y : Request). is_some y.wanted) (sym same) ∙ idle in absurd cc)
    (λ its. ap (λ (y : Request). y.txn) (sym same) ∙ its)
    all.0

pub waits_alone : (t : ℕ) (rs : List Request) → AllByRecursion (IsItsOrIdle t) rs → (u : ℕ) → is_waiting u rs ≡ true → u ≡ t
waits_alone t rs all u waits = by (waiting_request u rs) refl waits
  where
    by : (o : Option Request) → waiting_request u rs ≡ o → is_some o ≡ true → u ≡ t
    by None is some = absurd cc
    by (Some r) is some = let w = waits_as u rs r is in sym w.by ∙ its_or_idle t r rs all w.there w.wants
