-- Prepares that must not come, and what they leave.
use Rattle.std.specs.Prelude.{◌&&◌}
use Rattle.std.proofs.Common.{◌≡◌, ◌≢◌, inl, inr, ⊎_elim, ◌++◌, ◌∷◌, ℕ, List, [], true, false, None, refl, sym, ap, subst, ◌∙◌, nat_eq, map}
use Rattle.std.specs.List.{AllByRecursion}
use Rattle.std.specs.Cmp.Lexicographic.{pointwise}
use Rattle.shore_types.specs.declared.faults.Fault.{Fault}
use Rattle.shore_types.specs.declared.faults.Fault.TheVariants as fault
use Rattle.shore_types.specs.declared.layout.Geometry.{Geometry}
use Rattle.shore_model.specs.declared.calls.Answer.{Answer}
use Rattle.shore_model.specs.declared.calls.Call.TheVariants as call
use Rattle.shore_model.specs.declared.sessions.SessionState.{SessionState}
use Rattle.shore_model.specs.declared.step.Step.{Step}
use Rattle.shore_model.specs.declared.step.Step.TheVariants.{Done, Nothing, Refused, Waits}
use Rattle.shore_model.specs.declared.step.Wait.{Wait}
use Rattle.laws_lives.specs.Sessions.{IsUnused, SessionTxn, in_prepared, PreparedTxn, pairs_of, pair_resolved}
use Rattle.laws_calls.proofs.PrepareSteps.{prepared_now}
use Rattle.laws_calls.proofs.SessionInversions.{answered_of, refused_in, waits_of, waits_whole, IsOwn}
use Rattle.laws_calls.proofs.Sessions.{not_prepared}
use Rattle.laws_calls.proofs.WrongWaits.{prepare_appended}
use Rattle.laws_calls.specs.CallSteps.{CallStep, InnerStep}
use Rattle.laws_calls.specs.Prepares.{IsGlobalId, MayPrepare, PrepareStep, RefusesPrepare, granules_in_ex, prepared}
use Rattle.laws_calls.specs.Shapes.{ForItsTxn}
use Rattle.laws_calls.specs.States.{HasPrepared, IsOfSession, State}
use Rattle.std.proofs.lemmas.Bool.{eq-eqb}
use Rattle.laws_calls.proofs.WaitsThere.{call_nothing}
use Rattle.laws_calls.proofs.Outside.{not_outside}

-- a name is as itself
same_as_itself : (xs : List ℕ) → pointwise nat_eq xs xs ≡ true
same_as_itself [] = refl
same_as_itself (x ∷ xs) = ap (λ b. b && pointwise nat_eq xs xs) (eq-eqb x x refl) ∙ same_as_itself xs

module _ (g : Geometry) (s new : State) (session : ℕ) (global : List ℕ) where
  abbrev Prepares : Step → Type 0
  Prepares step = CallStep g s session (call.Prepare global) step new

  pub no_prepare_at_once : (answer : Answer) → Prepares (Done answer) → ⊥
  no_prepare_at_once answer h = let t = answered_of g s new session (call.Prepare global) answer tt h in by t.0 t.2
    where
      by : (a : SessionTxn) → InnerStep g s a (call.Prepare global) (Done answer) new → ⊥
      by a (inl x) = let clash = x.2 in cc
      by a (inr (inl (whole, inl x))) = x.1
      by a (inr (inl (whole, inr (inl x)))) = x.0
      by a (inr (inl (whole, inr (inr (inl x))))) = let clash = x.0 in cc
      by a (inr (inl (whole, inr (inr (inr (inl x)))))) = let clash = x.0 in cc
      by a (inr (inl (whole, inr (inr (inr (inr x)))))) = x.2
      by a (inr (inr (inl x))) = let clash = x.1 in cc
      by a (inr (inr (inr x))) = let clash = x.0 in cc

  module _ (wait : Wait) (h : Prepares (Waits wait)) where
    abbrev pub its : (a : SessionTxn) × IsOfSession s session a × PrepareStep g.version s a global (Waits wait) new
    its = prepare_appended g s new session global wait h

    pub prepared_then : HasPrepared new session
    prepared_then =
        let a = its.0 in
        let of = its.1 in
        let is : (prepared s a global (granules_in_ex s a)).sessions.seats a.session ≡ in_prepared a.txn = prepared_now a.txn (s.sessions.seats a.session) of.0.1 in
        ap (λ (x : State). (x.sessions.seats session).prepared) its.2.4
        ∙ ap (λ n. ((prepared s a global (granules_in_ex s a)).sessions.seats n).prepared) (sym of.1)
        ∙ ap (λ (p : SessionState). p.prepared) is

    pub used_then : IsUnused new.sessions global → ⊥
    used_then unused = by s.sessions.prepared (subst (λ (x : State). IsUnused x.sessions global) its.2.4 unused)
      where
        by : (ps : List PreparedTxn) → AllByRecursion (λ p. pointwise nat_eq global p.1 ≡ false) (pairs_of (ps ++ record { txn = its.0.txn; global = global; answered = false } ∷ []) ++ map pair_resolved s.sessions.resolving) → ⊥
        by [] all = let clash : true ≡ false = sym (same_as_itself global) ∙ all.0 in cc
        by (p ∷ ps) all = by ps all.1

    pub no_bad_id : ¬ IsGlobalId g.version global → ⊥
    no_bad_id bad = bad its.2.0

    pub no_used_id : ¬ IsUnused s.sessions global → ⊥
    no_used_id used = used its.2.1

    pub no_lack_of_room : ForItsTxn s session (λ a. ¬ MayPrepare s a global) → ⊥
    no_lack_of_room full = full its.0 its.1 its.2.2

    pub no_rollback_prepares : ForItsTxn s session (λ a. a.undo.rolling ≢ None) → ⊥
    no_rollback_prepares rolls =
        let t = waits_of g s new session (call.Prepare global) wait tt h in
        rolls t.0 t.1 (waits_whole g s new session (call.Prepare global) wait t.0 t.2)

    pub none_twice : HasPrepared s session → ⊥
    none_twice was = not_prepared s session its.0 its.1 was

  -- ---- refusals

  refused_same : (f : Fault) → Prepares (Refused f) → new ≡ s
  refused_same f (inl h) = h.1
  refused_same f (inr (inl h)) = h.2
  refused_same f (inr (inr (inl h))) = h.3
  refused_same f (inr (inr (inr (inl h)))) = h.3.1
  refused_same f (inr (inr (inr (inr (inl h))))) = h.5
  refused_same f (inr (inr (inr (inr (inr (inr (inl h))))))) = h.5
  refused_same f (inr (inr (inr (inr (inr (inr (inr h))))))) = absurd (not_outside s session (call.Prepare global) (Refused f) new tt h.2)
  refused_same f (inr (inr (inr (inr (inr (inl h)))))) = by h.2.2
    where
      by : InnerStep g s h.2.0 (call.Prepare global) (Refused f) new → new ≡ s
      by (inl x) = x.3
      by (inr (inl (whole, inl x))) = absurd x.1
      by (inr (inl (whole, inr (inl x)))) = absurd x.0
      by (inr (inl (whole, inr (inr (inl x))))) = let clash = x.0 in absurd cc
      by (inr (inl (whole, inr (inr (inr (inl x)))))) = let clash = x.0 in absurd cc
      by (inr (inl (whole, inr (inr (inr (inr x)))))) = x.2.1
      by (inr (inr (inl x))) = let clash = x.1 in absurd cc
      by (inr (inr (inr x))) = let clash = x.0 in absurd cc

  same_name : (name : List ℕ) → call.Prepare global ≡ call.Prepare name → name ≡ global
  same_name name e = cc

  -- a refusal of its own
  refused_as : (f : Fault) → IsOwn f → Prepares (Refused f) → (a : SessionTxn) × IsOfSession s session a × RefusesPrepare g.version s a global f
  refused_as f own h =
      let t = refused_in g s new session (call.Prepare global) f own tt (λ r is x p. cc) h in
      ⊎_elim
      (λ before. absurd before.0)
      (⊎_elim (λ locks. let clash = locks.1 in absurd cc) (λ x. (t.txn, t.of, subst (λ name. RefusesPrepare g.version s t.txn name f) (same_name x.0 x.1) x.2)))
      t.from

  pub bad_though_good : IsGlobalId g.version global → Prepares (Refused fault.BadGlobalId) → ⊥
  bad_though_good good h = by (refused_as fault.BadGlobalId tt h).0 (refused_as fault.BadGlobalId tt h).2
    where
      by : (a : SessionTxn) → RefusesPrepare g.version s a global fault.BadGlobalId → ⊥
      by a (inl x) = x.1 good
      by a (inr (inl x)) = let clash = x.0 in cc
      by a (inr (inr x)) = let clash = x.0 in cc

  pub used_though_unused : IsUnused s.sessions global → Prepares (Refused fault.GlobalIdInUse) → ⊥
  used_though_unused unused h = by (refused_as fault.GlobalIdInUse tt h).0 (refused_as fault.GlobalIdInUse tt h).2
    where
      by : (a : SessionTxn) → RefusesPrepare g.version s a global fault.GlobalIdInUse → ⊥
      by a (inl x) = let clash = x.0 in cc
      by a (inr (inl x)) = x.2 unused
      by a (inr (inr x)) = let clash = x.0 in cc

  pub full_though_room : ForItsTxn s session (λ a. MayPrepare s a global) → Prepares (Refused fault.LogFull) → ⊥
  full_though_room may h = let t = refused_as fault.LogFull tt h in by t.0 t.1 t.2
    where
      by : (a : SessionTxn) → IsOfSession s session a → RefusesPrepare g.version s a global fault.LogFull → ⊥
      by a of (inl x) = let clash = x.0 in cc
      by a of (inr (inl x)) = let clash = x.0 in cc
      by a of (inr (inr x)) = x.3 (may a of)

  -- ---- what it leaves

  pub in_place_then : (step : Step) → Prepares step → (new.sessions.records ≡ s.sessions.records) × (new.sessions.active ≡ s.sessions.active) × (new.locks ≡ s.locks) × (new.counts ≡ s.counts)
  in_place_then (Waits wait) h = kept (prepared s (its wait h).0 global (granules_in_ex s (its wait h).0)) (its wait h).2.4 refl refl refl refl
    where
      kept : (x : State) → new ≡ x → x.sessions.records ≡ s.sessions.records → x.sessions.active ≡ s.sessions.active → x.locks ≡ s.locks → x.counts ≡ s.counts
          → (new.sessions.records ≡ s.sessions.records) × (new.sessions.active ≡ s.sessions.active) × (new.locks ≡ s.locks) × (new.counts ≡ s.counts)
      kept x is a b c d = (ap (λ (y : State). y.sessions.records) is ∙ a, ap (λ (y : State). y.sessions.active) is ∙ b, ap (λ (y : State). y.locks) is ∙ c, ap (λ (y : State). y.counts) is ∙ d)
  in_place_then (Refused f) h = let is = refused_same f h in (ap (λ (y : State). y.sessions.records) is, ap (λ (y : State). y.sessions.active) is, ap (λ (y : State). y.locks) is, ap (λ (y : State). y.counts) is)
  in_place_then (Done answer) h = absurd (no_prepare_at_once answer h)
  in_place_then Nothing h = absurd (call_nothing g s new session (call.Prepare global) h)
