-- Two steps are compared: a rollback that is interrupted is compared with none.
use Rattle.std.proofs.Common.{◌≡◌, ◌⊎◌, inl, inr, ⊎_elim, None, Some, sym, subst, ◌∙◌}
use Rattle.shore_types.specs.declared.faults.Fault.{Fault}
use Rattle.shore_types.specs.declared.layout.Geometry.{Geometry}
use Rattle.shore_model.specs.declared.calls.Call.{Call}
use Rattle.shore_model.specs.declared.rollbacks.Rollback.{Rollback}
use Rattle.laws_lives.specs.Sessions.{SessionTxn}
use Rattle.shore_model.specs.declared.step.Step.{Step}
use Rattle.shore_model.specs.declared.step.Step.TheVariants.{Refused}
use Rattle.laws_calls.proofs.OneBehind.{Comparable, not_page_fault}
use Rattle.laws_calls.specs.Rollbacks.{IsInterrupted}
use Rattle.laws_calls.specs.Shapes.{rollback_of}
use Rattle.laws_calls.specs.StateChanges.{ComesOfState}
use Rattle.laws_calls.specs.States.{State}

-- two steps of a call that are compared, of which none is a rollback that was interrupted
abbrev pub Compares : Call → Step → Step → Type 0
Compares c x y = Comparable x y × (ComesOfState x ⊎ (rollback_of c ≡ None))

module _ (g : Geometry) (s : State) where
  -- what interrupts a rollback does not come of the state alone
  not_interrupted : (a : SessionTxn) (r : Rollback) (f : Fault) (new : State) → ComesOfState (Refused f) → IsInterrupted s a r f new → ⊥
  not_interrupted a r f new comes h = ⊎_elim (λ memory. comes.0 memory) (not_page_fault h.0 f comes) h.2

  -- a rollback that is interrupted is compared with none
  pub one_interrupted : (P : Type 0) (c : Call) (x y : Step) (f : Fault) (a : SessionTxn) (r : Rollback) (new : State) → Compares c x y → rollback_of c ≡ Some r → IsInterrupted s a r f new
      → (x ≡ Refused f) ⊎ (y ≡ Refused f) → P
  one_interrupted P c x y f a r new (inl both, plain) is h (inl e) = absurd (not_interrupted a r f new (subst ComesOfState e both.0) h)
  one_interrupted P c x y f a r new (inl both, plain) is h (inr e) = absurd (not_interrupted a r f new (subst ComesOfState e both.1) h)
  one_interrupted P c x y f a r new (inr same, inl comes) is h (inl e) = absurd (not_interrupted a r f new (subst ComesOfState e comes) h)
  one_interrupted P c x y f a r new (inr same, inl comes) is h (inr e) = absurd (not_interrupted a r f new (subst ComesOfState (same.0 ∙ e) comes) h)
  one_interrupted P c x y f a r new (inr same, inr plain) is h at = let clash : None ≡ Some r = sym plain ∙ is in absurd cc
