-- What refuses the change of a record, and whether its image fits.
use Rattle.std.proofs.Common.{◌≡◌, ◌⊎◌, ◌<◌, inl, inr, ℕ, List, Option, None, Some, Err, IsSomeAnd, length, nat_lt, true, false, refl, sym, ap, subst, ◌∙◌, arith}
use Rattle.shore_types.specs.Versions.{slot_limit}
use Rattle.std.specs.Option.{option_and_then}
use Rattle.std.proofs.lemmas.Bool.{ltb-true, ltb-false}
use Rattle.std.proofs.lemmas.Option.{slice_get_past}
use Rattle.shore_types.specs.declared.faults.Fault.{Fault}
use Rattle.shore_types.specs.declared.faults.Fault.TheVariants as fault
use Rattle.shore_types.specs.declared.ids.Rid.{Rid}
use Rattle.shore_types.specs.declared.layout.Geometry.{Geometry}
use Rattle.shore_types.specs.declared.versions.Version.{Version}
use Rattle.shore_model.specs.declared.calls.Call.TheVariants as call
use Rattle.shore_page.specs.Room.{Fits}
use Rattle.shore_page.specs.Slots.{Slot, image_at_slot}
use Rattle.laws_lives.specs.Sessions.{SessionTxn}
use Rattle.laws_calls.specs.StateChanges.{CanLog, FitsAt, after_refusal}
use Rattle.laws_calls.specs.CallSteps.{Finds, RefusesRead}
use Rattle.laws_calls.specs.States.{State}
use Rattle.shore_core.specs.Replies.{IsServedBehind}

pub map_some : {A : Type 0} (P Q : A → Type 0) (o : Option A) → ((x : A) → P x → Q x) → IsSomeAnd o P → IsSomeAnd o Q
map_some P Q (Some x) each holds = each x holds
map_some P Q None each holds = absurd holds

-- a record that is there may be taken away
pub gone_fits : (v : Version) (slots : List Slot) (slot : ℕ) (bytes : List ℕ) → slot < slot_limit v → image_at_slot slots slot ≡ Some bytes → Fits v slots slot 0
gone_fits v slots slot bytes there found = elim (nat_lt slot (length slots)) as (λ b. nat_lt slot (length slots) ≡ b → Fits v slots slot 0) [
  | true ↦ λ e. let inside = ltb-true slot (length slots) e in record { there = there; most = omega arith; room = omega (arith, inside) }
  | false ↦ λ e. absurd (none_some (sym (ap (λ (o : Option Slot). option_and_then (λ (x : Slot). x.image) o) (slice_get_past slots slot (ltb-false slot (length slots) e))) ∙ found))
] refl
  where
    none_some : ◌≡◌ {A = Option (List ℕ)} None (Some bytes) → ⊥
    none_some e = cc

pub both_some : {A : Type 0} (P Q : A → Type 0) (o : Option A) → IsSomeAnd o P → IsSomeAnd o Q → IsSomeAnd o (λ x. P x × Q x)
both_some P Q (Some x) p q = (p, q)
both_some P Q None p q = absurd p

-- ---- changes of a record behind its lock

module _ (g : Geometry) (s : State) (a : SessionTxn) (id : Rid) where
  pub update_fault : (bytes : List ℕ) (f : Fault) → (f ≡ fault.Memory) ⊎ RefusesRead s id f → IsServedBehind g s a (call.Update id bytes) (Err f) (after_refusal f s)
  update_fault bytes f (inl memory) = subst (λ (x : Fault). IsServedBehind g s a (call.Update id bytes) (Err x) (after_refusal x s)) (sym memory) (inl (refl, inl refl))
  update_fault bytes f (inr read) = inr (inl read, refl)

  pub delete_fault : (f : Fault) → (f ≡ fault.Memory) ⊎ RefusesRead s id f → IsServedBehind g s a (call.Delete id) (Err f) (after_refusal f s)
  delete_fault f (inl memory) = subst (λ (x : Fault). IsServedBehind g s a (call.Delete id) (Err x) (after_refusal x s)) (sym memory) (inl (refl, inl refl))
  delete_fault f (inr read) = inr (inl read, refl)

  module _ (there : Finds s id) where
    pub update_unlogged : (bytes : List ℕ) (f : Fault) → FitsAt g.version s id (Some bytes) → (f ≡ fault.Memory) ⊎ ((f ≡ fault.LogFull) × ¬ CanLog s id (Some bytes))
        → IsServedBehind g s a (call.Update id bytes) (Err f) (after_refusal f s)
    update_unlogged bytes f fits (inl memory) = update_fault bytes f (inl memory)
    update_unlogged bytes f fits (inr full) = inr (inr (inr (full.0, there, fits, full.1)), refl)

    pub delete_unlogged : (f : Fault) → (f ≡ fault.Memory) ⊎ ((f ≡ fault.LogFull) × ¬ CanLog s id None) → IsServedBehind g s a (call.Delete id) (Err f) (after_refusal f s)
    delete_unlogged f (inl memory) = delete_fault f (inl memory)
    delete_unlogged f (inr full) = inr (inr (full.0, there, full.1), refl)
