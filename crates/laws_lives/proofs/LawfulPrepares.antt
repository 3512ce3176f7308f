-- The Prepares of a lawful log, and those in doubt by two logs that say the same of them.
use Rattle.std.proofs.Common.{◌≡◌, ⊎_elim, ◌<◌, ℕ, zero, suc, List, [], ◌∷◌, Bool, true, false, Some, refl, sym, ap, subst, ◌∙◌, arith}
use Rattle.std.specs.Prelude.{◌==◌, ◌&&◌, slice_get}
use Rattle.std.proofs.lemmas.Bool.{eq-eqb, eqb-true, true≢false}
use Rattle.shore_model.specs.declared.log_records.LogRecord.{LogRecord}
use Rattle.shore_model.specs.declared.log_records.Payload.{Payload}
use Rattle.shore_model.specs.declared.log_records.Payload.TheVariants.{Prepare}
use Rattle.shore_model.specs.Logs.{Lawful, has, is_of_checkpoint, is_prepare}
use Rattle.laws_lives.specs.Doubts.{DoubtsStand, doubts_in}
use Rattle.laws_lives.specs.Views.{IsAmong}
use Rattle.laws_lives.proofs.Booleans.{and_true, or_true}

-- among the records is one of the transaction that passes
pub record HasPassing (p : Payload → Bool) (rs : List LogRecord) (t : ℕ) : Type 0 where
  pub at : ℕ
  pub found : LogRecord
  pub here : slice_get rs at ≡ Some found
  pub own : found.txn ≡ t
  pub passes : p found.payload ≡ true

module _ (p : Payload → Bool) (t : ℕ) where
  pub one_passing : (rs : List LogRecord) → has p t rs ≡ true → HasPassing p rs t
  one_passing [] h = cc
  one_passing (x ∷ rs) h = ⊎_elim
      (λ this. let parts = and_true (x.txn == t) (p x.payload) this in record { at = 0; found = x; here = refl; own = eqb-true x.txn t parts.0; passes = parts.1 })
      (λ later. let one = one_passing rs later in record { at = suc one.at; found = one.found; here = one.here; own = one.own; passes = one.passes })
      (or_true ((x.txn == t) && p x.payload) (has p t rs) h)

pub not_of_checkpoint : (p : Payload) → is_prepare p ≡ true → is_of_checkpoint p ≡ false
not_of_checkpoint (Prepare global granules) h = refl
not_of_checkpoint _ h = cc

module _ (log : List LogRecord) (lawful : Lawful log) (t : ℕ) where
  -- who has a Prepare is a transaction
  pub prepared_is_one : has is_prepare t log ≡ true → 0 < t
  prepared_is_one h =
      let one = one_passing is_prepare t log h in
      let of : (one.found.txn == 0) ≡ false = sym (lawful one.at one.found one.here).of ∙ not_of_checkpoint one.found.payload one.passes in
      let some : one.found.txn ≡ 0 → ⊥ = λ e. true≢false (sym (eq-eqb one.found.txn 0 e) ∙ of) in
      above t (λ e. some (one.own ∙ e))
    where
      above : (n : ℕ) → (n ≡ 0 → ⊥) → 0 < n
      above zero h = absurd (h refl)
      above (suc n) h = omega arith

pub doubts_stand : (log more : List LogRecord) → doubts_in log ≡ doubts_in more → DoubtsStand log → DoubtsStand more
doubts_stand log more same h = record {
  apart = λ d e g k d_is e_is. h.apart d e g k (subst (IsAmong d) (sym same) d_is) (subst (IsAmong e) (sym same) e_is);
  differ = λ d e d_is e_is. h.differ d e (subst (IsAmong d) (sym same) d_is) (subst (IsAmong e) (sym same) e_is);
}
