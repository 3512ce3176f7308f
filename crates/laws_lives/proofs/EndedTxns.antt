-- Which transactions have ended, as the log grows: what one record more says of it.
use Rattle.std.proofs.Common.{◌≡◌, ◌≢◌, ◌⊎◌, ⊎_elim, ◌++◌, ℕ, List, [], ◌∷◌, Bool, true, false, refl, ap, ◌∙◌}
use Rattle.std.specs.Prelude.{◌==◌, ◌&&◌, ◌||◌}
use Rattle.std.proofs.lemmas.Bool.{eq-eqb, ne_eqb}
use Rattle.std.proofs.lemmas.List.Folds.{list_any-append}
use Rattle.shore_model.specs.declared.log_records.LogRecord.{LogRecord}
use Rattle.shore_model.specs.declared.log_records.Payload.{Payload}
use Rattle.shore_model.specs.Logs.{has, is_commit, is_end, is_over}

or_untested : (a b c : Bool) → c ≡ false → (a || ((b && c) || false)) ≡ a
or_untested true b c e = refl
or_untested false true c e = ap (λ c. c || false) e
or_untested false false c e = refl

or_true : (a b : Bool) → b ≡ true → (a || b) ≡ true
or_true true b e = refl
or_true false b e = e

or_nothing : (a : Bool) → (a || false) ≡ a
or_nothing true = refl
or_nothing false = refl

module _ (log : List LogRecord) (r : LogRecord) where
  has_same : (p : Payload → Bool) (u : ℕ) → p r.payload ≡ false → has p u (log ++ r ∷ []) ≡ has p u log
  has_same p u e = list_any-append (λ r. (r.txn == u) && p r.payload) log (r ∷ []) ∙ or_untested (has p u log) (r.txn == u) (p r.payload) e

  has_other : (p : Payload → Bool) (u : ℕ) → r.txn ≢ u → has p u (log ++ r ∷ []) ≡ has p u log
  has_other p u other =
      list_any-append (λ r. (r.txn == u) && p r.payload) log (r ∷ [])
      ∙ ap (λ b. has p u log || ((b && p r.payload) || false)) (ne_eqb r.txn u other) ∙ or_nothing (has p u log)

  has_now : (p : Payload → Bool) → p r.payload ≡ true → has p r.txn (log ++ r ∷ []) ≡ true
  has_now p e =
      list_any-append (λ q. (q.txn == r.txn) && p q.payload) log (r ∷ [])
      ∙ or_true (has p r.txn log) (((r.txn == r.txn) && p r.payload) || false)
      (ap (λ b. (b && p r.payload) || false) (eq-eqb r.txn r.txn refl) ∙ ap (λ b. b || false) e)

  -- a record that is no Commit and no End ends nobody
  pub over_same : is_commit r.payload ≡ false → is_end r.payload ≡ false → (u : ℕ) → is_over u (log ++ r ∷ []) ≡ is_over u log
  over_same c e u = ap (λ b. b || has is_end u (log ++ r ∷ [])) (has_same is_commit u c) ∙ ap (λ b. has is_commit u log || b) (has_same is_end u e)

  -- no record ends another's transaction
  pub over_other : (u : ℕ) → r.txn ≢ u → is_over u (log ++ r ∷ []) ≡ is_over u log
  over_other u other = ap (λ b. b || has is_end u (log ++ r ∷ [])) (has_other is_commit u other) ∙ ap (λ b. has is_commit u log || b) (has_other is_end u other)

  -- a Commit and an End end their own
  pub over_now : (is_commit r.payload ≡ true) ⊎ (is_end r.payload ≡ true) → is_over r.txn (log ++ r ∷ []) ≡ true
  over_now ends =
      ⊎_elim (λ c. ap (λ b. b || has is_end r.txn (log ++ r ∷ [])) (has_now is_commit c))
      (λ e. or_true (has is_commit r.txn (log ++ r ∷ [])) (has is_end r.txn (log ++ r ∷ [])) (has_now is_end e)) ends
