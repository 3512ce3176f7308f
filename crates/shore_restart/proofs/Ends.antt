-- A checkpoint's End is kept if one of the records is it.
use Rattle.std.proofs.Common.{◌≡◌, ℕ, zero, suc, List, [], ◌∷◌, true, false, Option, Some, None, refl, sym, ap, ◌∙◌, arith}
use Rattle.std.specs.Prelude.{Any, IsSome, is_some}
use Rattle.shore_model.specs.declared.log_records.LogRecord.{LogRecord}
use Rattle.laws_checkpoints.specs.Checkpoints.{Checkpoint, end_among, end_in, or_next_end}
use Rattle.shore_analysis.proofs.Listed.{Any-here, Any-later}

-- the record is the End of the checkpoint that begins with the record of this number
abbrev pub IsEndOf : ℕ → LogRecord → Type 0
IsEndOf n r = is_some (end_in n r.payload) ≡ true

pub ends_any : (n : ℕ) (rs : List LogRecord) → IsSome (end_among n rs) → Any (IsEndOf n) rs
ends_any n [] some = absurd cc
ends_any n (r ∷ rs) some = by (end_in n r.payload) refl some (ends_any n rs)
  where
    by : (o : Option Checkpoint) → end_in n r.payload ≡ o → IsSome (or_next_end o (end_among n rs)) → (IsSome (end_among n rs) → Any (IsEndOf n) rs) → Any (IsEndOf n) (r ∷ rs)
    by None is some rest = Any-later (IsEndOf n) r rs (rest some)
    by (Some c) is some rest = Any-here (IsEndOf n) r rs (ap is_some is)

pub any_ends : (n : ℕ) (rs : List LogRecord) → Any (IsEndOf n) rs → IsSome (end_among n rs)
any_ends n [] one = let lt = one.2 in absurd (omega (arith, lt))
any_ends n (r ∷ rs) (zero, x, lt, at, is) = by (end_in n r.payload) refl
  where
    by : (o : Option Checkpoint) → end_in n r.payload ≡ o → IsSome (or_next_end o (end_among n rs))
    by None none = let clash : false ≡ true = sym (ap is_some none) ∙ ap (λ (y : LogRecord). is_some (end_in n y.payload)) at ∙ is in cc
    by (Some c) some = cc
any_ends n (r ∷ rs) (suc i, x, lt, at, is) = by (end_in n r.payload) (any_ends n rs (i, x, omega (arith, lt), at, is))
  where
    by : (o : Option Checkpoint) → IsSome (end_among n rs) → IsSome (or_next_end o (end_among n rs))
    by None some = some
    by (Some c) some = cc
