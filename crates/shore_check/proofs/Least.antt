-- The least of a number and of others, taken one after another.
use Rattle.std.proofs.Common.{◌≡◌, ◌∙◌, ◌<◌, ◌+◌, ℕ, suc, List, [], ◌∷◌, ap, drop, get_or, length, min, sym, arith}
use Rattle.std.proofs.Math.Seq.{drop-cons}
use Rattle.shore_model.specs.declared.log_records.DirtyPage.{DirtyPage}
use Rattle.shore_model.specs.declared.log_records.LogTxn.{LogTxn}
use Rattle.laws_checkpoints.specs.Checkpoints.{least_first, least_recovery}

-- it is the same whichever comes first
pub recovery_first : (n m : ℕ) (ds : List DirtyPage) → least_recovery (min n m) ds ≡ min m (least_recovery n ds)
recovery_first n m [] = omega arith
recovery_first n m (d ∷ ds) = let rest = recovery_first n m ds in omega arith

pub first_first : (n m : ℕ) (es : List LogTxn) → least_first (min n m) es ≡ min m (least_first n es)
first_first n m [] = omega arith
first_first n m (e ∷ es) = let rest = first_first n m es in omega arith

-- what is left of a list has its next element at the front
pub next_in_front : {X : Type 0} (xs : List X) (i : ℕ) (x : X) → i < length xs → x ≡ get_or xs i x → drop i xs ≡ x ∷ drop (i + 1) xs
next_in_front xs i x within is =
    let next : suc i ≡ i + 1 = omega arith in
    drop-cons xs i x within ∙ ap (λ j. get_or xs i x ∷ drop j xs) next ∙ ap (λ y. y ∷ drop (i + 1) xs) (sym is)
