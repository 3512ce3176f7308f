-- The log only grows with each event.
use Rattle.std.proofs.Common.{◌++◌, ◌≤◌, ℕ, zero, suc, List, [], ◌∷◌, refl, sym, ap, subst, ◌∙◌, length, take, arith, append-nil, append_assoc}
use Rattle.shore_model.specs.declared.log_records.LogRecord.{LogRecord}
use Rattle.laws_calls.specs.CallHistories.{IsPrefix}

-- ---- prefixes

pub whole_prefix : (rs : List LogRecord) → IsPrefix rs rs
whole_prefix rs = ([], sym (append-nil rs))

pub prefix_on : (rs mid all : List LogRecord) → IsPrefix rs mid → IsPrefix mid all → IsPrefix rs all
prefix_on rs mid all a b = (a.0 ++ b.0, b.1 ∙ ap (λ xs. xs ++ b.0) a.1 ∙ append_assoc rs a.0 b.0)

take_on : (n : ℕ) (rs more : List LogRecord) → length rs ≤ n → IsPrefix rs (take n (rs ++ more))
take_on n [] more le = (take n more, refl)
take_on zero (r ∷ rs) more le = absurd (omega arith)
take_on (suc n) (r ∷ rs) more le = let h = take_on n rs more (omega arith) in (h.0, ap (λ xs. r ∷ xs) h.1)

pub prefix_left : (n : ℕ) (rs all : List LogRecord) → IsPrefix rs all → length rs ≤ n → IsPrefix rs (take n all)
prefix_left n rs all h le = subst (λ all. IsPrefix rs (take n all)) (sym h.1) (take_on n rs h.0 le)
