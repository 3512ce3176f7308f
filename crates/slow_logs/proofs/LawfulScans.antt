-- A loop that lets each record of a list follow those before it.
use Rattle.std.proofs.Common.{◌≡◌, ◌<◌, ◌≤◌, ◌+◌, ℕ, Some, List, length, take, get_or, below_more, subst, sym, ◌∙◌, arith}
use Rattle.std.specs.Prelude.{slice_get}
use Rattle.std.proofs.lemmas.Option.{get_or_from_slice_get, slice_get-get_or, slice_get_within}
use Rattle.shore_model.specs.declared.log_records.LogRecord.{LogRecord}
use Rattle.shore_model.specs.Logs.{Lawful, MayFollow}

module _ (rs : List LogRecord) (i : ℕ) where
  -- each of the first records may follow those before it
  abbrev pub LawfulBelow : Type 0
  LawfulBelow = (n : ℕ) → n < i → (r : LogRecord) → slice_get rs n ≡ Some r → MayFollow (take n rs) r

module _ (rs : List LogRecord) (i : ℕ) where
  pub LawfulBelow-more : (r : LogRecord) → r ≡ get_or rs i r → LawfulBelow rs i → MayFollow (take i rs) r → LawfulBelow rs (i + 1)
  LawfulBelow-more r is below may =
      below_more _ _ below (λ x e. subst (MayFollow (take i rs)) (is ∙ get_or_from_slice_get rs i x r e) may)

  pub LawfulBelow-whole : length rs ≤ i → LawfulBelow rs i → Lawful rs
  LawfulBelow-whole done below n r e =
      let within : n < length rs = slice_get_within rs n r e in
      below n (omega arith) r e

  pub Lawful-at : (r : LogRecord) → i < length rs → r ≡ get_or rs i r → Lawful rs → MayFollow (take i rs) r
  Lawful-at r within is lawful = subst (MayFollow (take i rs)) (sym is) (lawful i (get_or rs i r) (slice_get-get_or rs i r within))
