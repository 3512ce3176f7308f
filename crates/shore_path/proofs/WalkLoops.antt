-- The loop over a path: how far the walk has come, and what it gives when it ends.
use Rattle.std.proofs.Common.{◌≡◌, ◌++◌, ◌<◌, ◌≤◌, ◌+◌, ℕ, suc, List, [], ◌∷◌, true, false, refl, ap, sym, subst, ◌∙◌, length, take, drop, get_or, min, arith, drop-cons}
use Rattle.std.specs.Prelude.{Result, Ok}
use Rattle.std.proofs.lemmas.List.{append-nil, take_min, take-append-drop}
use Rattle.std.proofs.Math.Seq.{take-length}
use Rattle.shore_types.specs.declared.faults.Fault.{Fault}
use Rattle.shore_types.specs.declared.locking.Granule.{Granule}
use Rattle.shore_types.specs.declared.locking.Mode.{Mode}
use Rattle.shore_model.proofs.LogSteps.{take-one_more}
use Rattle.shore_locks.specs.Tables.{Table}
use Rattle.shore_path.specs.declared.answers.Acquired.{Acquired}
use Rattle.shore_path.specs.declared.answers.Acquired.TheVariants as acquire
use Rattle.shore_path.specs.declared.answers.OnConflict.{OnConflict}
use Rattle.shore_path.specs.Needs.{Passes}
use Rattle.shore_path.specs.Walks.{HasOutcome, after_at, answer_at, asked_of, is_spared}
use Rattle.shore_path.proofs.Walking.{Through, done, stop, stops_at, table_of, through_more, through_walk, walk_on}

parted : {A : Type 0} (xs : List A) (i : ℕ) (x : A) → i < length xs → x ≡ get_or xs i x → xs ≡ take i xs ++ (x ∷ drop (suc i) xs)
parted xs i x within is = sym (take-append-drop i xs) ∙ ap (λ ys. take i xs ++ ys) (drop-cons xs i x within ∙ ap (λ y. y ∷ drop (suc i) xs) (sym is))

whole : {A : Type 0} (xs : List A) (i : ℕ) → length xs ≤ i → take i xs ≡ xs
whole xs i past = let all : min i (length xs) ≡ length xs = omega arith in sym (take_min i xs) ∙ ap (λ n. take n xs) all ∙ take-length xs

module _ (c : OnConflict) (t : ℕ) (target : Granule) (mode : Mode) (old table : Table) (path : List Granule) (i : ℕ) (limit : table.limit ≡ old.limit)
    (through : Through c t target mode old.limit (take i path) old.requests table.requests) where
  abbrev step : Granule → Mode
  step g = asked_of target mode g

  -- the table, with the limit that it had
  same_table : table ≡ table_of c t target mode old.limit table.requests
  same_table k = record { limit = limit k; requests = table.requests }

  come : walk_on c t target mode old.limit (take i path) old.requests ≡ done table.requests
  come = ap (λ way. walk_on c t target mode old.limit way old.requests) (sym (append-nil (take i path))) ∙ through_walk c t target mode old.limit (take i path) [] old.requests table.requests through

  ahead : (g : Granule) → i < length path → g ≡ get_or path i g → walk_on c t target mode old.limit path old.requests ≡ walk_on c t target mode old.limit (g ∷ drop (suc i) path) table.requests
  ahead g within is =
      ap (λ way. walk_on c t target mode old.limit way old.requests) (parted path i g within is)
      ∙ through_walk c t target mode old.limit (take i path) (g ∷ drop (suc i) path) old.requests table.requests through

  pub ends_spared : (g : Granule) → i < length path → g ≡ get_or path i g → is_spared t target mode g table.requests ≡ true
      → HasOutcome old (walk_on c t target mode old.limit path old.requests) (Ok acquire.Done) table
  ends_spared g within is spared =
      let out : walk_on c t target mode old.limit path old.requests ≡ done table.requests = ahead g within is ∙ rw spared refl in
      (sym (ap (λ o. o.answer) out), same_table ∙ ap (λ xs. table_of c t target mode old.limit xs) (sym (ap (λ o. o.requests) out)))

  pub ends_told : (g : Granule) (answer : Result Acquired Fault) (new : Table) → i < length path → g ≡ get_or path i g → is_spared t target mode g table.requests ≡ false
      → answer ≡ answer_at c table t g (step g) → (answer ≡ Ok acquire.Done → ⊥)
      → new ≡ record { limit = table.limit; requests = after_at c table t g (step g) }
      → HasOutcome old (walk_on c t target mode old.limit path old.requests) answer new
  ends_told g answer new within is free told other left =
      let out : walk_on c t target mode old.limit path old.requests ≡ stop answer (after_at c (table_of c t target mode old.limit table.requests) t g (step g)) =
      ahead g within is
      ∙ stops_at c t target mode old.limit g (drop (suc i) path) table.requests answer free (ap (λ x. answer_at c x t g (step g)) (sym same_table) ∙ sym told) other in (
        sym (ap (λ o. o.answer) out),
        left ∙ (λ k. record { limit = limit k; requests = after_at c (same_table k) t g (step g) }) ∙ ap (λ xs. table_of c t target mode old.limit xs) (sym (ap (λ o. o.requests) out)),
      )

  pub goes_on : (g : Granule) (new : Table) → i < length path → g ≡ get_or path i g → Passes c t target mode g table new
      → Through c t target mode old.limit (take (i + 1) path) old.requests new.requests × (new.limit ≡ old.limit)
  goes_on g new within is passes =
      let more =
      through_more c t target mode old.limit (take i path) g old.requests table.requests through passes.needed (ap (λ x. answer_at c x t g (step g)) (sym same_table) ∙ passes.done) in
      let now : new.requests ≡ after_at c (table_of c t target mode old.limit table.requests) t g (step g) = ap (λ x. x.requests) passes.left ∙ ap (λ x. after_at c x t g (step g)) same_table in (
        subst (λ xs. Through c t target mode old.limit (take (i + 1) path) old.requests xs) (sym now)
            (subst (λ way. Through c t target mode old.limit way old.requests (after_at c (table_of c t target mode old.limit table.requests) t g (step g))) (sym (take-one_more path i g within is)) more),
        ap (λ x. x.limit) passes.left ∙ limit,
      )

  pub ends_whole : length path ≤ i → HasOutcome old (walk_on c t target mode old.limit path old.requests) (Ok acquire.Done) table
  ends_whole past =
      let out : walk_on c t target mode old.limit path old.requests ≡ done table.requests = ap (λ way. walk_on c t target mode old.limit way old.requests) (sym (whole path i past)) ∙ come in
      (sym (ap (λ o. o.answer) out), same_table ∙ ap (λ xs. table_of c t target mode old.limit xs) (sym (ap (λ o. o.requests) out)))
