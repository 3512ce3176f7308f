-- The record that redo names over pages of which nothing is known: the first that finds no room.
use Rattle.std.proofs.Common.{◌≡◌, ◌+◌, ◌-◌, ◌≤◌, ℕ, List, Option, Some, length, take, sym, ap, subst, ◌∙◌, inl, inr, arith}
use Rattle.std.specs.Prelude.{slice_get}
use Rattle.std.proofs.lemmas.Bool.{cases_eq}
use Rattle.std.proofs.lemmas.Option.{slice_get_within}
use Rattle.shore_types.specs.declared.layout.Geometry.{Geometry}
use Rattle.shore_model.specs.declared.log_records.LogRecord.{LogRecord}
use Rattle.shore_restart.specs.AnyPages.{AllFindRoom, FindsNoRoom, IsFirstMisfit, IsMisfitAt}

module _ (g : Geometry) (first : ℕ → List ℕ) (log : List LogRecord) where
  -- none of the first i records
  abbrev pub FirstFindRoom : ℕ → Type 0
  FirstFindRoom i = (m : ℕ) → m ≤ i → IsMisfitAt g first log m → ⊥

  pub find_none : FirstFindRoom 0
  find_none m le misfit = let some = misfit.0 in omega (arith, le, some)

  -- the next one finds room too
  pub find_next : (i : ℕ) (r : LogRecord) → slice_get log i ≡ Some r → FirstFindRoom i → (FindsNoRoom g first (take i log) (i + 1) r.payload → ⊥) → FirstFindRoom (i + 1)
  find_next i r at find room m le misfit = elim (cases_eq m (i + 1)) [
    | inl is ↦ here (subst (IsMisfitAt g first log) is misfit)
    | inr other ↦ find m (omega (arith, le, other)) misfit
  ]
    where
      here : IsMisfitAt g first log (i + 1) → ⊥
      here (some, (x, there, none)) =
          let same : i + 1 - 1 ≡ i = omega arith in
          let one : ◌≡◌ {A = Option LogRecord} (Some x) (Some r) = sym there ∙ ap (slice_get log) same ∙ at in
          let it : x ≡ r = cc in
          room (subst (λ (y : LogRecord). FindsNoRoom g first (take i log) (i + 1) y.payload) it (subst (λ (k : ℕ). FindsNoRoom g first (take k log) (i + 1) x.payload) same none))

  -- .. or is the first that does not
  pub first_misfit : (i n : ℕ) (r : LogRecord) → slice_get log i ≡ Some r → FirstFindRoom i → n ≡ i + 1 → FindsNoRoom g first (take i log) n r.payload → IsFirstMisfit g first log n
  first_misfit i n r at find is none =
      let same : i ≡ n - 1 = omega (arith, is) in
      ((omega (arith, is), (r, subst (λ (k : ℕ). slice_get log k ≡ Some r) same at, subst (λ (k : ℕ). FindsNoRoom g first (take k log) n r.payload) same none)), λ m lt. find m (omega (arith, lt, is)))

  pub find_all : FirstFindRoom (length log) → AllFindRoom g first log
  find_all find n misfit =
      let within = slice_get_within log (n - 1) misfit.1.0 misfit.1.1 in
      find n (omega (arith, within)) misfit
