-- The way back along the reached transactions.
use Rattle.std.proofs.Common.{◌≡◌, ◌<◌, ◌++◌, ℕ, List, [], ◌∷◌, sym, ap, subst, ◌∙◌, length, get_or, map, reverse, arith}
use Rattle.std.proofs.lemmas.List.{get_or_default, reverse-append}
use Rattle.shore_cycles.specs.declared.reached.Step.{Step}
use Rattle.shore_cycles.specs.Reached.{Chain, LeadsBack, step_at, txn_at}

abbrev nowhere : Step
nowhere = record { txn = 0; parent = 0 }

-- a step as it is read with another default
read_as : (reached : List Step) (k : ℕ) (d : Step) → k < length reached → step_at reached k ≡ get_or reached k d
read_as reached k d within = get_or_default reached k nowhere d within

pub earlier : (reached : List Step) (k : ℕ) (d : Step) → LeadsBack reached → 0 < k → k < length reached → (get_or reached k d).parent < k
earlier reached k d leads later within = subst (λ (s : Step). s.parent < k) (read_as reached k d within) (leads k later within)

pub earlier_within : (reached : List Step) (k : ℕ) (d : Step) → LeadsBack reached → 0 < k → k < length reached → (get_or reached k d).parent < length reached
earlier_within reached k d leads later within = let e = earlier reached k d leads later within in omega arith

-- the indices from one on to the last, with what was noted of them on the way back
abbrev pub Noted : List Step → ℕ → ℕ → List ℕ → Type 0
Noted reached at last path = (indices : List ℕ) × Chain reached at indices last × (reverse path ≡ map (txn_at reached) indices)

pub path_on : (reached : List Step) (at last : ℕ) (x d : Step) (path new : List ℕ) → LeadsBack reached → 0 < at → at < length reached
    → Noted reached at last path → new ≡ path ++ (get_or reached at x).txn ∷ [] → Noted reached (get_or reached at d).parent last new
path_on reached at last x d path new leads later within noted more =
    let here : get_or reached at x ≡ step_at reached at = sym (read_as reached at x within) in (
      at ∷ noted.0,
      (earlier reached at d leads later within, within, ap (λ (s : Step). s.parent) (read_as reached at d within), noted.1),
      ap reverse more ∙ reverse-append path ((get_or reached at x).txn ∷ []) ∙ (λ i. (here i).txn ∷ noted.2 i),
    )
