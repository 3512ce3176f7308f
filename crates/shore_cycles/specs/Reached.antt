-- The transactions that a search has reached.
use Rattle.std.specs.Prelude.{◌≡◌, ◌==◌, ◌<◌, ◌++◌, ℕ, List, [], ◌∷◌, Bool, cond, length, map, slice_index_or}
use Rattle.std.specs.List.{list_any}
use Rattle.shore_cycles.specs.declared.reached.Step.{Step}
use Rattle.shore_cycles.specs.declared.victims.Victim.{Victim}
use Rattle.shore_cycles.specs.Marks.{is_marked}

-- what is reached, step by step, and the marks of what need not be reached any more
pub record Seen : Type 0 where
  pub steps : List Step
  pub marks : List ℕ

-- the transaction is reached
abbrev pub is_reached : List Step → ℕ → Bool
is_reached steps t = list_any (λ s. s.txn == t) steps

-- the beginning of a search from a transaction, after some victims: these are marked too
abbrev pub started : List Victim → ℕ → Seen
started victims t = record { steps = record { txn = t; parent = 0 } ∷ []; marks = t ∷ map (λ v. v.txn) victims }

-- what is reached once the transaction is, from an index
abbrev pub reached_from : ℕ → ℕ → Seen → Seen
reached_from from t seen =
    cond (is_marked seen.marks t) seen (record { steps = seen.steps ++ record { txn = t; parent = from } ∷ []; marks = seen.marks ++ t ∷ [] })

-- .. and once each of these is
abbrev pub extended : ℕ → List ℕ → Seen → Seen
extended from [] seen = seen
extended from (t ∷ ts) seen = extended from ts (reached_from from t seen)

-- the step at an index
abbrev pub step_at : List Step → ℕ → Step
step_at steps k = slice_index_or steps k (record { txn = 0; parent = 0 })

abbrev pub txn_at : List Step → ℕ → ℕ
txn_at steps k = (step_at steps k).txn

-- each step but the first was reached from an earlier one
abbrev pub LeadsBack : List Step → Type 0
LeadsBack steps = (k : ℕ) → 0 < k → k < length steps → (step_at steps k).parent < k

-- indexes that lead from one on to the last: each was reached from the one before it
abbrev pub Chain : List Step → ℕ → List ℕ → ℕ → Type 0
Chain steps at [] last = at ≡ last
Chain steps at (k ∷ ks) last = (at < k) × (k < length steps) × ((step_at steps k).parent ≡ at) × Chain steps k ks last
