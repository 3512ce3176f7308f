-- What was told of the log by the time that power is lost, and what was asked of tickets, comes behind all else.
use Rattle.std.proofs.Common.{inl, inr, ⊎_elim, ◌≤◌, ℕ, List, [], ◌∷◌, All, refl, ap, length, arith}
use Rattle.std.specs.List.{AllByRecursion}
use Rattle.std.proofs.lemmas.List.Elements.{recursion_from_All}
use Rattle.shore_types.specs.declared.layout.Geometry.{Geometry}
use Rattle.laws_lives.specs.Pages.{LoggedPages}
use Rattle.laws_lives.specs.Recovery.{after_force}
use Rattle.laws_calls.specs.StateChanges.{with_durable}
use Rattle.laws_runs.specs.CheckpointSteps.{CheckpointedMoves, CheckpointedState}
use Rattle.laws_runs.specs.SoundStores.{IsLost}
use Rattle.laws_runs.specs.StoredRuns.{IsStored}
use Rattle.laws_threads.specs.Amid.{asks_of, entries_of_asks, told_and_asked}

-- so much is durable
abbrev pub told_to : ℕ → CheckpointedState → CheckpointedState
told_to n m = record { state = with_durable n m.state; store = record m.store { store = after_force m.store.store n } }

module _ (g : Geometry) where
  -- tickets that are durable are said to be
  pub asked : (m : CheckpointedState) → IsStored m.state m.store.store → (tickets : List ℕ) → AllByRecursion (λ n. n ≤ m.state.durable) tickets → CheckpointedMoves g m (asks_of tickets) m (entries_of_asks tickets)
  asked m stored [] low = (refl, refl)
  asked m stored (ticket ∷ tickets) low =
      (m, entries_of_asks tickets, (((((λ yes. low.0), (λ so. refl)), refl), refl, stored), refl), asked m stored tickets low.1, refl)

  module _ (m : CheckpointedState) (stored : IsStored m.state m.store.store) (n : ℕ) (more : m.store.store.durable ≤ n) (most : n ≤ length m.store.store.log) where
    told_stored : IsStored (told_to n m).state (told_to n m).store.store
    told_stored = record { log = stored.log; durable = refl }

    pub told_asked : (tickets : List ℕ) → All (λ k. k ≤ n) tickets → CheckpointedMoves g m (told_and_asked n tickets) (told_to n m) (entries_of_asks tickets)
    told_asked tickets low = (
      told_to n m,
      entries_of_asks tickets,
      (
        ((omega (arith, more, stored.durable), omega (arith, most, ap length stored.log), refl), (tt, after_force m.store.store n, (more, most, refl), refl), told_stored),
        (after_force m.store.store n, (more, most, refl), refl),
      ),
      asked (told_to n m) told_stored tickets (recursion_from_All (λ k. k ≤ n) tickets low),
      refl,
    )

    -- the same is lost then
    pub told_lost : (survive : ℕ) (left : LoggedPages) → n ≤ survive → IsLost m.store.store survive left → IsLost (told_to n m).store.store survive left
    told_lost survive left least lost = record {
      least = least;
      most = lost.most;
      shows = λ p. ⊎_elim (λ old. inl old) (λ new. let low = new.1 in inr (new.0, omega (arith, low, more))) (lost.shows p);
    }
