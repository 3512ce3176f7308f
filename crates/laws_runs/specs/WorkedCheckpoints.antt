-- A run worked by hand: over an empty store a manager makes two checkpoints, one behind the other. Each logs three records; the move of the second cuts off
-- those of the first.
use Rattle.std.specs.Prelude.{ℕ, List, [], ◌∷◌}
use Rattle.shore_model.specs.declared.calls.Answer.TheVariants.{Anchored, Begun, Ended, Moved}
use Rattle.shore_model.specs.declared.step.Step.TheVariants.{Done}
use Rattle.laws_lives.specs.Recovery.{ForceLog}
use Rattle.laws_calls.specs.Events as calls
use Rattle.laws_runs.specs.CheckpointSteps.{CheckpointedMove, Checkpoints, Goes}
use Rattle.laws_runs.specs.StoredRuns.{Manage}

-- the log is forced up to this number, and the manager is told
abbrev pub force_to : ℕ → CheckpointedMove
force_to n = Goes (Manage (calls.Forced n) (ForceLog n ∷ []))

-- a whole checkpoint that begins with this record, and finds nobody under way and no page dirty
abbrev pub whole_checkpoint : ℕ → ℕ → ℕ → List CheckpointedMove → List CheckpointedMove
whole_checkpoint begin end anchor later =
    Checkpoints (Done (Begun begin)) ∷ Checkpoints (Done (Ended end)) ∷ force_to end ∷ Checkpoints (Done (Anchored begin begin)) ∷ force_to anchor ∷ Checkpoints (Done Moved) ∷ later

abbrev pub two_checkpoints : List CheckpointedMove
two_checkpoints = whole_checkpoint 1 2 3 (whole_checkpoint 4 5 6 [])
