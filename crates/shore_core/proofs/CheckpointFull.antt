-- Only a begin is refused for want of room, and only a begin answers that it has begun.
use Rattle.std.proofs.Common.{◌≡◌, ⊎_elim, ℕ, false, true, ap, sym, ◌∙◌}
use Rattle.shore_types.specs.declared.faults.Fault.TheVariants as fault
use Rattle.shore_model.specs.declared.calls.Answer.TheVariants.{Begun}
use Rattle.shore_model.specs.declared.step.Step.{Step}
use Rattle.shore_model.specs.declared.step.Step.TheVariants.{Done, Refused}
use Rattle.shore_check.specs.declared.stage.Mark.{Mark}
use Rattle.laws_checkpoints.specs.Checkpoints.{Checkpoint}
use Rattle.laws_checkpoints.specs.CheckpointedStores.{BeginLogged, CheckpointStage, EndLogged, NoCheckpoint}
use Rattle.laws_runs.specs.CheckpointSteps.{CheckpointMoves, CheckpointedState}
use Rattle.shore_core.specs.declared.checkpointing.CheckpointStep.{CheckpointStep}
use Rattle.shore_core.specs.declared.checkpointing.CheckpointStep.TheVariants.{Made, Move}

abbrev made_or : Step → CheckpointStep → Step
made_or other (Made step) = step
made_or other (Move mark) = other

pub made_is : (one other : Step) → Made one ≡ Made other → one ≡ other
made_is one other says = ap (made_or one) says

pub no_move : (mark : Mark) (step : Step) → Move mark ≡ Made step → ⊥
no_move mark step says = cc

pub begun_none : (stage : CheckpointStage) (c : Checkpoint) → stage ≡ BeginLogged c → stage ≡ NoCheckpoint → ⊥
begun_none stage c begun none = cc

pub ended_none : (stage : CheckpointStage) (c : Checkpoint) (n : ℕ) → stage ≡ EndLogged c n → stage ≡ NoCheckpoint → ⊥
ended_none stage c n ended none = cc

pub full_none : (m new : CheckpointedState) → m.state.failed ≡ false → CheckpointMoves m (Refused fault.LogFull) new → m.store.stage ≡ NoCheckpoint
full_none m new works moves = ⊎_elim
    (λ failed. absurd (both failed.0))
    (λ refused. ⊎_elim
    (λ memory. absurd (no_memory memory.0))
    (λ rest. ⊎_elim (λ full. full.1) (λ device. absurd (no_device device.0)) rest)
    refused.1)
    moves
  where
    both : m.state.failed ≡ true → ⊥
    both failed = cc

    no_memory : fault.LogFull ≡ fault.Memory → ⊥
    no_memory says = cc

    no_device : fault.LogFull ≡ fault.Device → ⊥
    no_device says = cc

pub begins_from : (m new : CheckpointedState) (n : ℕ) → CheckpointMoves m (Done (Begun n)) new → m.store.stage ≡ NoCheckpoint
begins_from m new n moves = moves.1.2
