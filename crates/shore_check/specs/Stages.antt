-- A checkpoint under way, as its owner has it in memory: the tables are in its End until that is logged, and then only what its Anchor record says is left.
use Rattle.std.specs.Prelude.{◌≡◌, ◌+◌, ◌-◌, ◌*◌, ℕ, length}
use Rattle.shore_types.specs.declared.layout.TheConstants.{FRAME_SHARE}
use Rattle.shore_logrec.specs.Text.{CheckpointFits}
use Rattle.laws_checkpoints.specs.Checkpoints.{Checkpoint, end_payload, of_checkpoint}
use Rattle.laws_checkpoints.specs.CheckpointedStores.{AnchorLogged, BeginLogged, CheckpointStage, EndLogged, NoCheckpoint}
use Rattle.laws_checkpoints.specs.RingRooms.{ANCHOR_COST, end_cost}
use Rattle.shore_check.specs.declared.stage.Begun.{Begun}
use Rattle.shore_check.specs.declared.stage.Ended.{Ended}
use Rattle.shore_check.specs.declared.stage.Ending.{Ending}
use Rattle.shore_check.specs.declared.stage.Named.{Named}
use Rattle.shore_check.specs.declared.stage.Stage.{Stage}
use Rattle.shore_check.specs.declared.stage.Stage.TheVariants as stage
use Rattle.shore_check.specs.Marks.{mark_of}

-- its End is ready, and has a text
pub record IsBegun (c : Checkpoint) (b : Begun) : Type 0 where
  pub end : b.end ≡ of_checkpoint (end_payload c)
  pub fits : CheckpointFits c.begin c.next c.txns c.dirty
  pub mark : b.mark ≡ mark_of c
  pub cost : b.end_cost ≡ end_cost (length c.txns) (length c.dirty)

-- its End is being pushed
pub record IsEnding (c : Checkpoint) (e : Ending) : Type 0 where
  pub fits : CheckpointFits c.begin c.next c.txns c.dirty
  pub mark : e.mark ≡ mark_of c
  pub cost : e.end_cost ≡ end_cost (length c.txns) (length c.dirty)

-- its End is logged under this number
pub record IsEnded (c : Checkpoint) (n : ℕ) (e : Ended) : Type 0 where
  pub mark : e.mark ≡ mark_of c
  pub number : e.number ≡ n

-- its Anchor record is
pub record IsNamed (c : Checkpoint) (n : ℕ) (m : Named) : Type 0 where
  pub mark : m.mark ≡ mark_of c
  pub number : m.number ≡ n

-- the owner's stage is this one of the life of the store
abbrev pub IsAt : Stage → CheckpointStage → Type 0
IsAt stage.Resting s = s ≡ NoCheckpoint
IsAt (stage.Begun b) s = (c : Checkpoint) × (s ≡ BeginLogged c) × IsBegun c b
IsAt (stage.Ended e) s = (c : Checkpoint) × (n : ℕ) × (s ≡ EndLogged c n) × IsEnded c n e
IsAt (stage.Named m) s = (c : Checkpoint) × (n : ℕ) × (s ≡ AnchorLogged c n) × IsNamed c n m

-- what the checkpoint still has to log
abbrev pub to_log : Stage → ℕ
to_log stage.Resting = 0
to_log (stage.Begun b) = b.end_cost + ANCHOR_COST
to_log (stage.Ended e) = ANCHOR_COST
to_log (stage.Named m) = 0

-- what is to be kept aside for it: so many records, with so many bytes of texts
abbrev pub records_to_log : Stage → ℕ
records_to_log stage.Resting = 0
records_to_log (stage.Begun b) = 2
records_to_log (stage.Ended e) = 1
records_to_log (stage.Named m) = 0

abbrev pub bytes_to_log : Stage → ℕ
bytes_to_log s = to_log s - FRAME_SHARE * records_to_log s
