-- What the records of a checkpoint cost.
use Rattle.std.proofs.Common.{◌≡◌, ◌+◌, ℕ, List, length, arith}
use Rattle.shore_model.specs.declared.log_records.DirtyPage.{DirtyPage}
use Rattle.shore_model.specs.declared.log_records.LogTxn.{LogTxn}
use Rattle.shore_model.specs.declared.log_records.Payload.TheVariants.{Anchor, CheckpointBegin, CheckpointEnd}
use Rattle.shore_types.specs.declared.layout.TheConstants.{ENDING_COST, FRAME_SHARE}
use Rattle.shore_logrec.specs.Text.{anchor_text, cost_of, text}
use Rattle.shore_logrec.proofs.TextLengths.{lengths, length-checkpoint_text, length-text}
use Rattle.laws_checkpoints.specs.Checkpoints.{of_checkpoint}
use Rattle.laws_checkpoints.specs.RingRooms.{ANCHOR_COST, checkpoint_cost, end_cost}

anchor_length : (checkpoint tail : ℕ) → length (anchor_text checkpoint tail) ≡ 16
anchor_length checkpoint tail = simp lengths

pub whole_cost : (begin next tail : ℕ) (txns : List LogTxn) (dirty : List DirtyPage)
    → cost_of CheckpointBegin + cost_of (CheckpointEnd begin next txns dirty) + cost_of (Anchor begin tail) ≡ checkpoint_cost (length txns) (length dirty)
whole_cost begin next tail txns dirty = let all = length-checkpoint_text begin next txns dirty in let two = anchor_length begin tail in omega arith

pub end_is : (begin next : ℕ) (txns : List LogTxn) (dirty : List DirtyPage) → cost_of (CheckpointEnd begin next txns dirty) ≡ end_cost (length txns) (length dirty)
end_is begin next txns dirty = let all = length-checkpoint_text begin next txns dirty in omega arith

pub anchor_is : (checkpoint tail : ℕ) → cost_of (Anchor checkpoint tail) ≡ ANCHOR_COST
anchor_is checkpoint tail = let two = anchor_length checkpoint tail in omega arith

-- beside a frame's share each costs its text
pub end_text : (begin next : ℕ) (txns : List LogTxn) (dirty : List DirtyPage)
    → end_cost (length txns) (length dirty) ≡ FRAME_SHARE + length (text (of_checkpoint (CheckpointEnd begin next txns dirty)))
end_text begin next txns dirty =
    let head = length-text (of_checkpoint (CheckpointEnd begin next txns dirty)) in
    let all = length-checkpoint_text begin next txns dirty in
    omega (arith, head, all)

pub named_text : (checkpoint tail : ℕ) → FRAME_SHARE + length (text (of_checkpoint (Anchor checkpoint tail))) ≡ ANCHOR_COST
named_text checkpoint tail =
    let head = length-text (of_checkpoint (Anchor checkpoint tail)) in
    let two = anchor_length checkpoint tail in
    omega (arith, head, two)

pub begin_text : FRAME_SHARE + length (text (of_checkpoint CheckpointBegin)) ≡ ENDING_COST
begin_text = let head = length-text (of_checkpoint CheckpointBegin) in omega (arith, head)
