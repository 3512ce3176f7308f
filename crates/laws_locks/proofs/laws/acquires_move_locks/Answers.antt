use Rattle.laws_locks.proofs.Held.{moves_of}
use Rattle.laws_locks.proofs.laws.acquires_move_locks.Goals as goal

pub returns : goal.returns
returns c s rs new held orderly later rooted none below = moves_of s rs new held orderly later rooted (λ t among g m. none t g m) below
