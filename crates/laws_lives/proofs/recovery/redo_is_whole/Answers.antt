use Rattle.laws_lives.proofs.Invariant.{redone_whole}
use Rattle.laws_lives.proofs.recovery.redo_is_whole.Goals as goal

pub returns : goal.returns
returns c s k whole p i = redone_whole s k whole p i
