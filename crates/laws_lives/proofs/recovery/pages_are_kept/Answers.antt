use Rattle.laws_lives.proofs.Invariant.{events_kept}
use Rattle.laws_lives.proofs.recovery.pages_are_kept.Goals as goal

pub returns : goal.returns
returns c s events last k moves = events_kept s events last k moves
