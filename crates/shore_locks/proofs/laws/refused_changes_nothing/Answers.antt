use Rattle.shore_locks.proofs.Answered.{refused_unchanged}
use Rattle.shore_locks.proofs.laws.refused_changes_nothing.Goals as goal

pub returns : goal.returns
returns c = refused_unchanged
