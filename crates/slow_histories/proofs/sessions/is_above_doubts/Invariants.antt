use Rattle.std.proofs.Common.{◌<◌, take}
use Rattle.std.specs.Prelude.{All}
use Rattle.shore_model.specs.declared.histories.InDoubt.{InDoubt}
use Rattle.slow_histories.proofs.sessions.is_above_doubts.Given as goal

abbrev pub invariant-loop-doubt : goal.invariant-loop-doubt
invariant-loop-doubt l = All (λ (d : InDoubt). d.txn < l.txn) (take l.doubt-index l.in_doubt)
