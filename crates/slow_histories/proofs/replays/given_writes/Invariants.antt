use Rattle.std.proofs.Common.{◌≡◌, drop}
use Rattle.shore_model.specs.Histories.{writes_given}
use Rattle.slow_histories.proofs.replays.given_writes.Given as goal

abbrev pub invariant-loop-doubt : goal.invariant-loop-doubt
invariant-loop-doubt l = writes_given (drop l.doubt-index l.in_doubt) l.txn ≡ writes_given l.in_doubt l.txn
