use Rattle.std.proofs.Common.{◌≡◌, length}
use Rattle.test_threads.proofs.tests.queues.send_all.Given as goal

abbrev pub invariant-loop-round : goal.invariant-loop-round
invariant-loop-round g l = (g.T.Tail.first l.tail ≡ 1) × (length (g.T.Tail.records l.tail) ≡ l.round)
