use Rattle.shore_sessions.specs.Waits.{IsNoneMarked}
use Rattle.shore_sessions.proofs.waits.Waits.next_let_through.Given as goal

abbrev pub invariant-loop-place : goal.invariant-loop-place
invariant-loop-place l = IsNoneMarked l.self l.from l.place
