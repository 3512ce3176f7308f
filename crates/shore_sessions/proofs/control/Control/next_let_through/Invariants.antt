use Rattle.std.proofs.Common.{◌≤◌, ◌-◌, length}
use Rattle.shore_sessions.specs.Controls.{NoneLetThrough, waits_in}
use Rattle.shore_sessions.proofs.control.Control.next_let_through.Given as goal

abbrev pub invariant-loop-place : goal.invariant-loop-place
invariant-loop-place l = NoneLetThrough l.self l.from l.next × (l.from ≤ l.next)

abbrev pub decreases-loop-place : goal.decreases-loop-place
decreases-loop-place l = length (waits_in l.self) - l.next
