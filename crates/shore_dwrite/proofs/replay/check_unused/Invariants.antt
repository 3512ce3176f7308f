use Rattle.std.proofs.Common.{◌≡◌, ◌-◌}
use Rattle.shore_dwrite.specs.Checks.{zero_verdict}
use Rattle.shore_dwrite.proofs.replay.check_unused.Given as goal

abbrev pub invariant-loop-i : goal.invariant-loop-i
invariant-loop-i l = zero_verdict l.table l.fn.count (32 - l.fn.count) ≡ zero_verdict l.table l.i (32 - l.i)
