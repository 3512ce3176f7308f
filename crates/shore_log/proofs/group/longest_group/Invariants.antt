use Rattle.std.proofs.Common.{◌≡◌, ◌≤◌, length, take}
use Rattle.shore_logrec.specs.Text.{texts}
use Rattle.shore_log.proofs.group.longest_group.Given as goal

abbrev pub invariant-loop-count : goal.invariant-loop-count
invariant-loop-count l = record { so_far : l.len ≡ length (texts (take l.count l.records)); fits : l.len ≤ 65536 }
