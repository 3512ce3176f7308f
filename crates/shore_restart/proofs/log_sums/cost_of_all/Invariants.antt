use Rattle.std.proofs.Common.{◌≡◌, ◌-◌, ◌^◌, min, take}
use Rattle.laws_calls.specs.States.{cost_of_log}
use Rattle.shore_restart.proofs.log_sums.cost_of_all.Given as goal

abbrev pub invariant-loop-logged : goal.invariant-loop-logged
invariant-loop-logged l = l.sum ≡ min (cost_of_log (take l.logged-index l.log)) (2 ^ 64 - 1)
