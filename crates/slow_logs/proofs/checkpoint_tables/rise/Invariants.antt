use Rattle.std.proofs.Common.{◌≡◌, drop}
use Rattle.shore_model.specs.Logs.{rise_above}
use Rattle.slow_logs.proofs.checkpoint_tables.rise.Given as goal

-- those that are left rise above the last one if and only if all rise
abbrev pub invariant-loop-entry : goal.invariant-loop-entry
invariant-loop-entry l = rise_above l.last (drop l.entry-index l.txns) ≡ rise_above 0 l.txns
