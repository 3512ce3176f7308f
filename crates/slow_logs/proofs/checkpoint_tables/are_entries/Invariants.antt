use Rattle.std.proofs.Common.{take}
use Rattle.std.specs.Prelude.{All}
use Rattle.shore_model.specs.Logs.{IsEntry}
use Rattle.slow_logs.proofs.checkpoint_tables.are_entries.Given as goal

abbrev pub invariant-loop-entry : goal.invariant-loop-entry
invariant-loop-entry l = All (IsEntry l.records) (take l.entry-index l.txns)
