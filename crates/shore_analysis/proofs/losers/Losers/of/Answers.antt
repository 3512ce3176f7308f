use Rattle.std.proofs.Common.{sym, subst, ap, ◌∙◌}
use Rattle.std.specs.Prelude.{filter}
use Rattle.shore_model.specs.Logs.{IsTable}
use Rattle.shore_analysis.specs.Losers.{AreEntriesOfLosers, is_of_loser}
use Rattle.shore_analysis.proofs.Entries.{of_table}
use Rattle.shore_analysis.proofs.losers.Losers.of.Goals as goal

pub returns-clause-losers : goal.returns-clause-losers
returns-clause-losers c g found tables meant are is =
    subst (AreEntriesOfLosers found) (ap (filter is_of_loser) (sym c.into_vec-entries.ensures) ∙ sym c.leave_doubts.ensures) (of_table found c.args.txns (subst (IsTable found) is are.txns))

pub returns-clause-table : goal.returns-clause-table
returns-clause-table c log table =
    subst (AreEntriesOfLosers log) (ap (filter is_of_loser) (sym c.into_vec-entries.ensures) ∙ sym c.leave_doubts.ensures) (of_table log c.args.txns table)

pub returns-clause-entries : goal.returns-clause-entries
returns-clause-entries c = c.leave_doubts.ensures ∙ ap (filter is_of_loser) c.into_vec-entries.ensures
