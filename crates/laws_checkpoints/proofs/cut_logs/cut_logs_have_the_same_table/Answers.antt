use Rattle.laws_checkpoints.proofs.KeptTables.{kept_table, no_longer, table_kept}
use Rattle.laws_checkpoints.proofs.cut_logs.cut_logs_have_the_same_table.Goals as goal

pub returns-clause-table : goal.returns-clause-table
returns-clause-table c log volume cut txns lawful may = (kept_table log lawful volume cut may txns, table_kept log lawful volume cut may txns)

pub returns-clause-no_longer : goal.returns-clause-no_longer
returns-clause-no_longer c log cut n few all lawful within k h = no_longer log lawful cut n within few all k h
