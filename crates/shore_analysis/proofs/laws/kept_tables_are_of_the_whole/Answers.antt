use Rattle.laws_checkpoints.proofs.KeptTables.{kept_table}
use Rattle.shore_analysis.proofs.laws.kept_tables_are_of_the_whole.Goals as goal

pub returns : goal.returns
returns c log volume cut checkpoint tables lawful may are = kept_table log lawful volume cut may tables.txns are.txns
