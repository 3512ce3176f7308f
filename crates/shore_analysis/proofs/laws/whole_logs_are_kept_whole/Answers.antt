use Rattle.shore_analysis.proofs.KeptWholes.{kept_is_whole, kept_table, whole_is_kept, whole_table}
use Rattle.shore_analysis.proofs.laws.whole_logs_are_kept_whole.Goals as goal

pub returns-clause-meant : goal.returns-clause-meant
returns-clause-meant c = whole_is_kept

pub returns-clause-back : goal.returns-clause-back
returns-clause-back c = kept_is_whole

pub returns-clause-table : goal.returns-clause-table
returns-clause-table c rs txns = (whole_table rs txns, kept_table rs txns)
