use Rattle.shore_analysis.proofs.MeantLogs.{lawful_meant}
use Rattle.shore_analysis.proofs.laws.lawful_logs_are_meant.Goals as goal

pub returns-clause-meant : goal.returns-clause-meant
returns-clause-meant c = lawful_meant
