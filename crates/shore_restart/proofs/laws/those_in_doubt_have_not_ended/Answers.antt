use Rattle.shore_restart.proofs.DoubtsAll.{left_of_lawful, left_of_meant, left_of_whole}
use Rattle.shore_restart.proofs.laws.those_in_doubt_have_not_ended.Goals as goal

pub returns-clause-meant : goal.returns-clause-meant
returns-clause-meant c g log meant = left_of_meant g log meant

pub returns-clause-lawful : goal.returns-clause-lawful
returns-clause-lawful c log lawful = left_of_lawful log lawful

pub returns-clause-kept : goal.returns-clause-kept
returns-clause-kept c g cut log lawful ends meant = left_of_whole g cut log ends meant lawful
