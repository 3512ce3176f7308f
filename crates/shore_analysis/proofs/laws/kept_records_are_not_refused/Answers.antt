use Rattle.shore_analysis.proofs.AnchoredFirsts.{none_unmeant}
use Rattle.shore_analysis.proofs.KeptEnded.{unended_whole}
use Rattle.shore_analysis.proofs.KeptLawful.{all_anchored, all_meant}
use Rattle.shore_analysis.proofs.laws.kept_records_are_not_refused.Goals as goal

pub returns-clause-meant : goal.returns-clause-meant
returns-clause-meant c g log volume cut lawful limits few may = all_meant g log lawful limits volume cut may few

pub returns-clause-anchored : goal.returns-clause-anchored
returns-clause-anchored c g log volume cut checkpoint lawful limits few may place = all_anchored g log lawful limits volume cut may few checkpoint place

pub returns-clause-none : goal.returns-clause-none
returns-clause-none c = none_unmeant

pub returns-clause-whole : goal.returns-clause-whole
returns-clause-whole c g cut kept t all unended = unended_whole g cut kept all t unended
