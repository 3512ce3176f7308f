use Rattle.std.proofs.Common.{◌∙◌, sym}
use Rattle.std.proofs.lemmas.Bool.{true≢false}
use Rattle.laws_checkpoints.proofs.Kept.{kept_unended}
use Rattle.laws_checkpoints.proofs.KeptMeant.{meant_behind, nothing_cut}
use Rattle.laws_checkpoints.proofs.KeptTables.{names_its_records}
use Rattle.laws_checkpoints.proofs.cut_logs.cut_logs_are_meant.Goals as goal

pub returns-clause-meant : goal.returns-clause-meant
returns-clause-meant c log volume cut lawful may n r at = meant_behind log lawful volume cut may n r at

pub returns-clause-ended : goal.returns-clause-ended
returns-clause-ended c log volume cut t lawful may one some k = true≢false (sym (may.ended t one some) ∙ (kept_unended log lawful volume cut may t k).1)

pub returns-clause-names : goal.returns-clause-names
returns-clause-names c cut kept e k = names_its_records cut kept e k

pub returns-clause-whole : goal.returns-clause-whole
returns-clause-whole c kept before r h one = nothing_cut kept before r h one
