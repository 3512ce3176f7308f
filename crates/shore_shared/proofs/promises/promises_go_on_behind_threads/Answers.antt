use Rattle.shore_shared.proofs.LegsOfThreads.{behind, behind_told}
use Rattle.shore_shared.proofs.promises.promises_go_on_behind_threads.Goals as goal

pub returns-clause-manager : goal.returns-clause-manager
returns-clause-manager c d old w o es ws k cut kept asked stepped geometry long ended = behind old w cut kept asked stepped geometry long o es ws k ended

pub returns-clause-told : goal.returns-clause-told
returns-clause-told c d old w o es ws k cut kept asked stepped geometry long ended = behind_told old w cut kept asked stepped geometry long o es ws k ended
