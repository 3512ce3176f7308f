use Rattle.laws_lives.proofs.Resolvable.{abort_can_come, commit_can_come, end_can_come}
use Rattle.laws_lives.proofs.sessions.doubts_can_be_resolved.Goals as goal

pub returns-clause-commit : goal.returns-clause-commit
returns-clause-commit c o es s p k among answered = commit_can_come o es s p k among answered

pub returns-clause-abort : goal.returns-clause-abort
returns-clause-abort c o es s p k among answered = abort_can_come o es s p k among answered

pub returns-clause-end : goal.returns-clause-end
returns-clause-end c log s a k among resolved = end_can_come log s a k among resolved
