use Rattle.laws_lives.proofs.UnansweredChanges.{change_matches, compensation_answers, compensations_match}
use Rattle.laws_lives.proofs.sessions.unanswered_changes_match_undo.Goals as goal

pub returns-clause-change : goal.returns-clause-change
returns-clause-change c t log images id before image h = change_matches t log images id before image h

pub returns-clause-rollback : goal.returns-clause-rollback
returns-clause-rollback c t log kept es h = compensations_match t log kept es h

pub returns-clause-answers : goal.returns-clause-answers
returns-clause-answers c t log kept es e h = compensation_answers t log kept es e h
