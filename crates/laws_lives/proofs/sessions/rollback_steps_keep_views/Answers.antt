use Rattle.laws_lives.proofs.RollingBack.{sees_logged, step_sees}
use Rattle.laws_lives.proofs.UndoLists.{step_undoes}
use Rattle.laws_lives.proofs.sessions.rollback_steps_keep_views.Goals as goal

pub returns-clause-begin : goal.returns-clause-begin
returns-clause-begin c held now R t p L m g = sees_logged m g

pub returns-clause-step : goal.returns-clause-step
returns-clause-step c held now R t L id image w m = step_sees id image w m

pub returns-clause-rest : goal.returns-clause-rest
returns-clause-rest c held now R t p undo kept e r k is may least = step_undoes k kept e is r may least
