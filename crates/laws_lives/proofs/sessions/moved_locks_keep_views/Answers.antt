use Rattle.laws_lives.proofs.Views.{locks_may_move}
use Rattle.laws_lives.proofs.sessions.moved_locks_keep_views.Goals as goal

pub returns : goal.returns
returns c held new now R ts writes k harmony reads keeps = locks_may_move k new harmony reads keeps
