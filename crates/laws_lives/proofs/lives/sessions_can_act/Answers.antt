use Rattle.laws_lives.proofs.CanAct.{every_run_happens}
use Rattle.laws_lives.proofs.lives.sessions_can_act.Goals as goal

pub returns : goal.returns
returns c o s f opening = every_run_happens o s f opening
