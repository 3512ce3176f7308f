use Rattle.laws_lives.proofs.WorkedRun.{interleave}
use Rattle.laws_lives.proofs.sessions.two_sessions_interleave.Goals as goal

pub returns : goal.returns
returns c o a b x y z ticket differ at_a at_b = interleave a b differ o x y z ticket at_a at_b
