use Rattle.laws_calls.proofs.SettledRefusals.{settled_call_earned, settled_resume_earned}
use Rattle.laws_calls.proofs.settled_refusals.settled_refusals_are_earned.Goals as goal

pub returns-clause-call : goal.returns-clause-call
returns-clause-call d g o found es s new session c f k none ample h = settled_call_earned g o found es s k session c f new none ample h

pub returns-clause-resume : goal.returns-clause-resume
returns-clause-resume d g o found es s new session f k may none ample h = settled_resume_earned g o found es s k session may f new none ample h
