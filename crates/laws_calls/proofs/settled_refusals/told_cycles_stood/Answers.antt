use Rattle.laws_calls.proofs.SettledRefusals.{settled_call_deadlock, settled_resume_deadlock}
use Rattle.laws_calls.proofs.settled_refusals.told_cycles_stood.Goals as goal

pub returns-clause-call : goal.returns-clause-call
returns-clause-call d g o found es s new session c cycle k h = settled_call_deadlock g o found es s k session c cycle new h

pub returns-clause-resume : goal.returns-clause-resume
returns-clause-resume d g o found es s new session cycle k may h = settled_resume_deadlock g o found es s k session may cycle new h
