use Rattle.laws_calls.proofs.SettledThere.{settled_call_waits_at, settled_resume_waits_at}
use Rattle.laws_calls.proofs.settled_waits.waits_for_locks_are_true.Goals as goal

pub returns-clause-call : goal.returns-clause-call
returns-clause-call d g o found es s new session c at k was h = settled_call_waits_at g o found es s k was session at new c h

pub returns-clause-resume : goal.returns-clause-resume
returns-clause-resume d g o found es s new session at k was h = settled_resume_waits_at g o found es s k was session at new h
