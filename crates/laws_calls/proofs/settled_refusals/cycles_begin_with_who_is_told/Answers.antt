use Rattle.laws_calls.proofs.OwnCycles.{call_told_first, events_begin, opened_begins, resume_told_first}
use Rattle.laws_calls.proofs.settled_refusals.cycles_begin_with_who_is_told.Goals as goal

pub returns-clause-open : goal.returns-clause-open
returns-clause-open d = opened_begins

pub returns-clause-events : goal.returns-clause-events
returns-clause-events d g o found es s last events k was h = events_begin g o found es s events last k was h

pub returns-clause-call : goal.returns-clause-call
returns-clause-call d g o found es s new session c cycle k was h = call_told_first g o found es s k session c cycle new was h

pub returns-clause-resume : goal.returns-clause-resume
returns-clause-resume d g o found es s new session cycle k may was h = resume_told_first g o found es s k may session cycle new was h
