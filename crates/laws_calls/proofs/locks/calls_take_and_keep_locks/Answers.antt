use Rattle.laws_calls.proofs.LocksKept.{answer_has_locks, call_keeps_locks, others_keep_locks}
use Rattle.laws_calls.proofs.ResolveLocks.{refused_resolve_keeps, resolve_keeps_others}
use Rattle.laws_calls.proofs.AnswersDone.{refused_commit_keeps}
use Rattle.laws_calls.proofs.locks.calls_take_and_keep_locks.Goals as goal

pub returns-clause-has : goal.returns-clause-has
returns-clause-has d g o found es s new session c answer a k of h = answer_has_locks g o found es s new k session c answer a of h

pub returns-clause-keeps : goal.returns-clause-keeps
returns-clause-keeps d g o found es s new session c step u k other no_commit none h = call_keeps_locks g o found es s new k session c step other no_commit none h u

pub returns-clause-keeps_others : goal.returns-clause-keeps_others
returns-clause-keeps_others d g o found es s new session c step a u k of other h = others_keep_locks g o found es s new k session c step a of h u other

pub returns-clause-refused_commit_keeps : goal.returns-clause-refused_commit_keeps
returns-clause-refused_commit_keeps d = refused_commit_keeps

pub returns-clause-refused_resolve_keeps : goal.returns-clause-refused_resolve_keeps
returns-clause-refused_resolve_keeps d = refused_resolve_keeps

pub returns-clause-resolve_keeps_others : goal.returns-clause-resolve_keeps_others
returns-clause-resolve_keeps_others d g o found es s new session global asked step u k other h = resolve_keeps_others g o found es s k session global asked step new u other h
