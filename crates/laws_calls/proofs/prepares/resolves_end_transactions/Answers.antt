use Rattle.laws_calls.proofs.EndedResolves.{session_free, under_way_no_more, unused_answered, unused_resumed, used_while_waiting}
use Rattle.laws_calls.proofs.ResolveLocks.{no_request_left, resolve_gone}
use Rattle.laws_calls.proofs.prepares.resolves_end_transactions.Goals as goal

pub returns-clause-locks : goal.returns-clause-locks
returns-clause-locks d g o found es s new session global asked step k some h =
    (no_request_left g o found es s k session global asked step new some h, (resolve_gone g o found es s k session global asked step new some h).1)

pub returns-clause-ended : goal.returns-clause-ended
returns-clause-ended d g o found es s new session global asked step k some h among = under_way_no_more g o found es s k session global asked step new some h among

pub returns-clause-free : goal.returns-clause-free
returns-clause-free d g o found es s new session global asked step k some h = session_free g o found es s k session global asked step new some h

pub returns-clause-in_use : goal.returns-clause-in_use
returns-clause-in_use d = used_while_waiting

pub returns-clause-answered : goal.returns-clause-answered
returns-clause-answered d g o found es s new session global asked answer k h = unused_answered g o found es s k session global asked new answer h

pub returns-clause-resumed : goal.returns-clause-resumed
returns-clause-resumed d g o found es s new session k h = unused_resumed g o found es s k session new h
