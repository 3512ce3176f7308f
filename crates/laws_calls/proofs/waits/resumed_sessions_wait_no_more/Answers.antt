use Rattle.laws_calls.proofs.EndedWaits.{answered_waits_no_more, refused_waits_no_more}
use Rattle.laws_calls.proofs.waits.resumed_sessions_wait_no_more.Goals as goal

pub returns-clause-answered : goal.returns-clause-answered
returns-clause-answered d = answered_waits_no_more

pub returns-clause-refused : goal.returns-clause-refused
returns-clause-refused d = refused_waits_no_more
