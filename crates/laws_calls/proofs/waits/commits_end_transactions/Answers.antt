use Rattle.laws_calls.proofs.AnswersDone.{answered_in_none, under_way_no_more}
use Rattle.laws_calls.proofs.waits.commits_end_transactions.Goals as goal

pub returns-clause-gone : goal.returns-clause-gone
returns-clause-gone d g o found es s new session a answer k of h among = under_way_no_more g o found es s new k session answer h a of among

pub returns-clause-answered : goal.returns-clause-answered
returns-clause-answered d g o found es s new session answer k h = answered_in_none g o found es s new k session answer h
