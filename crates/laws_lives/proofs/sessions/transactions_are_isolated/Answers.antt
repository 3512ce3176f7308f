use Rattle.laws_lives.proofs.Isolation.{abort_is_elsewhere, put_back_is_elsewhere, reply_is_elsewhere, standing_is_hidden, written_is_hidden}
use Rattle.laws_lives.proofs.LoggedInPlace.{logged_is_hidden}
use Rattle.laws_lives.proofs.sessions.transactions_are_isolated.Goals as goal

pub returns-clause-written : goal.returns-clause-written
returns-clause-written c o es s t a id k other mem none wrote reads = written_is_hidden k t a id other mem none wrote reads

pub returns-clause-standing : goal.returns-clause-standing
returns-clause-standing c o es s t u id k other among stands reads = standing_is_hidden k t u id other among stands reads

pub returns-clause-logged : goal.returns-clause-logged
returns-clause-logged c o es s log t u id k l other among some reads = logged_is_hidden k l t u id other among some reads

pub returns-clause-reply : goal.returns-clause-reply
returns-clause-reply d o es old new a c reply t id k moves other reads = reply_is_elsewhere k new a c reply t id moves other reads

pub returns-clause-rollback : goal.returns-clause-rollback
returns-clause-rollback c o es old new a t id k moves other reads = abort_is_elsewhere k new a t id moves other reads

pub returns-clause-put_back : goal.returns-clause-put_back
returns-clause-put_back d o es old new a kept e r t id k moves other reads = put_back_is_elsewhere k new a kept e r t id moves other reads
