use Rattle.laws_calls.proofs.GivingUp.{given_up_alone, given_up_grants, given_up_idle, given_up_keeps_txn, given_up_quiet, given_up_weakens_none}
use Rattle.laws_calls.proofs.giving_up.waits_taken_back_change_waits_alone.Goals as goal

pub returns-clause-alone : goal.returns-clause-alone
returns-clause-alone d = λ old new session step h. given_up_alone old new session step h

pub returns-clause-idle : goal.returns-clause-idle
returns-clause-idle d = λ old new session step h. given_up_idle old new session step h

pub returns-clause-quiet : goal.returns-clause-quiet
returns-clause-quiet d = λ o found es old new session step k h. given_up_quiet o found es old k session step new h

pub returns-clause-others : goal.returns-clause-others
returns-clause-others d = λ o found es old new session step k h. given_up_grants o found es old k session step new h

pub returns-clause-none_weaker : goal.returns-clause-none_weaker
returns-clause-none_weaker d = λ o found es old new session step k h. given_up_weakens_none o found es old k session step new h

pub returns-clause-transaction : goal.returns-clause-transaction
returns-clause-transaction d = λ old new session step h. given_up_keeps_txn old new session step h
