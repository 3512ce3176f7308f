use Rattle.laws_lives.proofs.LazyCommits.{it_goes, its_locks_go, its_session_is_free, others_stay}
use Rattle.laws_lives.proofs.commits.commits_end_at_once.Goals as goal

pub returns-clause-locks : goal.returns-clause-locks
returns-clause-locks c s new a ticket steps = its_locks_go s new a ticket steps

pub returns-clause-others : goal.returns-clause-others
returns-clause-others c s new a ticket t steps other = others_stay s new a ticket steps t other

pub returns-clause-gone : goal.returns-clause-gone
returns-clause-gone c s new a ticket steps b = it_goes s new a ticket steps b

pub returns-clause-freed : goal.returns-clause-freed
returns-clause-freed c s new a ticket steps = its_session_is_free s new a ticket steps
