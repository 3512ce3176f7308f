use Rattle.std.proofs.Common.{length}
use Rattle.laws_lives.proofs.LazyCommits.{its_ticket, others_acknowledge_nothing, same_txn}
use Rattle.laws_lives.proofs.Stretches.{up_is_at_work}
use Rattle.laws_lives.proofs.commits.tickets_name_commits.Goals as goal

pub returns-clause-number : goal.returns-clause-number
returns-clause-number c o s l ticket t f opening u among = its_ticket (length s.log) l.last.store.log l.made ticket t (up_is_at_work o s f opening l u).tickets among

pub returns-clause-one : goal.returns-clause-one
returns-clause-one c base log ticket t u h k = same_txn base log ticket t u h k

pub returns-clause-of_others : goal.returns-clause-of_others
returns-clause-of_others c es ticket durable none = others_acknowledge_nothing es ticket durable none
