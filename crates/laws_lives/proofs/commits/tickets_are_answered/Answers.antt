use Rattle.std.proofs.Common.{length}
use Rattle.laws_lives.proofs.LazyCommits.{can_ask, seen_are_kept}
use Rattle.laws_lives.proofs.Failing.{may_lose_power}
use Rattle.laws_lives.proofs.Stretches.{up_is_at_work}
use Rattle.laws_lives.proofs.commits.tickets_are_answered.Goals as goal

pub returns-clause-always : goal.returns-clause-always
returns-clause-always c m ticket = can_ask m ticket

pub returns-clause-exactly : goal.returns-clause-exactly
returns-clause-exactly c m new ticket durable works steps = (steps.1.1, steps.0, steps.3)

pub returns-clause-seen : goal.returns-clause-seen
returns-clause-seen c o s l failing seen n f opening u fails within least most =
    let may = may_lose_power (length s.log) l.first.next_txn o l.made l.last (up_is_at_work o s f opening l u) failing fails in
    seen_are_kept (length s.log) o l.made failing may seen n within least most
