use Rattle.laws_checkpoints.proofs.KeptOrders.{restarted, shows_all}
use Rattle.laws_checkpoints.proofs.checkpoints.restarts_by_kept_records_show_all.Goals as goal

pub returns-clause-in_order : goal.returns-clause-in_order
returns-clause-in_order c s events last k h =
    let r = restarted s events last k h in
    (r.whole, r.leads, r.seen, r.in_order)

pub returns-clause-shows : goal.returns-clause-shows
returns-clause-shows c s n left events last k more most may h done none p i = shows_all s k n left more most may events last h done none p i
