use Rattle.slow_histories.proofs.Runs.{one_reply}
use Rattle.slow_histories.proofs.progress.may_enter.Goals as goal

pub returns-in-Some : goal.returns-in-Some
returns-in-Some c = one_reply c.args.slots c.args.records.now c.args.progress.now c.in-Some.exchange.now c.may_reply.result c.may_reply.ensures _ c.in-Some.ensures
