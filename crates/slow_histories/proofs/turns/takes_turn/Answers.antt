use Rattle.std.proofs.Common.{sym}
use Rattle.slow_histories.proofs.TurnLemmas.{turn_ungiven}
use Rattle.slow_histories.proofs.turns.takes_turn.Goals as goal

pub runs_alone_after-requires : goal.runs_alone_after-requires
runs_alone_after-requires c = turn_ungiven c.args.opening.now.in_doubt c.args.before.now c.args.decision.now c.in-Some.txn (sym c.in-Some.ensures)
