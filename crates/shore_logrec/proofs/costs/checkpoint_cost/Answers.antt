use Rattle.std.proofs.Common.{arith}
use Rattle.shore_logrec.proofs.TextLengths.{length-checkpoint_text}
use Rattle.shore_logrec.proofs.costs.checkpoint_cost.Goals as goal

pub returns-clause-cost : goal.returns-clause-cost
returns-clause-cost c begin next tail entries dirty txns pages =
    omega (arith, length-checkpoint_text begin next entries dirty, c.end_text_len-texts.ensures.len, txns, pages)
