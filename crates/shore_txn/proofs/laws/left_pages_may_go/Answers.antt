use Rattle.shore_txn.specs.Transactions.{txns_in}
use Rattle.shore_txn.proofs.ActiveKept.{left_fit, left_read}
use Rattle.shore_txn.proofs.laws.left_pages_may_go.Goals as goal

pub returns-clause-claims : goal.returns-clause-claims
returns-clause-claims c v R counts a p claimed m out = left_read v (txns_in c.args.old.now) (txns_in c.args.new.now) R counts a claimed m out p

pub returns-clause-fit : goal.returns-clause-fit
returns-clause-fit c v R counts a p claimed m out = left_fit v (txns_in c.args.old.now) (txns_in c.args.new.now) R counts a claimed m out p
