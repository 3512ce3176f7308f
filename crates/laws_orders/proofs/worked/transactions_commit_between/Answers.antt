use Rattle.laws_orders.proofs.WorkedRun.{run_between}
use Rattle.laws_orders.proofs.worked.transactions_commit_between.Goals as goal

pub returns : goal.returns
returns c o a b x y z global ticket differ at_a at_b = run_between o a b x y z global ticket differ at_a at_b
