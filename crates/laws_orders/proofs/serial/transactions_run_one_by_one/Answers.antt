use Rattle.laws_orders.proofs.OneByOne.{committed_run, shown_run, all_run}
use Rattle.laws_orders.proofs.serial.transactions_run_one_by_one.Goals as goal

pub returns-clause-committed : goal.returns-clause-committed
returns-clause-committed c = committed_run

pub returns-clause-shown : goal.returns-clause-shown
returns-clause-shown c = shown_run

pub returns-clause-any : goal.returns-clause-any
returns-clause-any c = all_run
