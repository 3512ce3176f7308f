use Rattle.laws_runs.proofs.Worked.{committed_may_be_opened, inserted_before_full}
use Rattle.laws_runs.proofs.stays.logs_in_bounds_may_be_opened.Goals as goal

pub returns-clause-opened : goal.returns-clause-opened
returns-clause-opened c g bytes store page limits short = committed_may_be_opened g bytes store page limits short

pub returns-clause-before : goal.returns-clause-before
returns-clause-before c g bytes k = inserted_before_full g bytes k
