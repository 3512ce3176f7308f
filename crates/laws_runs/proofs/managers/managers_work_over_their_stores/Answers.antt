use Rattle.laws_runs.proofs.Runs.{pages_show, state_after, works_on}
use Rattle.laws_runs.proofs.managers.managers_work_over_their_stores.Goals as goal

pub returns-clause-state : goal.returns-clause-state
returns-clause-state c g o s r f opening h = state_after g o s f opening r h

pub returns-clause-lawful : goal.returns-clause-lawful
returns-clause-lawful c g o s r f opening h = (works_on g o s f opening r h).sessions.whole.lawful

pub returns-clause-recoverable : goal.returns-clause-recoverable
returns-clause-recoverable c g o s r f opening h = (works_on g o s f opening r h).recoverable

pub returns-clause-pages : goal.returns-clause-pages
returns-clause-pages c g o s r id f opening h = pages_show g o s f opening r h id
