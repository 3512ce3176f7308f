use Rattle.slow_logs.proofs.AfterCommit.{records_after_commit}
use Rattle.slow_logs.proofs.laws.commit_adds_its_writes.Goals as goal

pub returns : goal.returns
returns c rs t p h = records_after_commit rs t p h
