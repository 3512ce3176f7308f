use Rattle.laws_calls.proofs.RollbackRuns.{abort_comes_through}
use Rattle.laws_calls.proofs.rollbacks.an_interrupted_abort_comes_through.Goals as goal

pub returns : goal.returns
returns d g stream_bytes bytes store page short long = abort_comes_through g stream_bytes bytes store page short long
