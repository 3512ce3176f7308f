use Rattle.laws_runs.proofs.Worked.{run_leaves_roomy}
use Rattle.laws_runs.proofs.bounds.one_insert_leaves_roomy_logs.Goals as goal

pub returns : goal.returns
returns c g stream_bytes bytes store page limits short long most = run_leaves_roomy g bytes store page limits short stream_bytes long most
