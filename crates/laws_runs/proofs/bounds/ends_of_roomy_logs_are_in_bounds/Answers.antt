use Rattle.laws_runs.proofs.RoomyEnds.{end_in_limits}
use Rattle.laws_runs.proofs.bounds.ends_of_roomy_logs_are_in_bounds.Goals as goal

pub returns : goal.returns
returns c g stream_bytes least log n r begin next txns dirty k ends at is = end_in_limits g stream_bytes least log k ends n r begin next txns dirty at is
