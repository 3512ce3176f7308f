use Rattle.std.proofs.Common.{arith}
use Rattle.shore_types.specs.Versions.{record_limit-most}
use Rattle.laws_calls.proofs.RollbackRuns.{goes_back_and_commits}
use Rattle.laws_calls.proofs.rollbacks.rollback_to_a_savepoint.Goals as goal

pub returns : goal.returns
returns d g stream_bytes bytes more store page short also longer = goes_back_and_commits g stream_bytes bytes store page short (omega (arith, longer, record_limit-most g.version)) more also longer
