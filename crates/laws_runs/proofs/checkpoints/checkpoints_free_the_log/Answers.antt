use Rattle.std.proofs.Common.{refl}
use Rattle.laws_runs.proofs.TwoCheckpoints.{is_freed, second_moved, two_made}
use Rattle.laws_runs.proofs.checkpoints.checkpoints_free_the_log.Goals as goal

pub returns : goal.returns
returns c g stream_bytes long = (second_moved g stream_bytes long, two_made g stream_bytes long, refl, is_freed g stream_bytes long)
