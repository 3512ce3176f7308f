use Rattle.laws_runs.proofs.Opens.{format_is_roomy}
use Rattle.laws_runs.proofs.bounds.formats_are_roomy.Goals as goal

pub returns : goal.returns
returns c g stream_bytes least most = format_is_roomy g stream_bytes least most
