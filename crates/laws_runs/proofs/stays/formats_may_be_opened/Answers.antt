use Rattle.laws_runs.proofs.SoundStores.{format_may_be_opened}
use Rattle.laws_runs.proofs.stays.formats_may_be_opened.Goals as goal

pub returns : goal.returns
returns c g stream_bytes least most = format_may_be_opened g stream_bytes least most
