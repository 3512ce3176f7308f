use Rattle.slow_logs.proofs.AfterPrepare.{records_after_prepare}
use Rattle.slow_logs.proofs.laws.prepare_adds_its_writes.Goals as goal

pub returns : goal.returns
returns c rs t p global granules unprepared uncommitted undecided = records_after_prepare rs t p global granules unprepared uncommitted undecided
