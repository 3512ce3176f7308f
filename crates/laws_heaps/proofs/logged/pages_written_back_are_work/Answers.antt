use Rattle.laws_heaps.proofs.Flushes.{work_of}
use Rattle.laws_heaps.proofs.logged.pages_written_back_are_work.Goals as goal

pub returns : goal.returns
returns g c = work_of
