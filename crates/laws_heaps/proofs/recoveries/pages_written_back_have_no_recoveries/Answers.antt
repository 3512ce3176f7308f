use Rattle.laws_heaps.proofs.Cleaned.{cleaned_by}
use Rattle.laws_heaps.proofs.recoveries.pages_written_back_have_no_recoveries.Goals as goal

pub returns : goal.returns
returns g c = cleaned_by
