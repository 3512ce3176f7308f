use Rattle.shore_heap.proofs.Scanned.{scans_as_the_model}
use Rattle.shore_heap.proofs.laws.scans_are_the_models.Goals as goal

pub returns : goal.returns
returns c = scans_as_the_model
