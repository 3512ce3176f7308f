use Rattle.shore_heap.proofs.Scanned.{parts_as_the_model}
use Rattle.shore_heap.proofs.laws.parts_are_the_models.Goals as goal

pub returns : goal.returns
returns c = parts_as_the_model
