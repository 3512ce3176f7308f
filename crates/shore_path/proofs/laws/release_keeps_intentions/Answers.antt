use Rattle.shore_locks.specs.Grants.{released}
use Rattle.shore_path.proofs.Freeing.{rooted_released}
use Rattle.shore_path.proofs.Intentions.{are_rooted, rooted_of}
use Rattle.shore_path.proofs.laws.release_keeps_intentions.Goals as goal

pub returns : goal.returns
returns c = λ rs t orderly rooted. are_rooted (released t rs) (rooted_released t rs orderly (rooted_of rs orderly.one_each rooted))
