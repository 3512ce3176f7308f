use Rattle.shore_locks.specs.Grants.{cancelled}
use Rattle.shore_path.proofs.Freeing.{rooted_cancelled}
use Rattle.shore_path.proofs.Intentions.{are_rooted, rooted_of}
use Rattle.shore_path.proofs.laws.cancel_keeps_intentions.Goals as goal

pub returns : goal.returns
returns c = λ rs t orderly rooted. are_rooted (cancelled t rs) (rooted_cancelled t rs orderly (rooted_of rs orderly.one_each rooted))
