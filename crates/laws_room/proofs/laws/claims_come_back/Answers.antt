use Rattle.laws_room.proofs.Fetching.{fetched, fetching_fits}
use Rattle.laws_room.proofs.laws.claims_come_back.Goals as goal

pub returns : goal.returns
returns c v R undos counts p k = (fetched v R undos counts k p, fetching_fits v R undos counts k p)
