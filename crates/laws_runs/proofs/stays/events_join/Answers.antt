use Rattle.laws_runs.proofs.SoundStores.{restarts_join}
use Rattle.laws_runs.proofs.UnderWay.{managed_join, moves_join}
use Rattle.laws_runs.proofs.stays.events_join.Goals as goal

pub returns-clause-moves : goal.returns-clause-moves
returns-clause-moves c g m mid last events later made more h k = moves_join g m events mid made later last more h k

pub returns-clause-managed : goal.returns-clause-managed
returns-clause-managed c events later = managed_join events later

pub returns-clause-restarts : goal.returns-clause-restarts
returns-clause-restarts c s mid last works later h k = restarts_join s works mid later last h k
