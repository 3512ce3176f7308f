use Rattle.laws_lives.proofs.WaitsDecided.{run_has_decisions}
use Rattle.laws_lives.proofs.commits.waits_end_with_a_force.Goals as goal

pub returns-clause-prepares : goal.returns-clause-prepares
returns-clause-prepares c o found all first last events made p opened runs among waits = (run_has_decisions o found all first last events made opened runs).prepares p among waits

pub returns-clause-resolves : goal.returns-clause-resolves
returns-clause-resolves c o found all first last events made r opened runs among = (run_has_decisions o found all first last events made opened runs).resolves r among
