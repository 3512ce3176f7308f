use Rattle.laws_heaps.proofs.StaySettled.{settled_after, settled_shown}
use Rattle.laws_heaps.proofs.logged.heaps_stay_settled.Goals as goal

pub returns-clause-shown : goal.returns-clause-shown
returns-clause-shown g c = settled_shown

pub returns-clause-changed : goal.returns-clause-changed
returns-clause-changed g c = settled_after
