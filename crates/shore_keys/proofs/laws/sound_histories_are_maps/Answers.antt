use Rattle.shore_model.specs.Histories.{decisions}
use Rattle.shore_keys.proofs.Joined.{represents, right, run_alone}
use Rattle.shore_keys.proofs.laws.sound_histories_are_maps.Goals as goal

pub returns-clause-right : goal.returns-clause-right
returns-clause-right c k slots R es m acts sound none rep all n t e = right k slots es acts all R m (decisions es) (run_alone k slots es acts all R sound none) none rep n t e

pub returns-clause-represents : goal.returns-clause-represents
returns-clause-represents c k slots R es m acts sound none rep all n = represents k slots es acts all R m (decisions es) (run_alone k slots es acts all R sound none) none rep n
