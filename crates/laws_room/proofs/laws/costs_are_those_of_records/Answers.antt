use Rattle.std.proofs.Common.{refl}
use Rattle.laws_room.proofs.Costs.{change_bytes, compensation_bytes, prepare_bytes}
use Rattle.laws_room.proofs.laws.costs_are_those_of_records.Goals as goal

pub returns-clause-change : goal.returns-clause-change
returns-clause-change c = change_bytes

pub returns-clause-compensation : goal.returns-clause-compensation
returns-clause-compensation c = compensation_bytes

pub returns-clause-ending : goal.returns-clause-ending
returns-clause-ending c = (refl, refl)

pub returns-clause-prepare : goal.returns-clause-prepare
returns-clause-prepare c global granules = (refl, prepare_bytes global granules)

pub returns-clause-rollback : goal.returns-clause-rollback
returns-clause-rollback c = refl
