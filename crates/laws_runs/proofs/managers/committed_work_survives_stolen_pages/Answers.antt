use Rattle.laws_runs.proofs.Fixed.{lists_are_fixed}
use Rattle.laws_runs.proofs.Runs.{is_a_life, may_be_found, opens_last, opens_show}
use Rattle.laws_runs.proofs.managers.committed_work_survives_stolen_pages.Goals as goal

pub returns-clause-life : goal.returns-clause-life
returns-clause-life c g o s runs last f opening h = is_a_life g o s runs last f opening h

pub returns-clause-shown : goal.returns-clause-shown
returns-clause-shown c g o s runs last f opening h = opens_show g o s runs last f opening h

pub returns-clause-fixed : goal.returns-clause-fixed
returns-clause-fixed c g o s runs last f opening h = lists_are_fixed g o s runs last f opening h

pub returns-clause-left : goal.returns-clause-left
returns-clause-left c g o s runs last f opening h = (may_be_found g o s runs last f opening h, opens_last g o s runs last f opening h)
