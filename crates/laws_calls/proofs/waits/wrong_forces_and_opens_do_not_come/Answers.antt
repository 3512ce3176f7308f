use Rattle.laws_calls.proofs.SessionOpens.{opened_too_high, opened_too_low, opened_undurable}
use Rattle.laws_calls.proofs.WrongResumes.{force_back, force_beyond}
use Rattle.laws_calls.proofs.waits.wrong_forces_and_opens_do_not_come.Goals as goal

pub returns-clause-back : goal.returns-clause-back
returns-clause-back d = force_back

pub returns-clause-beyond : goal.returns-clause-beyond
returns-clause-beyond d = force_beyond

pub returns-clause-opened_undurable : goal.returns-clause-opened_undurable
returns-clause-opened_undurable d o found s other h = opened_undurable o found s other h

pub returns-clause-opened_too_high : goal.returns-clause-opened_too_high
returns-clause-opened_too_high d o found s n some above less h = opened_too_high o found s n some above less h

pub returns-clause-opened_too_low : goal.returns-clause-opened_too_low
returns-clause-opened_too_low d r o found s low h = opened_too_low r o found s low h
