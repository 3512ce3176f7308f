use Rattle.laws_lives.proofs.LifeSteps.{format_may_be_found, format_opens, opens_give_back, stretches_are_a_life}
use Rattle.laws_lives.proofs.lives.lives_go_on.Goals as goal

pub returns-clause-life : goal.returns-clause-life
returns-clause-life c o s ls f opening h = (stretches_are_a_life o s ls f opening h).0

pub returns-clause-shown : goal.returns-clause-shown
returns-clause-shown c o s ls f opening h = (stretches_are_a_life o s ls f opening h).1

pub returns-clause-left : goal.returns-clause-left
returns-clause-left c o s ls f opening h = let r = stretches_are_a_life o s ls f opening h in (r.2, r.3)

pub returns-clause-first : goal.returns-clause-first
returns-clause-first c slots = (format_may_be_found, format_opens slots)

pub returns-clause-doubts : goal.returns-clause-doubts
returns-clause-doubts c o s ls h = opens_give_back o s ls h
