use Rattle.laws_calls.proofs.GivingUp.{given_up_names, may_give_up, nothing_waits}
use Rattle.laws_calls.proofs.giving_up.waits_can_be_taken_back.Goals as goal

pub returns-clause-named : goal.returns-clause-named
returns-clause-named d = λ old new session step h. given_up_names old new session step h

pub returns-clause-can : goal.returns-clause-can
returns-clause-can d = λ o found es s session w at a k running m same waits its is. may_give_up o found es s k session a its running w at m same waits is

pub returns-clause-nothing : goal.returns-clause-nothing
returns-clause-nothing d = λ o found es s new session a k running its h. nothing_waits o found es s k session new a running its h
