use Rattle.laws_calls.proofs.WrongResumes.{changed_though_waiting, decision_refused, done_though_not_durable, done_though_waiting, nothing_though_waiting, refused_though_waiting, resumes_after_failure, resumes_none, waits_for_other, waits_though_durable, waits_though_granted}
use Rattle.laws_calls.proofs.waits.wrong_resumes_do_not_come.Goals as goal

pub returns-clause-of_none : goal.returns-clause-of_none
returns-clause-of_none d = resumes_none

pub returns-clause-after_failure : goal.returns-clause-after_failure
returns-clause-after_failure d = resumes_after_failure

pub returns-clause-nothing_though_waiting : goal.returns-clause-nothing_though_waiting
returns-clause-nothing_though_waiting d = nothing_though_waiting

pub returns-clause-done_though_not_durable : goal.returns-clause-done_though_not_durable
returns-clause-done_though_not_durable d = done_though_not_durable

pub returns-clause-waits_though_durable : goal.returns-clause-waits_though_durable
returns-clause-waits_though_durable d = waits_though_durable

pub returns-clause-decision_refused : goal.returns-clause-decision_refused
returns-clause-decision_refused d = decision_refused

pub returns-clause-waits_for_other : goal.returns-clause-waits_for_other
returns-clause-waits_for_other d = waits_for_other

pub returns-clause-done_though_waiting : goal.returns-clause-done_though_waiting
returns-clause-done_though_waiting d = done_though_waiting

pub returns-clause-refused_though_waiting : goal.returns-clause-refused_though_waiting
returns-clause-refused_though_waiting d = refused_though_waiting

pub returns-clause-changed_though_waiting : goal.returns-clause-changed_though_waiting
returns-clause-changed_though_waiting d = changed_though_waiting

pub returns-clause-waits_though_granted : goal.returns-clause-waits_though_granted
returns-clause-waits_though_granted d g o found es s session wait k on quiet h = waits_though_granted g o found es s k session wait on quiet h
