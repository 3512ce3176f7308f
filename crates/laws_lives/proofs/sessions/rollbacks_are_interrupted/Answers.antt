use Rattle.laws_lives.proofs.WorkedRun.{interrupt_abort, interrupt_way_back}
use Rattle.laws_lives.proofs.sessions.rollbacks_are_interrupted.Goals as goal

pub returns-clause-abort : goal.returns-clause-abort
returns-clause-abort c o a b x y z differ at_a at_b = interrupt_abort a b differ o x y z 0 at_a at_b

pub returns-clause-back_to : goal.returns-clause-back_to
returns-clause-back_to c o a b x y z ticket differ at_a at_b = interrupt_way_back a b differ o x y z ticket at_a at_b
