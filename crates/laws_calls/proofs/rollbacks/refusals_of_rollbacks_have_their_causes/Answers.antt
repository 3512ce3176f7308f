use Rattle.laws_calls.proofs.WrongRollbacks.{must_abort_though_same_way, must_abort_though_whole, none_though_there, too_many_below}
use Rattle.laws_calls.proofs.rollbacks.refusals_of_rollbacks_have_their_causes.Goals as goal

pub returns-clause-must_abort_though_whole : goal.returns-clause-must_abort_though_whole
returns-clause-must_abort_though_whole d = must_abort_though_whole

pub returns-clause-must_abort_though_same_way : goal.returns-clause-must_abort_though_same_way
returns-clause-must_abort_though_same_way d = must_abort_though_same_way

pub returns-clause-too_many_below : goal.returns-clause-too_many_below
returns-clause-too_many_below d = too_many_below

pub returns-clause-none_though_there : goal.returns-clause-none_though_there
returns-clause-none_though_there d = none_though_there
