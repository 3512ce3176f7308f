use Rattle.laws_calls.proofs.WrongResolves.{answered_durably, commit_at_once, commits_rolled_back, elsewhere_though_free, must_abort_though_none, none_though_there, resolve_answered_other, resolves_from_another, resolves_none, resolves_unanswered}
use Rattle.laws_calls.proofs.prepares.wrong_resolves_do_not_come.Goals as goal

pub returns-clause-of_none : goal.returns-clause-of_none
returns-clause-of_none d g s new session global asked step none some h = resolves_none g s new session global asked step none some h

pub returns-clause-unanswered : goal.returns-clause-unanswered
returns-clause-unanswered d g o found es s new session t global asked step k there some h = resolves_unanswered g o found es s k session global new t asked step there some h

pub returns-clause-from_another : goal.returns-clause-from_another
returns-clause-from_another d g s new session global asked step not some h = resolves_from_another g s new session global asked step not some h

pub returns-clause-commit_at_once : goal.returns-clause-commit_at_once
returns-clause-commit_at_once d = commit_at_once

pub returns-clause-commit_of_rolled_back : goal.returns-clause-commit_of_rolled_back
returns-clause-commit_of_rolled_back d g o found es s new session global a step k rolls some h = commits_rolled_back g o found es s k session global new a step rolls some h

pub returns-clause-undurable : goal.returns-clause-undurable
returns-clause-undurable d g o found es s new session global asked answer k h = answered_durably g o found es s k session global new asked answer h

pub returns-clause-answered_other : goal.returns-clause-answered_other
returns-clause-answered_other d g s new session global asked answer other h = resolve_answered_other g s new session global asked answer other h

pub returns-clause-elsewhere_though_free : goal.returns-clause-elsewhere_though_free
returns-clause-elsewhere_though_free d g s new session global asked may h = elsewhere_though_free g s new session global asked may h

pub returns-clause-none_though_there : goal.returns-clause-none_though_there
returns-clause-none_though_there d g s new session global asked a its h = none_though_there g s new session global asked a its h

pub returns-clause-must_abort_though_none : goal.returns-clause-must_abort_though_none
returns-clause-must_abort_though_none d g s new session global asked never h = must_abort_though_none g s new session global asked never h
