use Rattle.laws_locks.proofs.Waiting.{others_stay_quiet, released_stay_quiet}
use Rattle.laws_locks.proofs.laws.others_do_not_begin_to_wait.Goals as goal

pub returns-clause-acquire : goal.returns-clause-acquire
returns-clause-acquire c rs new t u others other quiet = others_stay_quiet rs new t u others other quiet

pub returns-clause-release : goal.returns-clause-release
returns-clause-release c rs t u orderly quiet = released_stay_quiet rs t u orderly quiet
