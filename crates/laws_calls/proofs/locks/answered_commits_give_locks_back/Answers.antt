use Rattle.laws_calls.proofs.LocksKept.{others_keep_locks}
use Rattle.laws_calls.proofs.WrongResumes.{no_lock_left, no_request_left}
use Rattle.laws_calls.proofs.locks.answered_commits_give_locks_back.Goals as goal
use Rattle.shore_model.specs.declared.calls.Call.TheVariants as call
use Rattle.shore_model.specs.declared.step.Step.TheVariants.{Done}

pub returns-clause-locks : goal.returns-clause-locks
returns-clause-locks d g o found es s new session a answer k of h = no_lock_left g o found es s new k session a of answer h

pub returns-clause-requests : goal.returns-clause-requests
returns-clause-requests d g o found es s new session a answer k of h = no_request_left g o found es s new k session a of answer h

pub returns-clause-others : goal.returns-clause-others
returns-clause-others d g o found es s new session a answer u k of h other = others_keep_locks g o found es s new k session call.Commit (Done answer) a of h u other
