use Rattle.shore_world.proofs.LockLemmas.{answered_call, answered_resume}
use Rattle.shore_world.proofs.promises.locks.answered_calls_have_locks.Goals as goal

pub returns-clause-call : goal.returns-clause-call
returns-clause-call d e w new o es ws session c answer a k served one of = answered_call w o es ws k new session c answer served one a of

pub returns-clause-resume : goal.returns-clause-resume
returns-clause-resume d e w new o es ws session answer k one = answered_resume w o es ws k new session answer one
