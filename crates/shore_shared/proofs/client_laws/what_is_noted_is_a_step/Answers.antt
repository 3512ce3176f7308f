use Rattle.shore_shared.proofs.NotedSteps.{call_is_made, resume_is_made}
use Rattle.shore_shared.proofs.client_laws.what_is_noted_is_a_step.Goals as goal

pub returns-clause-call : goal.returns-clause-call
returns-clause-call c = call_is_made

pub returns-clause-resume : goal.returns-clause-resume
returns-clause-resume c = resume_is_made
