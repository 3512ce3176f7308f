use Rattle.laws_calls.proofs.SettledFailures.{settled_call_runs, settled_resume_runs}
use Rattle.laws_calls.proofs.SettledLeavings.{settled_refusal_leaves, settled_resume_leaves}
use Rattle.laws_calls.proofs.settled_refusals.settled_refusals_leave_all_but_locks_and_victims.Goals as goal

pub returns-clause-call : goal.returns-clause-call
returns-clause-call d g s new session c f none h = settled_refusal_leaves g s new session f c none h

pub returns-clause-resume : goal.returns-clause-resume
returns-clause-resume d = settled_resume_leaves

pub returns-clause-call_runs : goal.returns-clause-call_runs
returns-clause-call_runs d g s new session c f device damaged h = settled_call_runs g new session f device damaged s c h

pub returns-clause-resume_runs : goal.returns-clause-resume_runs
returns-clause-resume_runs d g s new session f device damaged h = settled_resume_runs g new session f device damaged s h
