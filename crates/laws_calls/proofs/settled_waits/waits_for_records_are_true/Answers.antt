use Rattle.laws_calls.proofs.SettledThere.{settled_record_waits, settled_resume_waits_on}
use Rattle.laws_calls.proofs.settled_waits.waits_for_records_are_true.Goals as goal

pub returns-clause-call : goal.returns-clause-call
returns-clause-call d g o found es s new session n c k h = settled_record_waits g o found es s k session n new c h

pub returns-clause-resume : goal.returns-clause-resume
returns-clause-resume d g o found es s new session n k h =
    let t = settled_resume_waits_on g o found es s k session n new h in (t.waited, t.there, t.of, t.lock, t.commit, t.above, t.is)
