use Rattle.std.proofs.Common.{inl, inr, refl}
use Rattle.laws_calls.proofs.OneSessionStep.{one_call, one_resume}
use Rattle.laws_calls.proofs.progress.calls_come_to_one_thing.Goals as goal

pub returns-clause-call_step : goal.returns-clause-call_step
returns-clause-call_step d g o found es s new later session c step other k h j of by = (one_call g o found es s k session c step other new later (inl (of, by), inl of) h j).0

pub returns-clause-call_state : goal.returns-clause-call_state
returns-clause-call_state d g o found es s new later session c step k some plain h j = (one_call g o found es s k session c step step new later (inr (refl, some), plain) h j).1

pub returns-clause-resume_step : goal.returns-clause-resume_step
returns-clause-resume_step d g o found es s new later session step other k h j of by = (one_resume g o found es s k session step other new later (inl (of, by)) h j).0

pub returns-clause-resume_state : goal.returns-clause-resume_state
returns-clause-resume_state d g o found es s new later session step k some h j = (one_resume g o found es s k session step step new later (inr (refl, some)) h j).1
