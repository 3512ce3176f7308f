use Rattle.std.proofs.Common.{⊎_elim, refl}
use Rattle.shore_types.specs.declared.faults.Fault.TheVariants as fault
use Rattle.shore_model.specs.declared.step.Step.TheVariants.{Done, Refused}
use Rattle.laws_calls.proofs.SettledEnds.{settled_answered, settled_call_ends, settled_call_fails, settled_call_waits, settled_number, settled_resume_ends, settled_still_waits}
use Rattle.laws_calls.proofs.settling.settled_calls_end_waits.Goals as goal

pub returns-clause-begin : goal.returns-clause-begin
returns-clause-begin d g o found es s new session c wait k h = settled_call_waits g o found es s k session c new wait h

pub returns-clause-number : goal.returns-clause-number
returns-clause-number d g o found es s new session n c k h = settled_number g o found es s k session c new n h

pub returns-clause-still : goal.returns-clause-still
returns-clause-still d g o found es s new session wait k h = settled_still_waits g o found es s k session new wait h

pub returns-clause-answered : goal.returns-clause-answered
returns-clause-answered d g o found es s new session c answer k h = settled_answered g o found es s k session c new answer h

pub returns-clause-refused : goal.returns-clause-refused
returns-clause-refused d g o found es s new session c f k idle h = (settled_call_ends g o found es s k session c new (Refused f) idle h).idle tt

pub returns-clause-resumed_answered : goal.returns-clause-resumed_answered
returns-clause-resumed_answered d g o found es s new session answer k h = (settled_resume_ends g o found es s k session new (Done answer) h).idle tt

pub returns-clause-resumed_refused : goal.returns-clause-resumed_refused
returns-clause-resumed_refused d g o found es s new session f k h = (settled_resume_ends g o found es s k session new (Refused f) h).idle tt

pub returns-clause-device : goal.returns-clause-device
returns-clause-device d g o found es s new session c k h = ⊎_elim (λ none. absurd none) (λ failed. failed) (settled_call_fails g o found es s k session c new fault.Device h)

pub returns-clause-damage : goal.returns-clause-damage
returns-clause-damage d g o found es s new session c device offset k h =
    ⊎_elim (λ none. absurd none) (λ failed. failed) (settled_call_fails g o found es s k session c new (fault.Damaged device offset) h)

pub returns-clause-resumed_device : goal.returns-clause-resumed_device
returns-clause-resumed_device d g o found es s new session k h =
    ⊎_elim (λ none. absurd none) (λ failed. failed) ((settled_resume_ends g o found es s k session new (Refused fault.Device) h).fails fault.Device refl)

pub returns-clause-resumed_damage : goal.returns-clause-resumed_damage
returns-clause-resumed_damage d g o found es s new session device offset k h =
    ⊎_elim (λ none. absurd none) (λ failed. failed) ((settled_resume_ends g o found es s k session new (Refused (fault.Damaged device offset)) h).fails (fault.Damaged device offset) refl)
