use Rattle.laws_calls.proofs.SessionEndings.{call_waits, its_own_number, refused_resume_waits_no_more, resumed_waits_no_more, still_waits}
use Rattle.laws_calls.proofs.SessionFailures.{call_damage_fails, call_device_fails, resume_damage_fails, resume_device_fails}
use Rattle.laws_calls.proofs.laws.waits_end_and_faults_fail.Goals as goal

pub returns-clause-begin : goal.returns-clause-begin
returns-clause-begin d g s new session c wait h = call_waits g s new session c wait h

pub returns-clause-number : goal.returns-clause-number
returns-clause-number d g s new session n c h = its_own_number g s new session n c h

pub returns-clause-still : goal.returns-clause-still
returns-clause-still d g s new session wait h = still_waits g s new session wait h

pub returns-clause-told : goal.returns-clause-told
returns-clause-told d g s new session answer h = resumed_waits_no_more g s new session answer h

pub returns-clause-refused : goal.returns-clause-refused
returns-clause-refused d g s new session f h = refused_resume_waits_no_more g s new session f h

pub returns-clause-device : goal.returns-clause-device
returns-clause-device d g o found es s new session c k h = call_device_fails g o found es s k session c new h

pub returns-clause-damage : goal.returns-clause-damage
returns-clause-damage d g o found es s new session c device offset k h = call_damage_fails g o found es s k session c device offset new h

pub returns-clause-resumed_device : goal.returns-clause-resumed_device
returns-clause-resumed_device d g o found es s new session k h = resume_device_fails g o found es s k session new h

pub returns-clause-resumed_damage : goal.returns-clause-resumed_damage
returns-clause-resumed_damage d g o found es s new session device offset k h = resume_damage_fails g o found es s k session device offset new h
