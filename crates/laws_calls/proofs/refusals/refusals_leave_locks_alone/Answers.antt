use Rattle.laws_calls.proofs.AfterRefusals.{absence_locked, damage_fails, device_fails, log_full_locked, refusal_leaves}
use Rattle.laws_calls.proofs.EndedWaits.{refusal_runs}
use Rattle.laws_calls.proofs.refusals.refusals_leave_locks_alone.Goals as goal

pub returns-clause-locks_alone : goal.returns-clause-locks_alone
returns-clause-locks_alone d = refusal_leaves

pub returns-clause-device : goal.returns-clause-device
returns-clause-device d = device_fails

pub returns-clause-damage : goal.returns-clause-damage
returns-clause-damage d = damage_fails

pub returns-clause-no_other : goal.returns-clause-no_other
returns-clause-no_other d = refusal_runs

pub returns-clause-log_full : goal.returns-clause-log_full
returns-clause-log_full d g o found es s new session store bytes a k of h = log_full_locked g o found es s new k session store bytes a of h

pub returns-clause-absence : goal.returns-clause-absence
returns-clause-absence d g o found es s new session c id lock a k named within asks of h = absence_locked g o found es s new k session c id lock a named within asks of h
