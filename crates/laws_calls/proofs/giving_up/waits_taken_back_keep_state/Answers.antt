use Rattle.std.proofs.Common.{refl}
use Rattle.shore_types.specs.declared.faults.Fault.TheVariants as fault
use Rattle.shore_model.specs.declared.step.Step.TheVariants.{Refused}
use Rattle.laws_calls.proofs.GivingUp.{give_up_roomy}
use Rattle.laws_calls.proofs.SettledCycles.{given_up_free}
use Rattle.laws_calls.proofs.VictimSteps.{gives_up_as, gives_up_stays}
use Rattle.laws_calls.proofs.WaitsThere.{withdrawn_there}
use Rattle.laws_calls.proofs.giving_up.waits_taken_back_keep_state.Goals as goal

pub returns-clause-state : goal.returns-clause-state
returns-clause-state d = λ o found es old new session step k h. gives_up_stays o found es old k session step new h

pub returns-clause-room : goal.returns-clause-room
returns-clause-room d = λ v old new session step roomy h. give_up_roomy v old new session step h roomy

pub returns-clause-there : goal.returns-clause-there
returns-clause-there d = λ o found es old new session step k was h. withdrawn_there o found es old k was h.txn (Refused fault.Memory) new (refl, gives_up_as o found es old k session step new h)

pub returns-clause-cycles : goal.returns-clause-cycles
returns-clause-cycles d = λ o found es old new session step k none h. given_up_free old new session step k.sessions.locks.orderly none h
