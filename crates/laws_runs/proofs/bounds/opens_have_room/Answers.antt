use Rattle.laws_runs.proofs.ManagerLogs.{opened_over}
use Rattle.laws_runs.proofs.Opens.{opens_leaving, opens_roomy, records_inside}
use Rattle.laws_runs.proofs.bounds.opens_have_room.Goals as goal

pub returns-clause-roomy : goal.returns-clause-roomy
returns-clause-roomy c g stream_bytes log s k lawful opened = opens_roomy g stream_bytes log s opened k lawful

pub returns-clause-inside : goal.returns-clause-inside
returns-clause-inside c g stream_bytes log s k opened = records_inside g log s.sessions.records k.placed opened.records

pub returns-clause-leaves : goal.returns-clause-leaves
returns-clause-leaves c g stream_bytes log s k lawful ended opened = opens_leaving g stream_bytes log s opened s.durable k lawful ended

pub returns-clause-over : goal.returns-clause-over
returns-clause-over c g stream_bytes o found ready s kept redone restart opening opens long counts next locks sized =
    opened_over g stream_bytes o found ready s kept redone restart opening opens long counts next locks sized
