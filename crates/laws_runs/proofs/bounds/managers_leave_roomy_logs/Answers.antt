use Rattle.laws_runs.proofs.ManagerLogs.{last_has_room, moves_leaving, restart_roomy, runs_roomy}
use Rattle.laws_runs.proofs.bounds.managers_leave_roomy_logs.Goals as goal

pub returns-clause-restart : goal.returns-clause-restart
returns-clause-restart c g stream_bytes s ready events k restarts = restart_roomy g stream_bytes s events ready k restarts

pub returns-clause-moves : goal.returns-clause-moves
returns-clause-moves c g stream_bytes o found es m last events made k asks roomy h moves = moves_leaving g stream_bytes o found es m events last made k asks roomy h moves

pub returns-clause-last : goal.returns-clause-last
returns-clause-last c g stream_bytes o s r found opening k run opens = last_has_room g stream_bytes o s r found opening run k opens

pub returns-clause-runs : goal.returns-clause-runs
returns-clause-runs c g stream_bytes o s last runs found opening k are opens = runs_roomy g stream_bytes o s runs last found opening k are opens
