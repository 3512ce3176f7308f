use Rattle.laws_runs.proofs.Undoing.{turns_are_roomy, undone_are_roomy, undone_roomy}
use Rattle.laws_runs.proofs.bounds.undo_keeps_logs_roomy.Goals as goal

pub returns-clause-log : goal.returns-clause-log
returns-clause-log c g stream_bytes t log k loser = undone_roomy g stream_bytes log k t loser

pub returns-clause-one : goal.returns-clause-one
returns-clause-one c g stream_bytes least t log k loser = undone_are_roomy g stream_bytes least log t k loser

pub returns-clause-turns : goal.returns-clause-turns
returns-clause-turns c g stream_bytes least log last turns k undone = turns_are_roomy g stream_bytes least log turns last k undone
