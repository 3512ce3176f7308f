use Rattle.laws_runs.proofs.Opens.{undo_fits, undo_has_log_room}
use Rattle.laws_runs.proofs.bounds.undo_fits_pages_and_log.Goals as goal

pub returns-clause-page : goal.returns-clause-page
returns-clause-page c g stream_bytes t log k loser = undo_fits g stream_bytes log t k loser

pub returns-clause-stream : goal.returns-clause-stream
returns-clause-stream c g stream_bytes t log k loser = (undo_has_log_room g stream_bytes log t k loser).0

pub returns-clause-number : goal.returns-clause-number
returns-clause-number c g stream_bytes t log k loser = (undo_has_log_room g stream_bytes log t k loser).1
