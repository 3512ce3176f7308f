use Rattle.laws_runs.proofs.Opens.{fits_stream, has_numbers}
use Rattle.laws_runs.proofs.bounds.roomy_logs_fit_their_stream.Goals as goal

pub returns-clause-stream : goal.returns-clause-stream
returns-clause-stream c g stream_bytes log k = fits_stream g stream_bytes log k

pub returns-clause-number : goal.returns-clause-number
returns-clause-number c g stream_bytes log k = has_numbers g stream_bytes log k
