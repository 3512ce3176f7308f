use Rattle.laws_runs.proofs.Worked.{inserted_too_full, no_room_in_stream, taken_stands, taken_too_full}
use Rattle.laws_runs.proofs.bounds.logs_without_room_are_not_roomy.Goals as goal

pub returns-clause-stream : goal.returns-clause-stream
returns-clause-stream c g stream_bytes t log loser less k = no_room_in_stream g stream_bytes log t loser less k

pub returns-clause-inserted : goal.returns-clause-inserted
returns-clause-inserted c g bytes k = inserted_too_full g bytes k

pub returns-clause-room_taken : goal.returns-clause-room_taken
returns-clause-room_taken c g stream_bytes old new other much k = taken_too_full g.version old new other g stream_bytes much k

pub returns-clause-standing : goal.returns-clause-standing
returns-clause-standing c v old new other short brief fits = taken_stands v old new other short brief fits
