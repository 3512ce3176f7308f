use Rattle.laws_runs.proofs.SoundStores.{found_may_be_found, found_sound, left_is_found, left_may_be_opened, may_crash, restart_sound}
use Rattle.laws_runs.proofs.stays.crashes_leave_what_may_be_opened.Goals as goal

pub returns-clause-begins : goal.returns-clause-begins
returns-clause-begins c g stream_bytes rs pages o = (found_sound g stream_bytes rs pages o, found_may_be_found g stream_bytes rs pages o)

pub returns-clause-restarts : goal.returns-clause-restarts
returns-clause-restarts c g stream_bytes s last works k h = restart_sound g stream_bytes s works last k h

pub returns-clause-left : goal.returns-clause-left
returns-clause-left c g stream_bytes s n pages k lost = left_may_be_opened g stream_bytes s k n pages lost

pub returns-clause-crash : goal.returns-clause-crash
returns-clause-crash c g stream_bytes s n pages k lost = (may_crash g stream_bytes s k n pages lost, left_is_found g stream_bytes s k n pages lost)
