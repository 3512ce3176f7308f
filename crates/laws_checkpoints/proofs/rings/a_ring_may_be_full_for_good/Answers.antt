use Rattle.std.proofs.Common.{arith}
use Rattle.laws_checkpoints.proofs.RingRooms.{full_by_calls, full_by_crash, interrupted}
use Rattle.laws_checkpoints.proofs.rings.a_ring_may_be_full_for_good.Goals as goal

pub returns-clause-has_room : goal.returns-clause-has_room
returns-clause-has_room c = record { fits = omega arith; numbers = omega arith; short = omega arith; most = omega arith }

pub returns-clause-by_calls : goal.returns-clause-by_calls
returns-clause-by_calls c = full_by_calls

pub returns-clause-by_a_crash : goal.returns-clause-by_a_crash
returns-clause-by_a_crash c = full_by_crash

pub returns-clause-by_crashes : goal.returns-clause-by_crashes
returns-clause-by_crashes c kept last_lsn stream_bytes n txns pages freed full many admits = interrupted kept last_lsn stream_bytes n txns pages freed (omega (arith, full)) many admits
