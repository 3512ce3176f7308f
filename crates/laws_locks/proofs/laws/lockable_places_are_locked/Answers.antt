use Rattle.std.proofs.Common.{◌+◌, length}
use Rattle.laws_locks.proofs.Places.{acquired_ends}
use Rattle.laws_locks.proofs.laws.lockable_places_are_locked.Goals as goal

pub returns : goal.returns
returns c table t g mode could = acquired_ends table.requests table.limit (length table.requests + 4) t g mode could
