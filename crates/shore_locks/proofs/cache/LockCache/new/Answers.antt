use Rattle.shore_locks.proofs.Cached.{says_nothing}
use Rattle.shore_locks.proofs.cache.LockCache.new.Goals as goal

pub returns : goal.returns
returns c = says_nothing _ c.nothing_of.ensures
