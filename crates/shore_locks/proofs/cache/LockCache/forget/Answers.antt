use Rattle.std.proofs.Common.{◌<◌, length, arith}
use Rattle.shore_locks.proofs.Cached.{forgotten_at}
use Rattle.shore_locks.proofs.cache.LockCache.forget.Goals as goal

pub returns : goal.returns
returns c =
    let within : c.index_of.result < length c.args.self.now.entries = omega (arith, c.index_of.ensures.small) in
    forgotten_at c.args.self.now.entries c.args.txn c.index_of.result c.index_of.ensures.is c.nothing_of.result within c.nothing_of.ensures
