use Rattle.std.proofs.Common.{◌<◌, ap, arith, get_or, length}
use Rattle.shore_locks.proofs.Cached.{noted_at}
use Rattle.shore_locks.proofs.cache.LockCache.note.Goals as goal

pub returns-in_default : goal.returns-in_default
returns-in_default c =
    let within : c.index_of.result < length c.args.self.now.entries = omega (arith, c.index_of.ensures.small) in
    let old = get_or c.args.self.now.entries c.index_of.result c.index-self-index_of.result in
    noted_at c.args.self.now.entries c.args.txn c.index_of.result c.index_of.ensures.is _ within c.args.granule.now c.args.mode old
    (ap (get_or c.args.self.now.entries c.index_of.result) c.index-self-index_of.is) c.note_in.ensures.noted
