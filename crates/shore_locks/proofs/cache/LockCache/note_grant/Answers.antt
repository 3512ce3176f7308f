use Rattle.std.proofs.Common.{◌≡◌, sym, subst, ◌∙◌}
use Rattle.shore_locks.specs.Cache.{IsNoted}
use Rattle.shore_locks.proofs.cache.LockCache.note_grant.Goals as goal

pub returns-in-Some : goal.returns-in-Some
returns-in-Some c mode wants =
    let same : c.in-Some.mode ≡ mode = let both = sym c.in-Some.is ∙ wants in cc in
    subst (IsNoted c.args.self.now.entries c.note.new.self.entries c.args.request.now.txn c.args.request.now.granule) same c.note.ensures
