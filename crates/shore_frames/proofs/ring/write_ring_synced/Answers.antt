use Rattle.std.proofs.Common.{length, sym, subst, IsTrue}
use Rattle.shore_disk.proofs.Moments.{at_end, joined, sync_leaves}
use Rattle.shore_frames.specs.Rings.{TornRing}
use Rattle.shore_frames.proofs.ring.write_ring_synced.Goals as goal

pub returns-clause-any_moment : goal.returns-clause-any_moment
returns-clause-any_moment g c honest image stands =
    let P = TornRing c.args.place (length c.args.bytes.now) image in
    let write = c.write_ring.ensures.any_moment honest image stands in
    let still = subst IsTrue (sym c.write_ring.ensures.honest) honest in
    joined _ _ _ P write (sync_leaves c.sync.result _ _ P (c.sync.ensures.synced still) (at_end _ _ P write))
