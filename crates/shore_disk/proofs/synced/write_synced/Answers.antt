use Rattle.std.proofs.Common.{length, sym, subst, IsTrue}
use Rattle.shore_disk.specs.Device.{TornFrom}
use Rattle.shore_disk.proofs.Moments.{joined, write_leaves, sync_leaves, at_end}
use Rattle.shore_disk.proofs.synced.write_synced.Goals as goal

pub returns-in_err-write_at-clause-any_moment : goal.returns-in_err-write_at-clause-any_moment
returns-in_err-write_at-clause-any_moment g c honest =
    let P = TornFrom c.args.at (length c.args.bytes.now) (g.D.Disk.history c.args.disk.now) in
    write_leaves c.args.at c.args.bytes.now c.write_at.result _ _ P (c.write_at.ensures.written honest) (λ i d left torn. (d, left, torn))

pub returns-clause-any_moment : goal.returns-clause-any_moment
returns-clause-any_moment g c honest =
    let P = TornFrom c.args.at (length c.args.bytes.now) (g.D.Disk.history c.args.disk.now) in
    let write = write_leaves c.args.at c.args.bytes.now c.write_at.result _ _ P (c.write_at.ensures.written honest) (λ i d left torn. (d, left, torn)) in
    let still = subst IsTrue (sym c.write_at.ensures.honest) honest in
    let sync = sync_leaves c.sync.result _ _ P (c.sync.ensures.synced still) (at_end _ _ P write) in
    joined _ _ _ P write sync
