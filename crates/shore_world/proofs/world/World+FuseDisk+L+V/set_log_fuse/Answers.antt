use Rattle.std.proofs.Common.{refl, ap}
use Rattle.shore_world.proofs.KeptLogs.{alike}
use Rattle.shore_world.proofs.world.World+FuseDisk+L+V.set_log_fuse.Goals as goal

pub returns-clause-like : goal.returns-clause-like
returns-clause-like g c =
    let e = c.set_fuse.ensures in
    alike c.args.self.now _ refl refl refl e.frames e.log.0 (ap (λ d. g.L.Disk.history d) e.inner)
