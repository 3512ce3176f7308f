use Rattle.std.proofs.Common.{◌++◌, refl, sym, ◌∙◌, ap, take}
use Rattle.shore_disk.specs.Device.{size}
use Rattle.shore_log.specs.Settled.{cut_of_log, records_of_log}
use Rattle.shore_world.proofs.FuseLemmas.{told_alone}
use Rattle.shore_world.proofs.WorldLemmas.{kept_as_before, same_list}
use Rattle.shore_world.proofs.world.World+L+FuseDisk+V.set_volume_fuse.Goals as goal

pub returns-clause-like : goal.returns-clause-like
returns-clause-like g c =
    let old = c.args.self.now in
    let e = c.set_volume_fuse.ensures in
    let list = same_list _ _ old.core c.set_volume_fuse.new.self refl e.tail in
    told_alone old _ refl e.history (record { geometry = e.geometry; honest = ap (λ d. g.V.Disk.is_honest d) e.inner; size = ap size e.history })
    (λ front disk s is. e.state front disk (take (cut_of_log old.log) s.log ++ records_of_log old.log) s is) e.over list e.durable e.running refl refl refl refl e.faults
    (λ front k. kept_as_before old _ refl refl list e.durable (λ run. sym e.running ∙ run) front k)
