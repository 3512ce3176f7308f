use Rattle.std.proofs.Common.{◌≡◌, ap, sym, subst, ◌∙◌}
use Rattle.shore_core.specs.Cores.{geometry_of}
use Rattle.shore_disk.specs.Device.{size}
use Rattle.shore_pool.specs.Pools as pools
use Rattle.shore_held.specs.Worlds.{begins_with}
use Rattle.shore_shared.specs.Lives.{AreKept}
use Rattle.shore_shared.proofs.Lives.{are_kept}
use Rattle.shore_shared.proofs.opening.Opened.of.Goals as goal

pub returns-clause-kept : goal.returns-clause-kept
returns-clause-kept g c opening found entries up =
    let w = c.hand_over.new.self in
    let e = c.in_default.ensures in
    let p = c.into_parts-core.ensures in
    let r = c.into_parts-core.result in
    subst (λ x. AreKept (begins_with up) x r.1 r.2) (sym p.0) (subst (λ x. AreKept (begins_with up) w.core x r.2) (sym p.1) (subst (λ x. AreKept (begins_with up) w.core w.log x) (sym p.2)
    (are_kept c.args.world w e.unchanged e.emptied e.running.0 opening found entries up)))

pub returns-clause-layout : goal.returns-clause-layout
returns-clause-layout g c =
    let e = c.in_default.ensures in
    let p = c.into_parts-core.ensures in
    (ap geometry_of p.0 ∙ ap pools.geometry_of e.unchanged.pool, ap (λ log. size (g.L.Disk.history log.device)) p.1 ∙ ap (λ d. size (g.L.Disk.history d)) e.unchanged.device)
