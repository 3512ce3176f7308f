use Rattle.std.proofs.Common.{◌≡◌, [], ◌∷◌, sym, ap, subst, ◌∙◌}
use Rattle.shore_core.specs.Cores.{geometry_of, waiting_of}
use Rattle.shore_disk.specs.Device.{size}
use Rattle.shore_fronts.specs.Volumes.{volume_bytes}
use Rattle.shore_log.specs.Settled.{cut_of_log, records_of_log}
use Rattle.shore_shared.specs.HandedBack.{AreHandedBack}
use Rattle.shore_shared.specs.Lives.{AreKept, HasEnded}
use Rattle.shore_shared.proofs.Lives.{if_devices, if_world, untouched}
use Rattle.shore_world.specs.Worlds.{geometry_in, history_in}
use Rattle.shore_shared.proofs.serving.with_numbers.Goals as goal

pub returns-in-Ok-clause-world : goal.returns-in-Ok-clause-world
returns-in-Ok-clause-world g c =
    let same = c.in-Ok.ensures.ok in
    if_world c.with_names.result.0
    (λ w ended. (
      subst (λ o. geometry_in w ≡ geometry_of o.core) same ended.0,
      subst (λ o. size (history_in w) ≡ size (g.L.Disk.history o.log.device)) same ended.1,
      ended.2,
      ended.3,
      λ start kept. subst (λ o. ∥ HasEnded start (cut_of_log o.log) (records_of_log o.log) ended.2 ended.3 w ∥₁) same
          (ended.4 start (subst (λ o. AreKept start o.core o.log o.stage) (sym same) kept)),
      ended.5,
      ended.6,
    ))
    c.with_names.ensures.world

pub returns-in-Ok-clause-devices : goal.returns-in-Ok-clause-devices
returns-in-Ok-clause-devices g c =
    let same = c.in-Ok.ensures.ok in
    if_devices c.with_names.result.0
    (λ log volume back. (
      back.0 ∙ ap (λ o. size (g.L.Disk.history o.log.device)) same,
      back.1 ∙ ap (λ o. volume_bytes (geometry_of o.core)) same,
      back.2,
      back.3,
      back.4,
      back.5,
      back.6,
      λ start kept.
          subst (λ o. ∥ AreHandedBack start back.2 back.3 (geometry_of o.core) (size (g.L.Disk.history o.log.device)) back.4 (start.first.state.durable ∷ back.5 ∷ []) (g.L.Disk.history log) (g.V.Disk.history volume) ∥₁) same
          (back.7 start (subst (λ o. AreKept start o.core o.log o.stage) (sym same) kept)),
    ))
    (c.with_names.ensures.devices)

pub returns-in-Err-clause-world : goal.returns-in-Err-clause-world
returns-in-Err-clause-world g c =
    let w = c.into_world.result in
    let o = c.args.opened in
    let f = c.into_world.ensures in
    let same = c.in-Err.ensures.err.1 in
    let core = f.0 ∙ ap (λ x. x.core) same in
    let log = f.1 ∙ ap (λ x. x.log) same in
    let stage = f.2 ∙ ap (λ x. x.stage) same in (
      ap geometry_of core,
      ap (λ x. size (g.L.Disk.history x.device)) log,
      [],
      [],
      λ start kept. ∣ subst (λ l. HasEnded start (cut_of_log l) (records_of_log l) [] [] w) log
          (untouched w (subst (λ x. AreKept start x w.log w.stage) (sym core) (subst (λ x. AreKept start o.core x w.stage) (sym log) (subst (λ x. AreKept start o.core o.log x) (sym stage) kept))) (ap waiting_of core ∙ o.emptied)) ∣₁,
      λ told. absurd (cc told),
      tt,
    )
