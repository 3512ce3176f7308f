use Rattle.std.proofs.Common.{◌∙◌, ◌≡◌, ℕ, [], ◌∷◌, ap, inr, subst, sym}
use Rattle.shore_core.specs.Cores.{geometry_of}
use Rattle.shore_disk.specs.Device.{size}
use Rattle.shore_fronts.specs.Volumes.{volume_bytes}
use Rattle.shore_log.specs.Settled.{cut_of_log}
use Rattle.shore_held.specs.Worlds.{begins_with}
use Rattle.shore_shared.specs.HandedBack.{AreHandedBack}
use Rattle.shore_shared.specs.Lives.{HasEnded}
use Rattle.shore_shared.proofs.Lives.{if_devices, if_world}
use Rattle.shore_world.specs.Worlds.{cut_in, durable_in, history_in, list_in}
use Rattle.shore_shared.proofs.serving.serve.Goals as goal

pub returns-in-Ok-clause-world : goal.returns-in-Ok-clause-world
returns-in-Ok-clause-world g c =
    let e = c.in-Ok.ensures in
    if_world c.with_numbers.result.0
    (λ w ended. inr (
      ended.0 ∙ e.layout.0,
      ended.1 ∙ e.layout.1,
      ended.2,
      ended.3,
      λ opening found entries up.
          subst (λ n. ∥ HasEnded (begins_with up) n (list_in c.args.world) ended.2 ended.3 w ∥₁) e.parts.0
          (subst (λ rs. ∥ HasEnded (begins_with up) (cut_of_log c.in-Ok.opened.log) rs ended.2 ended.3 w ∥₁) e.parts.1 (ended.4 (begins_with up) (e.kept opening found entries up))),
      ended.5,
      ended.6,
    ))
    c.with_numbers.ensures.world

pub returns-in-Ok-clause-devices : goal.returns-in-Ok-clause-devices
returns-in-Ok-clause-devices g c =
    let e = c.in-Ok.ensures in
    let o = c.in-Ok.opened in
    if_devices c.with_numbers.result.0
    (λ log volume back. (
      back.0 ∙ e.layout.1,
      back.1 ∙ ap volume_bytes e.layout.0 ∙ sym c.args.world.core.heap.pool.device.as_long,
      back.2,
      back.3,
      back.4,
      back.5,
      back.6,
      λ opening found entries up.
          subst (λ x. ∥ AreHandedBack (begins_with up) back.2 back.3 x (size (history_in c.args.world)) back.4 (durable_in c.args.world ∷ back.5 ∷ []) (g.L.Disk.history log) (g.V.Disk.history volume) ∥₁) e.layout.0
          (subst (λ n. ∥ AreHandedBack (begins_with up) back.2 back.3 (geometry_of o.core) n back.4 (durable_in c.args.world ∷ back.5 ∷ []) (g.L.Disk.history log) (g.V.Disk.history volume) ∥₁) e.layout.1
          (subst (λ m. ∥ AreHandedBack (begins_with up) back.2 back.3 (geometry_of o.core) (size (g.L.Disk.history o.log.device)) back.4 (m ∷ back.5 ∷ []) (g.L.Disk.history log) (g.V.Disk.history volume) ∥₁)
          up.at.is_in.beside.parts.durable_is (back.7 (begins_with up) (e.kept opening found entries up)))),
    ))
    (c.with_numbers.ensures.devices)
