-- What a force and a flush have done.
use Rattle.std.specs.Prelude.{◌≡◌}
use Rattle.shore_disk.specs.declared.device.Disk.{Ghosts}
use Rattle.shore_model.specs.declared.step.Step.TheVariants.{Nothing}
use Rattle.shore_world.specs.Worlds.{Steps, durable_in, last_in}
use Rattle.shore_world.specs.declared.event.Event.TheVariants as event
use Rattle.shore_world.specs.declared.world.World.{World}

module _ {L V : Type 0} {G : Ghosts L} {H : Ghosts V} where
  -- the last step of the flush came to nothing
  abbrev pub EndsFlush : World L V G H → Type 0
  EndsFlush new = (before : World L V G H) × Steps before event.FlushStep Nothing new

  -- the last two steps of the force came to nothing: nothing was to be staged, and behind that no gate to be opened
  abbrev pub EndsForce : World L V G H → Type 0
  EndsForce new = (before : World L V G H) × (between : World L V G H) × Steps before event.ForceStage Nothing between × Steps between event.ForceOpen Nothing new

  -- each record of the log is durable
  abbrev pub AreAllDurable : World L V G H → Type 0
  AreAllDurable w = durable_in w ≡ last_in w
