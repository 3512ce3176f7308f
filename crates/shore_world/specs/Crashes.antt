-- What a loss of power leaves of the two devices of a world, and what the end of its process does.
use Rattle.std.specs.Prelude.{◌≡◌, ◌⊎◌, ℕ, List, length}
use Rattle.shore_disk.specs.Device.{DeviceHistory, IsLater, left_since, may_leave, moment, noted, wrote}
use Rattle.shore_disk.specs.declared.device.Disk.{Ghosts}
use Rattle.shore_model.specs.declared.step.Step.{Step}
use Rattle.shore_world.specs.declared.event.Event.{Event}
use Rattle.shore_world.specs.declared.world.World.{World}
use Rattle.shore_world.specs.Worlds.{HasFailedToRead, IsLike, Steps, history_in, volume_history_in}

module _ {L V : Type 0} {G : Ghosts L} {H : Ghosts V} where
  -- at some moment between two worlds power may be lost, of both devices at once, with these images left
  abbrev pub AreLeftBetween : World L V G H → World L V G H → List ℕ → List ℕ → Type 0
  AreLeftBetween old new log_image volume_image =
      left_since (history_in new) (moment (history_in old)) log_image × left_since (volume_history_in new) (moment (volume_history_in old)) volume_image

  -- A crash leaves these images: now, in the midst of a further event, or in the midst of a dump.
  abbrev pub AreLeft : World L V G H → List ℕ → List ℕ → Type 0
  AreLeft w log_image volume_image =
      (may_leave (history_in w) log_image × may_leave (volume_history_in w) volume_image)
      ⊎ ((e : Event) × (step : Step) × (later : World L V G H) × Steps w e step later × AreLeftBetween w later log_image volume_image)
      ⊎ ((later : World L V G H) × (IsLike w later ⊎ HasFailedToRead w later) × AreLeftBetween w later log_image volume_image)

-- ---- the end of a process, with no loss of power

-- Somewhere on the way from one history of a device to another its process has ended: the device stands as it did behind one of the calls; or in the midst of a
-- write, and any bytes stand in its range.
abbrev pub IsEndedBetween : DeviceHistory → DeviceHistory → DeviceHistory → Type 0
IsEndedBetween old new now =
    (IsLater old now × IsLater now new)
    ⊎ ((before : DeviceHistory) × (at : ℕ) × (bytes : List ℕ) × (torn : List ℕ) × IsLater old before × IsLater (noted before (wrote at bytes)) new
    × (length torn ≡ length bytes) × (now ≡ noted before (wrote at torn)))

module _ {L V : Type 0} {G : Ghosts L} {H : Ghosts V} where
  abbrev pub AreEndedBetween : World L V G H → World L V G H → DeviceHistory → DeviceHistory → Type 0
  AreEndedBetween old new log volume = IsEndedBetween (history_in old) (history_in new) log × IsEndedBetween (volume_history_in old) (volume_history_in new) volume

  -- the process of a world has ended, and its devices stand so: now, in the midst of a further event, or in the midst of a dump
  abbrev pub AreEnded : World L V G H → DeviceHistory → DeviceHistory → Type 0
  AreEnded w log volume =
      ((log ≡ history_in w) × (volume ≡ volume_history_in w))
      ⊎ ((e : Event) × (step : Step) × (later : World L V G H) × Steps w e step later × AreEndedBetween w later log volume)
      ⊎ ((later : World L V G H) × (IsLike w later ⊎ HasFailedToRead w later) × AreEndedBetween w later log volume)
