-- What comes back of threads that count a record up.
use Rattle.std.specs.Prelude.{◌≡◌, ◌⊎◌, ℕ, List, [], ◌∷◌, Result, IfOk, IsTrue}
use Rattle.shore_types.specs.declared.faults.Fault.{Fault}
use Rattle.shore_disk.specs.Device.{size}
use Rattle.shore_disk.specs.declared.device.Disk.{Ghosts}
use Rattle.shore_model.specs.declared.calls.Exchange.{Exchange}
use Rattle.shore_model.specs.declared.histories.Entry.{Entry}
use Rattle.shore_model.specs.declared.histories.Opening.{Opening}
use Rattle.shore_model.specs.declared.log_records.LogRecord.{LogRecord}
use Rattle.shore_model.specs.declared.step.Step.{Step}
use Rattle.shore_script.specs.declared.counting.Counting.{Counting}
use Rattle.shore_held.specs.Trails.{has_failure, noted_in}
use Rattle.shore_held.specs.Worlds.{begins_with}
use Rattle.shore_held.specs.declared.asked.Asked.{Asked}
use Rattle.shore_shared.specs.HandedBack.{AreHandedBack}
use Rattle.shore_shared.specs.Lives.{HasEnded}
use Rattle.shore_shared.specs.Told.{AllHold, ClaimsHold, Seen, seen_in}
use Rattle.shore_world.specs.Legs.{IsUpIn}
use Rattle.shore_world.specs.Worlds.{IsUnchanged, cut_in, durable_in, failed_in, geometry_in, history_in, list_in, volume_history_in}
use Rattle.shore_world.specs.declared.world.World.{World}
use Rattle.shore_prog.specs.Counted.{AreCounted}
use Rattle.shore_prog.specs.declared.crew.CountUp.{CountUp}

-- The claim of each thread, of its calls with their answers, and of what is so of the manager.
abbrev pub Claimed : CountUp → ℕ → Unit {0} → List Exchange → Seen → Type 0
Claimed work client done es seen = AreCounted seen.durable work.counting.record work.counting.rounds es

module _ {L V : Type 0} {G : Ghosts L} {H : Ghosts V} where
  -- The world that comes back, of the one before: it is as it was, if it was refused; or one trail has led it on, from whatever state and store of a manager it was at. If no thread was
  -- refused, there were so many of them, and the claim of each holds of what the trail has of its session. If the trail has a device's failure the world has failed.
  abbrev pub HasCounted : World L V G H → Counting → Result (Unit {0}) Fault → World L V G H → Type 0
  HasCounted before counting result after = (IsUnchanged before after × IfOk result (λ _. ⊥))
      ⊎ ((geometry_in after ≡ geometry_in before) × (size (history_in after) ≡ size (history_in before)) × (asked : List (Asked × ℕ)) × (stepped : List (Step × ℕ))
      × ((opening : Opening) (found : List LogRecord) (entries : List Entry) → (up : IsUpIn before opening found entries)
      → ∥ HasEnded (begins_with up) (cut_in before) (list_in before) asked stepped after ∥₁)
      × (IsTrue (has_failure asked) → IsTrue (failed_in after))
      × IfOk result (λ _. (done : List (List (Unit {0}))) × AllHold Claimed (noted_in asked stepped) (seen_in (durable_in after) asked) counting.threads (record { counting = counting } ∷ []) done))

  -- Devices that come back alone: they are as long as they were, and one trail has led the world on to what may be opened from them, with all that was durable before. If no thread was
  -- refused the claim of each holds of that trail, and what it knew to be durable is there.
  abbrev pub MayBeOpened : World L V G H → Counting → Result (Unit {0}) Fault → L → V → Type 0
  MayBeOpened before counting result log volume = (size (G.history log) ≡ size (history_in before)) × (size (H.history volume) ≡ size (volume_history_in before)) × (asked : List (Asked × ℕ)) × (stepped : List (Step × ℕ)) × (stable : ℕ) × (durable : ℕ)
      × IfOk result (λ _. (done : List (List (Unit {0}))) × ClaimsHold Claimed (noted_in asked stepped) (seen_in durable asked) counting.threads (record { counting = counting } ∷ []) done)
      × ((opening : Opening) (found : List LogRecord) (entries : List Entry) → (up : IsUpIn before opening found entries)
      → ∥ AreHandedBack (begins_with up) asked stepped (geometry_in before) (size (history_in before)) stable (durable_in before ∷ durable ∷ []) (G.history log) (H.history volume) ∥₁)
