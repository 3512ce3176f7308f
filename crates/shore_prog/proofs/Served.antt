-- Laws of what comes back of threads.
use Rattle.std.proofs.Common.{◌≡◌, ◌⊎◌, ℕ, List, [], ◌∷◌, Result, Ok, Err, IfOk, IsTrue, Vec, Global, inl, inr, map}
use Rattle.shore_types.specs.declared.faults.Fault.{Fault}
use Rattle.shore_disk.specs.Device.{size}
use Rattle.shore_disk.specs.declared.device.Disk.{Ghosts}
use Rattle.shore_model.specs.declared.histories.Entry.{Entry}
use Rattle.shore_model.specs.declared.histories.Opening.{Opening}
use Rattle.shore_model.specs.declared.log_records.LogRecord.{LogRecord}
use Rattle.shore_model.specs.declared.step.Step.{Step}
use Rattle.shore_script.specs.declared.counting.Counting.{Counting}
use Rattle.shore_held.specs.Trails.{has_failure, noted_in}
use Rattle.shore_held.specs.Worlds.{begins_with}
use Rattle.shore_held.specs.declared.asked.Asked.{Asked}
use Rattle.shore_shared.specs.HandedBack.{AreHandedBack}
use Rattle.shore_shared.specs.Lives.{HasEnded}
use Rattle.shore_shared.specs.Remains.{IfDevices, IfWorld}
use Rattle.shore_shared.specs.Told.{AllHold, ClaimsHold, seen_in}
use Rattle.shore_shared.specs.declared.serving.Left.{Left}
use Rattle.shore_shared.specs.declared.serving.Left.TheVariants as left
use Rattle.shore_world.specs.Legs.{IsUpIn}
use Rattle.shore_world.specs.Worlds.{IsUnchanged, cut_in, durable_in, failed_in, geometry_in, history_in, list_in, volume_history_in}
use Rattle.shore_world.specs.declared.world.World.{World}
use Rattle.shore_prog.specs.Served.{Claimed, HasCounted, MayBeOpened}

-- of a world that comes back
pub of_world : {L V : Type 0} {G : Ghosts L} {H : Ghosts V} (l : Left L V G H) (P Q : World L V G H → Type 0) → ((w : World L V G H) → P w → Q w) → IfWorld l P → IfWorld l Q
of_world (left.World w) P Q f p = f w p
of_world (left.Devices log volume refusal) P Q f p = tt

-- .. and of devices that come back alone
pub of_devices : {L V : Type 0} {G : Ghosts L} {H : Ghosts V} (l : Left L V G H) (P Q : L → V → Type 0) → ((log : L) (volume : V) → P log volume → Q log volume) → IfDevices l P → IfDevices l Q
of_devices (left.World w) P Q f p = tt
of_devices (left.Devices log volume refusal) P Q f p = f log volume p

module _ {L V : Type 0} {G : Ghosts L} {H : Ghosts V} where
  -- what a serve of one such job says of it
  abbrev pub HasServed : World L V G H → Counting → Result (Vec (Vec (Unit {0}) Global) Global) Fault → World L V G H → Type 0
  HasServed before counting result after = (IsUnchanged before after × IfOk result (λ _. ⊥))
      ⊎ ((geometry_in after ≡ geometry_in before) × (size (history_in after) ≡ size (history_in before)) × (asked : List (Asked × ℕ)) × (stepped : List (Step × ℕ))
      × ((opening : Opening) (found : List LogRecord) (entries : List Entry) → (up : IsUpIn before opening found entries)
      → ∥ HasEnded (begins_with up) (cut_in before) (list_in before) asked stepped after ∥₁)
      × (IsTrue (has_failure asked) → IsTrue (failed_in after))
      × IfOk result (λ all. AllHold Claimed (noted_in asked stepped) (seen_in (durable_in after) asked) counting.threads (record { counting = counting } ∷ []) (map (λ row. row.items) all.items)))

  pub counted_by : (before : World L V G H) (counting : Counting) (after : World L V G H) (r : Result (Vec (Vec (Unit {0}) Global) Global) Fault) (all : Vec (Vec (Unit {0}) Global) Global) → r ≡ Ok all
      → HasServed before counting r after → HasCounted before counting (Ok tt) after
  counted_by before counting after (Ok x) all e (inl p) = absurd p.1
  counted_by before counting after (Ok x) all e (inr p) = inr (p.0, p.1, p.2, p.3, p.4, p.5, (map (λ row. row.items) x.items, p.6))
  counted_by before counting after (Err f) all e s = absurd (cc e)

  -- what it says of devices that come back alone
  abbrev pub HasLeft : World L V G H → Counting → Result (Vec (Vec (Unit {0}) Global) Global) Fault → L → V → Type 0
  HasLeft before counting result log volume = (size (G.history log) ≡ size (history_in before)) × (size (H.history volume) ≡ size (volume_history_in before)) × (asked : List (Asked × ℕ)) × (stepped : List (Step × ℕ)) × (stable : ℕ) × (durable : ℕ)
      × IfOk result (λ all. ClaimsHold Claimed (noted_in asked stepped) (seen_in durable asked) counting.threads (record { counting = counting } ∷ []) (map (λ row. row.items) all.items))
      × ((opening : Opening) (found : List LogRecord) (entries : List Entry) → (up : IsUpIn before opening found entries)
      → ∥ AreHandedBack (begins_with up) asked stepped (geometry_in before) (size (history_in before)) stable (durable_in before ∷ durable ∷ []) (G.history log) (H.history volume) ∥₁)

  pub left_by : (before : World L V G H) (counting : Counting) (r : Result (Vec (Vec (Unit {0}) Global) Global) Fault) (all : Vec (Vec (Unit {0}) Global) Global) (log : L) (volume : V) → r ≡ Ok all
      → HasLeft before counting r log volume → MayBeOpened before counting (Ok tt) log volume
  left_by before counting (Ok x) all log volume e p = (p.0, p.1, p.2, p.3, p.4, p.5, (map (λ row. row.items) x.items, p.6), p.7)
  left_by before counting (Err f) all log volume e p = absurd (cc e)

  pub left_refused : (before : World L V G H) (counting : Counting) (r : Result (Vec (Vec (Unit {0}) Global) Global) Fault) (f : Fault) (log : L) (volume : V) → r ≡ Err f
      → HasLeft before counting r log volume → MayBeOpened before counting (Err f) log volume
  left_refused before counting (Ok x) f log volume e p = absurd (cc e)
  left_refused before counting (Err x) f log volume e p = (p.0, p.1, p.2, p.3, p.4, p.5, tt, p.7)
