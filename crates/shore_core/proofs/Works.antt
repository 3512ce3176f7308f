-- Work on the store that lies under a core: it is work on log and pages, and leaves the anchor and the checkpoint under way.
use Rattle.std.proofs.Common.{◌≡◌, ◌+◌, ◌++◌, ◌∷◌, ◌∙◌, ℕ, List, [], None, Some, is_some, length, map, refl, ap, subst}
use Rattle.std.specs.Prelude.{IsTrue}
use Rattle.std.specs.List.{AllByRecursion}
use Rattle.shore_disk.specs.declared.device.Disk.{Ghosts}
use Rattle.shore_types.specs.Images.{Image}
use Rattle.shore_types.specs.Layout.{HasPage}
use Rattle.shore_types.specs.declared.ids.Rid.{Rid}
use Rattle.shore_model.specs.declared.log_records.LogRecord.{LogRecord}
use Rattle.shore_model.specs.Logs.{image_in}
use Rattle.shore_heap.specs.declared.heap.Heap.{Heap}
use Rattle.shore_heap.specs.Heaps.{frame_of, geometry_of}
use Rattle.laws_heaps.specs.LoggedHeaps.{IsMade}
use Rattle.laws_heaps.proofs.Made.{appended_is, appended_without}
use Rattle.laws_heaps.proofs.Noted.{appended_noted, without_noted}
use Rattle.laws_lives.specs.ManagerSteps.{IsWork, WorksTo}
use Rattle.laws_lives.specs.Recovery.{IsRecoverable, RecoveryEvent, RecoveryState}
use Rattle.laws_checkpoints.specs.CheckpointedStores.{CheckpointedLeadTo, CheckpointedStore, StoreEvent}
use Rattle.laws_checkpoints.specs.RecoveryNumbers.{recovery_after}
use Rattle.laws_runs.specs.CheckpointSteps.{StoreWorks}
use Rattle.shore_core.specs.Stores.{IsHeapOf, WorksOn, append_to}

-- the store behind an event that leads to this one
abbrev tended : CheckpointedStore → RecoveryEvent → RecoveryState → CheckpointedStore
tended c e next = record c { store = next; recovery = recovery_after c.store e c.recovery }

pub works_to : (c : CheckpointedStore) (works : List RecoveryEvent) (last : CheckpointedStore) → WorksOn c works last → WorksTo c.store works last.store
works_to c [] last is = ap (λ (x : CheckpointedStore). x.store) is
works_to c (e ∷ works) last is = (is.0, is.1, is.2, works_to (tended c e is.1) works last is.3)

pub stores_to : (c : CheckpointedStore) (works : List RecoveryEvent) (last : CheckpointedStore) → WorksOn c works last → StoreWorks c works last
stores_to c [] last is = is
stores_to c (e ∷ works) last is = (is.1, is.2, stores_to (tended c e is.1) works last is.3)

pub works_then : (s mid last : CheckpointedStore) (one two : List RecoveryEvent) → WorksOn s one mid → WorksOn mid two last → WorksOn s (one ++ two) last
works_then s mid last [] two first second = subst (λ x. WorksOn x two last) first second
works_then s mid last (e ∷ one) two first second = (first.0, first.1, first.2, works_then (tended s e first.1) mid last one two first.3 second)

-- the checkpoint under way and the anchor are as they were
pub works_leave : (c : CheckpointedStore) (works : List RecoveryEvent) (last : CheckpointedStore) → WorksOn c works last → (last.stage ≡ c.stage) × (last.anchored ≡ c.anchored)
works_leave c [] last is = (ap (λ (x : CheckpointedStore). x.stage) is, ap (λ (x : CheckpointedStore). x.anchored) is)
works_leave c (e ∷ works) last is = works_leave (tended c e is.1) works last is.3

all_works : (s : RecoveryState) (works : List RecoveryEvent) (last : RecoveryState) → WorksTo s works last → AllByRecursion IsWork works
all_works s [] last is = tt
all_works s (e ∷ works) last is = (is.0, all_works is.1 works last is.3)

on_each : (c : CheckpointedStore) (works : List RecoveryEvent) (last : CheckpointedStore) → AllByRecursion IsWork works → CheckpointedLeadTo c (map StoreEvent works) last → WorksOn c works last
on_each c [] last all led = led
on_each c (e ∷ works) last all led =
    let leads = led.1 in
    (all.0, leads.1, leads.2, on_each (tended c e leads.1) works last all.1 (subst (λ (x : CheckpointedStore). CheckpointedLeadTo x (map StoreEvent works) last) leads.3 led.2))

-- events of the store that are work
pub works_led : (c : CheckpointedStore) (works : List RecoveryEvent) (last : CheckpointedStore) → CheckpointedLeadTo c (map StoreEvent works) last → WorksTo c.store works last.store → WorksOn c works last
works_led c works last led worked = on_each c works last (all_works c.store works last.store worked) led

-- ---- a record is appended

module _ {V : Type 0} {H : Ghosts V} where
  -- of no page
  pub noted_without : (heap : Heap V H) (disk : ℕ → List ℕ) (c : CheckpointedStore) (r : LogRecord) → IsHeapOf heap disk c → IsRecoverable c.store → c.store.redone ≡ length c.store.log → image_in r.payload ≡ None
      → IsHeapOf heap disk (append_to c r)
  noted_without heap disk c r over kept all none = record {
    pages = (appended_without heap disk c.store r over.pages kept all none).1;
    recoveries = (without_noted heap c.store c.recovery r over.recoveries none).0;
  }

  -- and made on its page
  pub noted_image : (old new : Heap V H) (disk : ℕ → List ℕ) (c : CheckpointedStore) (r : LogRecord) (id : Rid) (image : Image) → IsHeapOf old disk c → IsRecoverable c.store → c.store.redone ≡ length c.store.log
      → image_in r.payload ≡ Some (id, image) → HasPage (geometry_of old) id.page → IsTrue (is_some (frame_of old id.page)) → IsMade old new (length c.store.log + 1) id image → geometry_of new ≡ geometry_of old
      → IsHeapOf new disk (append_to c r)
  noted_image old new disk c r id image over kept all says there held made geometry = record {
    pages = (appended_is old new disk c.store r id image over.pages kept all says there held made geometry).1;
    recoveries = appended_noted old new c.store c.recovery r id image over.recoveries kept all says there held made geometry;
  }
