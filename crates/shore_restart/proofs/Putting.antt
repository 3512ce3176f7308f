-- A change on a page in a frame, whose slot then keeps what its record takes: a record done on its page.
use Rattle.std.proofs.Common.{◌≡◌, ◌≤◌, ◌<◌, ◌+◌, ℕ, List, Option, Some, None, inl, inr, refl, sym, ap, subst, ◌∙◌, length, option_map, arith}
use Rattle.std.specs.Prelude.{IsSomeAnd, IsTrue, is_some, slice_get}
use Rattle.std.proofs.lemmas.Bool.{cases_eq}
use Rattle.std.proofs.lemmas.List.{length-map}
use Rattle.shore_types.specs.Images.{Image, image_len}
use Rattle.shore_types.specs.Layout.{HasPage}
use Rattle.shore_types.specs.declared.ids.PageId.{PageId}
use Rattle.shore_types.specs.declared.ids.Rid.{Rid}
use Rattle.shore_types.specs.declared.layout.Geometry.{Geometry}
use Rattle.shore_disk.specs.declared.device.Disk.{Ghosts}
use Rattle.shore_dwrite.specs.declared.device.PageDev.{PageDev}
use Rattle.shore_dwrite.specs.Settled as settled_device
use Rattle.shore_dwrite.specs.Volumes.{page_number}
use Rattle.shore_model.specs.declared.log_records.LogRecord.{LogRecord}
use Rattle.shore_model.specs.Logs.{image_in}
use Rattle.shore_page.specs.Room.{Fits, lowered}
use Rattle.shore_page.specs.Slots.{Slot, with_image}
use Rattle.shore_pool.specs.declared.frame.Frame.{Frame}
use Rattle.shore_pool.specs.Changes.{changed, reclaimed}
use Rattle.shore_pool.specs.Pages.{SamePages}
use Rattle.shore_heap.specs.declared.heap.Heap.{Heap}
use Rattle.shore_heap.specs.Contents.{unclaimed}
use Rattle.shore_heap.specs.Heaps.{Shows, device_of, frame_at, frame_of, geometry_of}
use Rattle.laws_lives.specs.Recovery.{AppendRecord, LeadsTo, RecoveryEvent, RecoveryState, RedoRecord, after_append, after_redo}
use Rattle.laws_lives.proofs.Invariant.{event_kept}
use Rattle.laws_checkpoints.specs.RecoveryNumbers.{RecoveryNumbers, recovery_after}
use Rattle.laws_heaps.specs.HeapRecoveries.{HasRecoveries}
use Rattle.laws_heaps.specs.LoggedHeaps.{IsMade, IsReleased, IsStoreOf}
use Rattle.laws_heaps.proofs.DirtyTables.{numbers_unmoved}
use Rattle.laws_heaps.proofs.Noted.{appended_noted, redone_noted}
use Rattle.laws_heaps.proofs.Made.{appended_is, redone_is}
use Rattle.laws_heaps.proofs.SlotImages.{count-with_image}
use Rattle.laws_heaps.proofs.StaySettled.{settled_after}
use Rattle.laws_heaps.proofs.Stores.{store_unwritten}
use Rattle.shore_restart.specs.Standing.{Stands}

pub some_held : {A : Type 0} (o : Option A) (P : A → Type 0) → IsSomeAnd o P → IsTrue (is_some o)
some_held None P none = absurd none
some_held (Some a) P is = refl

module _ {V : Type 0} {H : Ghosts V} where
  pub same_geometry : (old new : Heap V H) → device_of new ≡ device_of old → geometry_of new ≡ geometry_of old
  same_geometry old new device = ap (λ (d : PageDev V H). settled_device.geometry_of d) device

  -- the slot of the change is there
  pub slot_there : (old mid : Heap V H) (number : ℕ) (id : Rid) (image : Image) (bytes : ℕ) → device_of mid ≡ device_of old → IsSomeAnd (frame_of old id.page) (λ f. Fits (geometry_of old).version f.page.slots id.slot bytes)
      → frame_at mid (page_number (geometry_of old) id.page) ≡ option_map (changed number id.slot image) (frame_of old id.page) → IsSomeAnd (frame_of mid id.page) (λ f. id.slot < length f.page.slots)
  slot_there old mid number id image bytes device fits made =
      let mid_is : frame_of mid id.page ≡ option_map (changed number id.slot image) (frame_of old id.page) = ap (λ (g : Geometry). frame_at mid (page_number g id.page)) (same_geometry old mid device) ∙ made in
      subst (λ (o : Option Frame). IsSomeAnd o (λ f. id.slot < length f.page.slots)) (sym mid_is) (there (frame_of old id.page) fits)
    where
      there : (o : Option Frame) → IsSomeAnd o (λ f. Fits (geometry_of old).version f.page.slots id.slot bytes) → IsSomeAnd (option_map (changed number id.slot image) o) (λ f. id.slot < length f.page.slots)
      there None none = absurd none
      there (Some f) is =
          let slots = f.page.slots in
          omega (arith, count-with_image slots id.slot image, length-map (with_image slots id.slot image) (λ (s : Slot). s.image))

  module _ (front : List ℕ) (disk : ℕ → List ℕ) (old mid new : Heap V H) (s : RecoveryState) (r : LogRecord) (id : Rid) (number : ℕ) (image : Image) (stands : Stands front disk old s) (there : HasPage (geometry_of old) id.page)
      (fits : IsSomeAnd (frame_of old id.page) (λ f. Fits (geometry_of old).version f.page.slots id.slot (image_len image))) (made : IsMade old mid number id image) (device : device_of mid ≡ device_of old) (released : IsReleased mid new id)
      (again : device_of new ≡ device_of mid) (same : (disk : ℕ → List ℕ) → SamePages (geometry_of mid).version (frame_at mid) disk (frame_at new) disk) (shown : (slots : PageId → List Slot) × Shows unclaimed new front disk slots) where
    stands_after : (e : RecoveryEvent) (later : RecoveryState) → LeadsTo s e later → IsStoreOf mid disk later → Stands front disk new later
    stands_after e later leads store = record {
      store = store_unwritten mid new disk later store (same disk) (same_geometry mid new again);
      settled = settled_after old mid new number id image stands.settled made (same_geometry old mid device) released;
      recoverable = event_kept s e later stands.recoverable leads;
      slots = shown.0;
      shows = shown.1;
    }

    held : IsTrue (is_some (frame_of old id.page))
    held = some_held (frame_of old id.page) (λ f. Fits (geometry_of old).version f.page.slots id.slot (image_len image)) fits

    -- what is released of a slot leaves the frames' numbers
    numbers_released : (recovery : RecoveryNumbers) → HasRecoveries mid recovery → HasRecoveries new recovery
    numbers_released recovery has =
        numbers_unmoved mid new recovery has (λ k. released_number k) (same_geometry mid new again)
      where
        lowered_number : (o : Option Frame) → option_map (λ f. f.recovery) (option_map (reclaimed (lowered 0) id.slot) o) ≡ option_map (λ f. f.recovery) o
        lowered_number None = refl
        lowered_number (Some f) = refl

        released_number : (k : ℕ) → option_map (λ f. f.recovery) (frame_at new k) ≡ option_map (λ f. f.recovery) (frame_at mid k)
        released_number k = elim (cases_eq k (page_number (geometry_of mid) id.page)) [
          | inl here ↦
              ap (λ (n : ℕ). option_map (λ f. f.recovery) (frame_at new n)) here ∙ ap (option_map (λ f. f.recovery)) released.0 ∙ lowered_number (frame_of mid id.page)
              ∙ ap (λ (n : ℕ). option_map (λ f. f.recovery) (frame_at mid n)) (sym here)
          | inr apart ↦ ap (option_map (λ f. f.recovery)) (released.1 k apart)
        ]

    pub put_redone : slice_get s.log s.redone ≡ Some r → image_in r.payload ≡ Some (id, image) → number ≡ s.redone + 1 → (s.in_place id.page).number ≤ s.redone
        → LeadsTo s RedoRecord (after_redo s r) × Stands front disk new (after_redo s r) × ((recovery : RecoveryNumbers) → HasRecoveries old recovery → HasRecoveries new (recovery_after s RedoRecord recovery))
    put_redone next says is due =
        let its = subst (λ (n : ℕ). IsMade old mid n id image) is made in
        let m = redone_is old mid disk s r id image stands.store next says there held due its (same_geometry old mid device) in (
          m.0,
          stands_after RedoRecord (after_redo s r) m.0 m.1,
          λ recovery has. numbers_released (recovery_after s RedoRecord recovery) (redone_noted old mid s recovery r id image has next says there held due its (same_geometry old mid device)),
        )

    pub put_appended : s.redone ≡ length s.log → image_in r.payload ≡ Some (id, image) → number ≡ length s.log + 1
        → LeadsTo s (AppendRecord r) (after_append s r) × Stands front disk new (after_append s r)
        × ((recovery : RecoveryNumbers) → HasRecoveries old recovery → HasRecoveries new (recovery_after s (AppendRecord r) recovery))
    put_appended all says is =
        let its = subst (λ (n : ℕ). IsMade old mid n id image) is made in
        let m = appended_is old mid disk s r id image stands.store stands.recoverable all says there held its (same_geometry old mid device) in (
          m.0,
          stands_after (AppendRecord r) (after_append s r) m.0 m.1,
          λ recovery has. numbers_released (recovery_after s (AppendRecord r) recovery) (appended_noted old mid s recovery r id image has stands.recoverable all says there held its (same_geometry old mid device)),
        )
