-- A heap that keeps what those in doubt may put back: without that its pages are as the log leaves them, and it shows the state that opens over it.
use Rattle.std.proofs.Common.{◌≡◌, ℕ, List, Option, None, Some, refl, sym, ap, subst, ◌∙◌, length, map}
use Rattle.std.specs.FinMap.{get}
use Rattle.shore_disk.specs.declared.device.Disk.{Ghosts}
use Rattle.shore_types.specs.Images.{Image}
use Rattle.shore_types.specs.Layout.{HasPage}
use Rattle.shore_types.specs.declared.ids.PageId.{PageId}
use Rattle.shore_model.specs.declared.log_records.LogRecord.{LogRecord}
use Rattle.shore_model.specs.Logs.{Lawful, image_of_record, records_told}
use Rattle.laws_lives.specs.Recovery.{RecoveryState}
use Rattle.laws_lives.specs.Undo.{HasNoLosers}
use Rattle.laws_lives.proofs.WritersTold.{leaves_told}
use Rattle.laws_room.specs.Claims.{rid_on, slots_of}
use Rattle.laws_room.specs.Settling.{settled_slots}
use Rattle.laws_room.proofs.Lists.{each_alike}
use Rattle.laws_runs.specs.SlotCounts.{slot_count, slots_left}
use Rattle.laws_heaps.specs.LoggedHeaps.{HasImages, slots_in_place}
use Rattle.laws_heaps.proofs.SettledSlots.{settled_images, slots_done}
use Rattle.laws_heaps.proofs.Stores.{one_in_place}
use Rattle.shore_dwrite.specs.Volumes.{page_number}
use Rattle.shore_page.specs.Claims.{ClaimsOfPages, claimed_by}
use Rattle.shore_page.specs.Slots.{Slot, settled}
use Rattle.shore_page.specs.Text.{images_of}
use Rattle.shore_pool.specs.declared.frame.Frame.{Frame}
use Rattle.shore_pool.specs.Pages.{IsPage}
use Rattle.shore_heap.specs.Contents.{HasSlots}
use Rattle.shore_heap.specs.Heaps.{Shows, frame_of, geometry_of}
use Rattle.shore_heap.specs.declared.heap.Heap.{Heap}
use Rattle.shore_heap.proofs.Released.{images_claimed}
use Rattle.shore_heap.proofs.Showing.{shows_same}
use Rattle.shore_txn.specs.ActiveTxns.{session_txns}
use Rattle.shore_txn.specs.Transactions.{kept_in, txns_in}
use Rattle.shore_txn.specs.declared.transactions.Transactions.{Transactions}
use Rattle.shore_restart.specs.GivenBack.{StandsWith}
use Rattle.shore_restart.proofs.PageClaims.{claimed_slots}
use Rattle.shore_restart.proofs.Unkept.{IsTold, entries_on}

module _ {V : Type 0} {H : Ghosts V} (K : ClaimsOfPages) (front : List ℕ) (disk : ℕ → List ℕ) (heap : Heap V H) (s : RecoveryState) (stands : StandsWith K front disk heap s) where
  bare_slots : (p : PageId) → HasPage (geometry_of heap) p → stands.slots p ≡ slots_in_place s p
  bare_slots p has = each (frame_of heap p) refl
    where
      by_images : (images : List Image) → images_of (stands.slots p) ≡ images → HasImages s.log p (s.in_place p) images → stands.slots p ≡ slots_in_place s p
      by_images images same in_place = (stands.room p has).bare ∙ ap (map settled) same ∙ settled_images s.log p (s.in_place p) images in_place

      images_same : images_of (claimed_by (K p) (stands.slots p)) ≡ images_of (stands.slots p)
      images_same = ap (λ (slots : List Slot). images_of (claimed_by (K p) slots)) (stands.room p has).bare ∙ images_claimed (K p) (images_of (stands.slots p))

      each : (o : Option Frame) → frame_of heap p ≡ o → stands.slots p ≡ slots_in_place s p
      each None is =
          let page = stands.store.in_place p has in
          let k = page_number (geometry_of heap) p in
          let here : IsPage (geometry_of heap).version None (disk k) p (s.in_place p).number page.images = subst (λ (o : Option Frame). IsPage (geometry_of heap).version o (disk k) p (s.in_place p).number page.images) is page.here in
          let slots : HasSlots (geometry_of heap).version None (disk k) p (K p) (claimed_by (K p) (stands.slots p)) = subst (λ (o : Option Frame). HasSlots (geometry_of heap).version o (disk k) p (K p) (claimed_by (K p) (stands.slots p))) is (stands.shows.pages p has) in
          by_images page.images
          (sym images_same ∙ ap images_of slots.3 ∙ images_claimed (K p) slots.1 ∙ (one_in_place (geometry_of heap).version None (disk k) p slots.0 (s.in_place p).number slots.1 page.images slots.2 here).1) page.has
      each (Some f) is =
          let page = stands.store.in_place p has in
          let k = page_number (geometry_of heap) p in
          let here : IsPage (geometry_of heap).version (Some f) (disk k) p (s.in_place p).number page.images = subst (λ (o : Option Frame). IsPage (geometry_of heap).version o (disk k) p (s.in_place p).number page.images) is page.here in
          let slots : f.page.slots ≡ claimed_by (K p) (stands.slots p) = subst (λ (o : Option Frame). HasSlots (geometry_of heap).version o (disk k) p (K p) (claimed_by (K p) (stands.slots p))) is (stands.shows.pages p has) in
          by_images page.images (sym images_same ∙ ap images_of (sym slots) ∙ here.2) page.has

  -- with all records done
  pub left_with : s.redone ≡ length s.log → (p : PageId) → HasPage (geometry_of heap) p → stands.slots p ≡ slots_left s.log p
  left_with redone p has = bare_slots p has ∙ slots_done s p stands.recoverable (stands.store.done p) redone

-- what a lawful log without losers tells is what it leaves
told_slots : (log : List LogRecord) → Lawful log → HasNoLosers log → (p : PageId) → settled_slots (records_told log) p (slot_count log p) ≡ slots_left log p
told_slots log lawful quiet p =
    each_alike (λ i. settled (get (records_told log) (rid_on p i))) (λ i. settled (image_of_record log (rid_on p i))) 0 (slot_count log p)
    (λ i least most. ap settled (sym (leaves_told log lawful quiet (rid_on p i))))

-- the heap shows the records that the log tells, with the claims of those in doubt
module _ {V : Type 0} {H : Ghosts V} (txns : Transactions) (front : List ℕ) (disk : ℕ → List ℕ) (heap : Heap V H) (s : RecoveryState) (stands : StandsWith (kept_in txns) front disk heap s) where
  pub shows_opened : IsTold s.log txns → s.redone ≡ length s.log → Lawful s.log → HasNoLosers s.log
      → Shows (kept_in txns) heap front disk (λ p. slots_of (records_told s.log) (session_txns (txns_in txns)) p (slot_count s.log p))
  shows_opened told redone lawful quiet =
      shows_same heap (kept_in txns) front disk (λ p. claimed_by (kept_in txns p) (stands.slots p)) (λ p. slots_of (records_told s.log) (session_txns (txns_in txns)) p (slot_count s.log p))
      (λ p has.
      sym (claimed_slots (records_told s.log) (txns_in txns) p (slot_count s.log p) (entries_on (geometry_of heap).version s.log txns told p))
      ∙ ap (claimed_by (kept_in txns p)) (told_slots s.log lawful quiet p ∙ sym (left_with (kept_in txns) front disk heap s stands redone p has)))
      stands.shows
