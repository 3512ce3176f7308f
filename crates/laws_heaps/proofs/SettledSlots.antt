-- The slots of pages in place, each settled, and what a heap shows that has these in its frames.
use Rattle.std.proofs.Common.{◌≡◌, ◌+◌, ◌≤◌, ℕ, suc, List, [], ◌∷◌, Option, None, Some, length, map, take, refl, sym, ap, subst, ◌∙◌, arith}
use Rattle.std.specs.Prelude.{slice_index_or}
use Rattle.std.proofs.lemmas.List.{take_all}
use Rattle.shore_disk.specs.declared.device.Disk.{Ghosts}
use Rattle.shore_types.specs.Images.{Image}
use Rattle.shore_types.specs.Layout.{HasPage}
use Rattle.shore_types.specs.declared.ids.PageId.{PageId}
use Rattle.shore_model.specs.declared.log_records.LogRecord.{LogRecord}
use Rattle.shore_model.specs.Logs.{image_of_record}
use Rattle.laws_lives.specs.DirtyPages.{HasAllUpTo}
use Rattle.laws_lives.specs.Pages.{LacksNone, LoggedPage, rid_on}
use Rattle.laws_lives.specs.Recovery.{IsRecoverable, RecoveryState}
use Rattle.laws_lives.proofs.Redo.{own_number}
use Rattle.laws_room.specs.Claims.{each_from}
use Rattle.laws_room.proofs.Lists.{each_alike}
use Rattle.laws_runs.specs.SlotCounts.{slot_count, slots_left}
use Rattle.shore_page.specs.Slots.{Slot, settled}
use Rattle.shore_page.specs.Text.{images_of}
use Rattle.shore_dwrite.specs.Volumes.{page_number}
use Rattle.shore_pool.specs.declared.frame.Frame.{Frame}
use Rattle.shore_pool.specs.Pages.{IsPage}
use Rattle.shore_pool.specs.Pools.{PoolHolds}
use Rattle.shore_heap.specs.Contents.{AreBounds, AreKept, HasSlots, unclaimed}
use Rattle.shore_heap.specs.declared.heap.Heap.{Heap}
use Rattle.shore_heap.specs.Heaps.{Shows, bounds_of, frame_of, geometry_of, pool_of}
use Rattle.laws_heaps.specs.LoggedHeaps.{AreSettled, HasImages, IsStoreOf, slots_in_place, slots_settled}
use Rattle.laws_heaps.proofs.Counts.{count_done}
use Rattle.laws_heaps.proofs.Stores.{one_in_place}

-- ---- one page

settled_from : (f : ℕ → Image) (first : ℕ) (images : List Image) → ((i : ℕ) → f (first + i) ≡ slice_index_or images i None) → map settled images ≡ each_from (λ i. settled (f i)) first (length images)
settled_from f first [] same = refl
settled_from f first (image ∷ images) same =
    let at : first + 0 ≡ first = omega arith in
    ap (λ x. settled x ∷ map settled images) (sym (same 0) ∙ ap f at)
    ∙ ap (λ l. settled (f first) ∷ l) (settled_from f (suc first) images (λ i. let on : suc first + i ≡ first + suc i = omega arith in ap f on ∙ same (suc i)))

-- the images of the page, each settled
pub settled_images : (log : List LogRecord) (p : PageId) (page : LoggedPage) (images : List Image) → HasImages log p page images → map settled images ≡ slots_settled log p page
settled_images log p page images has =
    settled_from page.slots 0 images (λ i. let at : 0 + i ≡ i = omega arith in ap page.slots at ∙ has.slots i)
    ∙ ap (λ (n : ℕ). each_from (λ i. settled (page.slots i)) 0 n) has.count

-- .. are what the records done leave, if none above them is on the page
pub settled_done : (log : List LogRecord) (p : PageId) (page : LoggedPage) (n : ℕ) → HasAllUpTo log p page n → LacksNone log p n page → page.number ≤ n → slots_settled log p page ≡ slots_left (take n log) p
settled_done log p page n all lacks low =
    let is = lacks.each n low (omega arith) in
    ap (λ (k : ℕ). each_from (λ i. settled (page.slots i)) 0 k) (count_done log p page n all low)
    ∙ each_alike (λ i. settled (page.slots i)) (λ i. settled (image_of_record (take n log) (rid_on p i))) 0 (slot_count (take n log) p) (λ i from below. ap settled (is.slots i))

-- ---- a store's pages

pub slots_done : (s : RecoveryState) (p : PageId) → IsRecoverable s → HasAllUpTo s.log p (s.in_place p) s.redone → s.redone ≡ length s.log → slots_in_place s p ≡ slots_left s.log p
slots_done s p kept all whole =
    let within = (own_number s.log p s.redone (s.in_place p) (kept.in_place p)).within in
    settled_done s.log p (s.in_place p) s.redone all (kept.in_place p) (omega arith)
    ∙ ap (λ (l : List LogRecord). slots_left l p) (take_all s.redone s.log (omega arith))

module _ {D : Type 0} {G : Ghosts D} (heap : Heap D G) (disk : ℕ → List ℕ) (s : RecoveryState) (store : IsStoreOf heap disk s) (settled_all : AreSettled heap) where
  -- a page in a frame
  pub framed : (p : PageId) (f : Frame) → HasPage (geometry_of heap) p → frame_of heap p ≡ Some f → f.page.slots ≡ slots_in_place s p
  framed p f has is =
      let page = store.in_place p has in
      let k = page_number (geometry_of heap) p in
      let here : IsPage (geometry_of heap).version (Some f) (disk k) p (s.in_place p).number page.images = subst (λ (o : Option Frame). IsPage (geometry_of heap).version o (disk k) p (s.in_place p).number page.images) is page.here in
      settled_all k f is ∙ ap (map settled) here.2 ∙ settled_images s.log p (s.in_place p) page.images page.has

  pub framed_due : (p : PageId) (f : Frame) → IsRecoverable s → HasPage (geometry_of heap) p → frame_of heap p ≡ Some f → (s.in_place p).number ≤ s.redone → f.page.slots ≡ slots_left (take s.redone s.log) p
  framed_due p f kept has is low = framed p f has is ∙ settled_done s.log p (s.in_place p) s.redone (store.done p) (kept.in_place p) low

  pub framed_whole : (p : PageId) (f : Frame) → IsRecoverable s → HasPage (geometry_of heap) p → frame_of heap p ≡ Some f → s.redone ≡ length s.log → f.page.slots ≡ slots_left s.log p
  framed_whole p f kept has is whole = framed p f has is ∙ slots_done s p kept (store.done p) whole

  -- .. or not
  shown : (p : PageId) → HasPage (geometry_of heap) p → HasSlots (geometry_of heap).version (frame_of heap p) (disk (page_number (geometry_of heap) p)) p [] (slots_in_place s p)
  shown p has = each (frame_of heap p) refl
    where
      each : (o : Option Frame) → frame_of heap p ≡ o → HasSlots (geometry_of heap).version o (disk (page_number (geometry_of heap) p)) p [] (slots_in_place s p)
      each None is =
          let page = store.in_place p has in
          let k = page_number (geometry_of heap) p in
          let here : IsPage (geometry_of heap).version None (disk k) p (s.in_place p).number page.images = subst (λ (o : Option Frame). IsPage (geometry_of heap).version o (disk k) p (s.in_place p).number page.images) is page.here in
          ((s.in_place p).number, page.images, here, sym (settled_images s.log p (s.in_place p) page.images page.has), tt)
      each (Some f) is = framed p f has is

  pub shows_only : (front : List ℕ) (S : PageId → List Slot) → Shows unclaimed heap front disk S → (p : PageId) → HasPage (geometry_of heap) p → S p ≡ slots_in_place s p
  shows_only front S shows p has = each (frame_of heap p) refl
    where
      each : (o : Option Frame) → frame_of heap p ≡ o → S p ≡ slots_in_place s p
      each None is =
          let page = store.in_place p has in
          let k = page_number (geometry_of heap) p in
          let here : IsPage (geometry_of heap).version None (disk k) p (s.in_place p).number page.images = subst (λ (o : Option Frame). IsPage (geometry_of heap).version o (disk k) p (s.in_place p).number page.images) is page.here in
          let slots : HasSlots (geometry_of heap).version None (disk k) p [] (S p) = subst (λ (o : Option Frame). HasSlots (geometry_of heap).version o (disk k) p [] (S p)) is (shows.pages p has) in
          slots.3 ∙ ap (map settled) (one_in_place (geometry_of heap).version None (disk k) p slots.0 (s.in_place p).number slots.1 page.images slots.2 here).1 ∙ settled_images s.log p (s.in_place p) page.images page.has
      each (Some f) is =
          let slots : f.page.slots ≡ S p = subst (λ (o : Option Frame). HasSlots (geometry_of heap).version o (disk (page_number (geometry_of heap) p)) p [] (S p)) is (shows.pages p has) in
          sym slots ∙ framed p f has is

  module _ (front : List ℕ) (holds : PoolHolds (pool_of heap) front disk) where
    pub shows_in_place : AreBounds (geometry_of heap) (bounds_of heap) (slots_in_place s) → Shows unclaimed heap front disk (slots_in_place s)
    shows_in_place bounds = record { holds = holds; pages = shown; bounds = bounds }

    pub shows_whole : IsRecoverable s → s.redone ≡ length s.log → AreBounds (geometry_of heap) (bounds_of heap) (slots_left s.log) → Shows unclaimed heap front disk (slots_left s.log)
    shows_whole kept whole bounds = record {
      holds = holds;
      pages = λ p has. subst (HasSlots (geometry_of heap).version (frame_of heap p) (disk (page_number (geometry_of heap) p)) p []) (slots_done s p kept (store.done p) whole) (shown p has);
      bounds = bounds;
    }

images_settled : (images : List Image) → images_of (map settled images) ≡ images
images_settled [] = refl
images_settled (image ∷ images) = ap (λ l. image ∷ l) (images_settled images)

-- they may leave their frames
pub settled_kept : {D : Type 0} {G : Ghosts D} (heap : Heap D G) (disk : ℕ → List ℕ) (s : RecoveryState) → IsStoreOf heap disk s → AreKept (geometry_of heap) unclaimed (slots_in_place s)
settled_kept heap disk s store p has =
    let page = store.in_place p has in
    (subst (λ (l : List Slot). l ≡ map settled (images_of l)) (settled_images s.log p (s.in_place p) page.images page.has) (ap (map settled) (sym (images_settled page.images))), tt)

-- a frame has the number of its page
pub frame_number : {D : Type 0} {G : Ghosts D} (heap : Heap D G) (disk : ℕ → List ℕ) (s : RecoveryState) (p : PageId) (f : Frame) → IsStoreOf heap disk s → HasPage (geometry_of heap) p → frame_of heap p ≡ Some f
    → f.page.number ≡ (s.in_place p).number
frame_number heap disk s p f store has is =
    let page = store.in_place p has in
    let k = page_number (geometry_of heap) p in
    let here : IsPage (geometry_of heap).version (Some f) (disk k) p (s.in_place p).number page.images = subst (λ (o : Option Frame). IsPage (geometry_of heap).version o (disk k) p (s.in_place p).number page.images) is page.here in
    here.1
