-- A heap has one store.
use Rattle.std.proofs.Common.{◌≡◌, inl, inr, ℕ, List, Option, None, sym, ap, ◌∙◌}
use Rattle.std.specs.Prelude.{slice_index_or}
use Rattle.shore_disk.specs.declared.device.Disk.{Ghosts}
use Rattle.shore_types.specs.Images.{Image}
use Rattle.shore_types.specs.declared.ids.PageId.{PageId}
use Rattle.shore_types.specs.declared.versions.Version.{Version}
use Rattle.shore_model.specs.declared.log_records.LogRecord.{LogRecord}
use Rattle.laws_lives.specs.Pages.{LoggedPage, empty_page}
use Rattle.laws_lives.specs.Recovery.{RecoveryState}
use Rattle.shore_dwrite.specs.Volumes.{page_number}
use Rattle.shore_pool.specs.declared.frame.Frame.{Frame}
use Rattle.shore_pool.specs.Pages.{IsPage}
use Rattle.shore_heap.specs.declared.heap.Heap.{Heap}
use Rattle.shore_heap.specs.Heaps.{frame_at, geometry_of}
use Rattle.laws_heaps.specs.LoggedHeaps.{HasImages, IsSamePage, IsStoreOf}
use Rattle.laws_heaps.proofs.AllPages.{has_or_not}
use Rattle.laws_heaps.proofs.Stores.{one_in_place}

same_of : (v : Version) (o : Option Frame) (text : List ℕ) (p : PageId) (log other : List LogRecord) (page again : LoggedPage) (images those : List Image) → IsPage v o text p page.number images → IsPage v o text p again.number those
    → HasImages log p page images → HasImages other p again those → IsSamePage page again
same_of v o text p log other page again images those first second has have =
    let one = one_in_place v o text p page.number again.number images those first second in
    record { number = one.0; slots = λ i. has.slots i ∙ ap (λ (l : List Image). slice_index_or l i None) one.1 ∙ sym (have.slots i) }

-- pages that the volume does not have
same_outside : (page again : LoggedPage) → page ≡ empty_page → again ≡ empty_page → IsSamePage page again
same_outside page again is are = let same = is ∙ sym are in record { number = ap (λ (x : LoggedPage). x.number) same; slots = λ i. ap (λ (x : LoggedPage). x.slots i) same }

pub one_store : {D : Type 0} {G : Ghosts D} (heap : Heap D G) (disk : ℕ → List ℕ) (s t : RecoveryState) → IsStoreOf heap disk s → IsStoreOf heap disk t
    → (p : PageId) → IsSamePage (s.in_place p) (t.in_place p) × IsSamePage (s.volume p) (t.volume p)
one_store heap disk s t store other p = elim (has_or_not (geometry_of heap) p) [
  | inl has ↦
      let k = page_number (geometry_of heap) p in
      let a = store.in_place p has in
      let b = other.in_place p has in
      let c = store.volume.each p has in
      let d = other.volume.each p has in (
        same_of (geometry_of heap).version (frame_at heap k) (disk k) p s.log t.log (s.in_place p) (t.in_place p) a.images b.images a.here b.here a.has b.has,
        same_of (geometry_of heap).version None (disk k) p s.log t.log (s.volume p) (t.volume p) c.images d.images c.text d.text c.has d.has,
      )
  | inr none ↦ (same_outside (s.in_place p) (t.in_place p) (store.inside p none) (other.inside p none), same_outside (s.volume p) (t.volume p) (store.volume.inside p none) (other.volume.inside p none))
]
