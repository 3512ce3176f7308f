-- What a heap and its store have in common, put together anew.
use Rattle.std.proofs.Common.{refl, ◌≡◌, ◌≤◌, length, ℕ, List, Option, None, Some, sym, subst, ◌∙◌}
use Rattle.shore_disk.specs.declared.device.Disk.{Ghosts}
use Rattle.shore_types.specs.Images.{Image}
use Rattle.shore_types.specs.Layout.{HasPage}
use Rattle.shore_types.specs.declared.ids.PageId.{PageId}
use Rattle.shore_types.specs.declared.layout.Geometry.{Geometry}
use Rattle.shore_types.specs.declared.versions.Version.{Version}
use Rattle.shore_model.specs.declared.log_records.LogRecord.{LogRecord}
use Rattle.laws_lives.specs.Pages.{LoggedPage, LoggedPages}
use Rattle.laws_lives.specs.Recovery.{ForceLog, LeadsTo, RecoveryState, after_force}
use Rattle.shore_page.specs.Text.{IsPageText}
use Rattle.shore_dwrite.specs.Volumes.{page_number}
use Rattle.shore_pool.specs.declared.frame.Frame.{Frame}
use Rattle.shore_pool.specs.Pages.{IsPage, SamePages}
use Rattle.shore_pool.proofs.Same.{one_text, pages_stay}
use Rattle.shore_heap.specs.declared.heap.Heap.{Heap}
use Rattle.shore_heap.specs.Heaps.{frame_at, geometry_of}
use Rattle.laws_heaps.specs.LoggedHeaps.{AreTextsOf, IsInPlace, IsStoreOf, IsTextOf}

-- a page in place has one number, and one image in each slot
pub one_in_place : (v : Version) (o : Option Frame) (text : List ℕ) (p : PageId) (m n : ℕ) (images others : List Image) → IsPage v o text p m images → IsPage v o text p n others → (m ≡ n) × (images ≡ others)
one_in_place v None text p m n images others first second = let one = one_text v text p p m n images others first second in (one.1, one.2)
one_in_place v (Some f) text p m n images others first second = (sym first.1 ∙ second.1, sym first.2 ∙ second.2)

-- the text of a page with the number and the images of the page in place is a text of it
pub text_in_place : {D : Type 0} {G : Ghosts D} (log : List LogRecord) (heap : Heap D G) (disk : ℕ → List ℕ) (p : PageId) (page : LoggedPage) → (is : IsInPlace log heap disk p page)
    → (bytes : List ℕ) (number : ℕ) (images : List Image) → IsPage (geometry_of heap).version (frame_at heap (page_number (geometry_of heap) p)) (disk (page_number (geometry_of heap) p)) p number images
    → IsPageText (geometry_of heap).version bytes p number images → (page.number ≡ number) × IsTextOf (geometry_of heap).version log bytes p page
text_in_place log heap disk p page is bytes number images here text =
    let k = page_number (geometry_of heap) p in
    let one = one_in_place (geometry_of heap).version (frame_at heap k) (disk k) p page.number number is.images images is.here here in (
      one.0,
      record {
        images = is.images;
        text = subst (λ (n : ℕ). IsPageText (geometry_of heap).version bytes p n is.images) (sym one.0) (subst (λ (l : List Image). IsPageText (geometry_of heap).version bytes p number l) (sym one.1) text);
        has = is.has;
      },
    )

module _ {D : Type 0} {G : Ghosts D} (old new : Heap D G) (disk left : ℕ → List ℕ) (s : RecoveryState) (store : IsStoreOf old disk s) (geometry : geometry_of new ≡ geometry_of old) where
  -- the pages in place are what they were, over other texts of the volume
  pub store_over : (volume : LoggedPages) → SamePages (geometry_of old).version (frame_at old) disk (frame_at new) left → AreTextsOf s.log (geometry_of old) left volume → IsStoreOf new left (record s { volume = volume })
  store_over volume same texts = record {
    volume = subst (λ (g : Geometry). AreTextsOf s.log g left volume) (sym geometry) texts;
    in_place = λ p has. moved p (store.in_place p (subst (λ (g : Geometry). HasPage g p) geometry has));
    inside = λ p none. store.inside p (λ has. none (subst (λ (g : Geometry). HasPage g p) (sym geometry) has));
    done = store.done;
  }
    where
      moved : (p : PageId) → IsInPlace s.log old disk p (s.in_place p) → IsInPlace s.log new left p (s.in_place p)
      moved p is = record {
        images = is.images;
        here = subst (λ (g : Geometry). IsPage g.version (frame_at new (page_number g p)) (left (page_number g p)) p (s.in_place p).number is.images) (sym geometry)
            ((same (page_number (geometry_of old) p) p (s.in_place p).number is.images).0 is.here);
        has = is.has;
      }

module _ {D : Type 0} {G : Ghosts D} where
  -- no page was written
  pub store_unwritten : (old new : Heap D G) (disk : ℕ → List ℕ) (s : RecoveryState) → IsStoreOf old disk s → SamePages (geometry_of old).version (frame_at old) disk (frame_at new) disk → geometry_of new ≡ geometry_of old → IsStoreOf new disk s
  store_unwritten old new disk s store same geometry = store_over old new disk disk s store geometry s.volume same store.volume

  -- .. nor any frame touched
  pub store_unmoved : (old new : Heap D G) (disk : ℕ → List ℕ) (s : RecoveryState) → IsStoreOf old disk s → ((k : ℕ) → frame_at new k ≡ frame_at old k) → geometry_of new ≡ geometry_of old → IsStoreOf new disk s
  store_unmoved old new disk s store same = store_unwritten old new disk s store (pages_stay (geometry_of old).version (frame_at old) (frame_at new) disk same)

  -- more of the log is durable
  pub forced_is : (heap : Heap D G) (disk : ℕ → List ℕ) (s : RecoveryState) (n : ℕ) → IsStoreOf heap disk s → s.durable ≤ n → n ≤ length s.log → LeadsTo s (ForceLog n) (after_force s n) × IsStoreOf heap disk (after_force s n)
  forced_is heap disk s n store more within = ((more, within, refl), record { volume = store.volume; in_place = store.in_place; inside = store.inside; done = store.done })
