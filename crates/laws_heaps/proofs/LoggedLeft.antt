-- Images of the volume that a crash leaves, and what a heap shows that is opened over them.
use Rattle.std.proofs.Common.{refl, ◌≡◌, inl, inr, ◌<◌, ◌≤◌, ℕ, List, length, take, drop, get_or, sym, ap, subst, ◌∙◌, arith, take-take, Option, None, Some, []}
use Rattle.std.proofs.lemmas.List.{ext_get_or}
use Rattle.std.proofs.lemmas.Option.{slice_get-get_or}
use Rattle.shore_disk.specs.Device.{may_leave}
use Rattle.shore_disk.specs.declared.device.Disk.{Ghosts}
use Rattle.shore_types.specs.declared.ids.PageId.{PageId}
use Rattle.shore_types.specs.declared.layout.Geometry.{Geometry}
use Rattle.shore_model.specs.declared.log_records.LogRecord.{LogRecord}
use Rattle.laws_lives.specs.Pages.{LoggedPages, empty_page}
use Rattle.laws_lives.specs.Recovery.{RecoveryState}
use Rattle.laws_runs.specs.SlotCounts.{slot_count}
use Rattle.shore_dwrite.specs.Shown.{Shows, ShowsBehind, overlaid}
use Rattle.shore_dwrite.specs.Tables.{IsTable}
use Rattle.shore_dwrite.specs.declared.places.TheConstants.{AREA_AT, TABLE_AT, TABLE_BYTES}
use Rattle.shore_dwrite.specs.Volumes.{AreEmpty, page_at, page_count, page_number, part}
use Rattle.shore_dwrite.proofs.Numbers.{page_within}
use Rattle.shore_pool.specs.declared.frame.Frame.{Frame}
use Rattle.shore_pool.specs.Pages.{IsPage}
use Rattle.shore_pool.specs.Pools.{PoolHolds, amid_of, batch_of, batch_texts_of}
use Rattle.shore_pool.proofs.UnderWay.{is_shown}
use Rattle.shore_heap.specs.declared.heap.Heap.{Heap}
use Rattle.shore_heap.specs.Heaps.{frame_at, geometry_of, history_of, pool_of}
use Rattle.laws_heaps.specs.LoggedHeaps.{AreSettled, AreTextsOf, IsInPlace, IsStoreOf, IsTextOf, LeavesStore}
use Rattle.laws_runs.specs.SoundStores.{found_state}

-- ---- which pages an image shows

-- a table is that of one list of pages
one_table : (table a b : List ℕ) → IsTable table a → IsTable table b → a ≡ b
one_table table a b is_a is_b =
    let long : length a ≡ length b = sym is_a.count ∙ is_b.count in
    ext_get_or 0 a b long (λ i inside.
    sym (is_a.entries i (get_or a i 0) (slice_get-get_or a i 0 inside)) ∙ is_b.entries i (get_or b i 0) (slice_get-get_or b i 0 (omega arith)))

-- an image shows one text of each page
one_shown : (g : Geometry) (image : List ℕ) (a b : ℕ → List ℕ) → Shows g image a → Shows g image b → (k : ℕ) → k < page_count g → a k ≡ b k
one_shown g image a b (inl x) (inl y) k within = sym (x.1 k within) ∙ y.1 k within
one_shown g image a b (inl x) (inr y) k within = absurd (x.0 y.1.is_open)
one_shown g image a b (inr x) (inl y) k within = absurd (y.0 x.1.is_open)
one_shown g image a b (inr x) (inr y) k within =
    let one : x.0 ≡ y.0 = one_table (part TABLE_AT TABLE_BYTES image) x.0 y.0 x.1.table y.1.table in
    sym (x.2 k within) ∙ ap (λ (ns : List ℕ). overlaid g.version ns (drop AREA_AT image) (page_at g.version image) k) one ∙ y.2 k within

pub texts_shown : (log : List LogRecord) (g : Geometry) (front : List ℕ) (texts : ℕ → List ℕ) (pages : LoggedPages) (image : List ℕ) → LeavesStore log g front pages image → ShowsBehind g front texts image → AreTextsOf log g texts pages
texts_shown log g front texts pages image left shown = record {
  each = λ p has.
      let same = one_shown g image left.0 texts left.1.1 shown.1 (page_number g p) (page_within g.stores p.store p.page has).1 in
      subst (λ (bytes : List ℕ). IsTextOf g.version log bytes p (pages p)) same (left.2.each p has);
  inside = left.2.inside;
}

-- ---- between two calls

pub left_settled : {D : Type 0} {G : Ghosts D} (heap : Heap D G) (front : List ℕ) (disk : ℕ → List ℕ) (s : RecoveryState) (image : List ℕ) → IsStoreOf heap disk s → PoolHolds (pool_of heap) front disk → may_leave (history_of heap) image
    → LeavesStore s.log (geometry_of heap) front s.volume image
left_settled heap front disk s image store holds may =
    let is = is_shown (pool_of heap).device front disk (batch_of (pool_of heap)) (batch_texts_of (pool_of heap)) (amid_of (pool_of heap)) holds.settled in
    subst (LeavesStore s.log (geometry_of heap) front s.volume) (sym (is.stands.only image may)) (disk, is.shows, store.volume)

-- ---- a log that was cut

pub left_cut : (log : List LogRecord) (g : Geometry) (front : List ℕ) (pages : LoggedPages) (image : List ℕ) (n : ℕ) → LeavesStore log g front pages image → ((p : PageId) → (pages p).number ≤ n) → LeavesStore (take n log) g front pages image
left_cut log g front pages image n left low = (left.0, left.1, record { each = λ p has. cut p (left.2.each p has); inside = left.2.inside })
  where
    cut : (p : PageId) → IsTextOf g.version log (left.0 (page_number g p)) p (pages p) → IsTextOf g.version (take n log) (left.0 (page_number g p)) p (pages p)
    cut p is = record {
      images = is.images;
      text = is.text;
      has = record {
        slots = is.has.slots;
        count = is.has.count ∙ ap (λ (l : List LogRecord). slot_count l p) (sym (take-take (pages p).number n log (low p)));
      };
    }

-- ---- a heap with no page in a frame

pub opened_is : {D : Type 0} {G : Ghosts D} (heap : Heap D G) (log : List LogRecord) (texts : ℕ → List ℕ) (pages : LoggedPages) → AreTextsOf log (geometry_of heap) texts pages → ((k : ℕ) → frame_at heap k ≡ None)
    → IsStoreOf heap texts (found_state log pages) × AreSettled heap
opened_is heap log texts pages are none = (
  record {
    volume = are;
    in_place = λ p has. in_place p (are.each p has);
    inside = are.inside;
    done = λ p k r e low. absurd (omega arith);
  },
  λ k f is. let clash : None ≡ Some f = sym (none k) ∙ is in absurd cc,
)
  where
    in_place : (p : PageId) → IsTextOf (geometry_of heap).version log (texts (page_number (geometry_of heap) p)) p (pages p) → IsInPlace log heap texts p (pages p)
    in_place p is = record {
      images = is.images;
      here = subst (λ (o : Option Frame). IsPage (geometry_of heap).version o (texts (page_number (geometry_of heap) p)) p (pages p).number is.images) (sym (none (page_number (geometry_of heap) p))) is.text;
      has = is.has;
    }

pub empty_texts : (g : Geometry) (texts : ℕ → List ℕ) → AreEmpty g texts → AreTextsOf [] g texts (λ p. empty_page)
empty_texts g texts are = record {
  each = λ p has. record { images = []; text = are p has; has = record { slots = λ i. refl; count = refl } };
  inside = λ p none. refl;
}
