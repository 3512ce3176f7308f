-- The table of dirty pages that a heap answers, and what the volume lacks by it.
use Rattle.std.proofs.Common.{◌≡◌, ◌≢◌, inl, inr, ◌-◌, ◌<◌, ◌≤◌, ℕ, zero, suc, List, [], ◌∷◌, All, Contains, Option, None, Some, IsSomeAnd, option_map, length, refl, sym, ap, subst, ◌∙◌, arith}
use Rattle.std.specs.Prelude.{slice_get, unwrap_or}
use Rattle.std.specs.List.{AllByRecursion}
use Rattle.std.proofs.lemmas.Option.{slice_get_within}
use Rattle.std.proofs.lemmas.List.Elements.{recursion_from_All}
use Rattle.shore_disk.specs.declared.device.Disk.{Ghosts}
use Rattle.shore_types.specs.Layout.{HasPage}
use Rattle.shore_types.specs.declared.ids.PageId.{PageId}
use Rattle.shore_types.specs.declared.layout.Geometry.{Geometry}
use Rattle.shore_model.specs.declared.log_records.DirtyPage.{DirtyPage}
use Rattle.shore_model.specs.declared.log_records.LogRecord.{LogRecord}
use Rattle.shore_model.specs.Logs.{image_in}
use Rattle.laws_lives.specs.DirtyPages.{HasAllUpTo}
use Rattle.laws_lives.specs.Pages.{LacksNone}
use Rattle.laws_lives.specs.Recovery.{IsRecoverable}
use Rattle.laws_lives.proofs.DirtyPages.{lacks_none_one_by_one}
use Rattle.laws_checkpoints.specs.CheckpointedStores.{CheckpointedStore}
use Rattle.laws_checkpoints.specs.RecoveryNumbers.{ChangesPage, IsDirtyTableOf, ListsPage, RecoveryNumbers}
use Rattle.laws_checkpoints.specs.StoresInOrder.{AreRecoveryNumbers}
use Rattle.shore_dwrite.specs.Volumes.{page_number}
use Rattle.shore_dwrite.proofs.Numbers.{one_page}
use Rattle.shore_pool.specs.FrameMaps.{dirty_page}
use Rattle.shore_pool.specs.declared.frame.Frame.{Frame}
use Rattle.shore_heap.specs.Dirty.{HasAllDirty, IsDirtyIn}
use Rattle.shore_heap.specs.declared.heap.Heap.{Heap}
use Rattle.shore_heap.specs.Heaps.{frame_at, frame_of, geometry_of}
use Rattle.laws_heaps.specs.HeapRecoveries.{HasRecoveries, recovery_in}
use Rattle.laws_heaps.proofs.AllPages.{has_or_not}

-- ---- frames, lists and logs

number_by_dirt : (o now : Option Frame) → option_map (λ f. f.recovery) now ≡ option_map (λ f. f.recovery) o → recovery_in now ≡ recovery_in o
number_by_dirt None None same = refl
number_by_dirt None (Some f) same = cc
number_by_dirt (Some e) None same = cc
number_by_dirt (Some e) (Some f) same = let one : f.recovery ≡ e.recovery = cc in ap (λ (r : Option ℕ). unwrap_or r 0) one

listed_in : (p : PageId) (list : List DirtyPage) (d : DirtyPage) → Contains list d → d.page ≡ p → ListsPage p list
listed_in p [] d has own = absurd (omega (arith, has.1))
listed_in p (x ∷ list) d (zero, inside, is) own = inl (ap (λ (e : DirtyPage). e.page) is ∙ own)
listed_in p (x ∷ list) d (suc i, inside, is) own = inr (listed_in p list d (i, omega (arith, inside), is) own)

change_within : (log : List LogRecord) (n : ℕ) (p : PageId) → ChangesPage log n p → n ≤ length log
change_within log n p h = by_one (slice_get log (n - 1)) refl h.1
  where
    by_one : (o : Option LogRecord) → slice_get log (n - 1) ≡ o → IsSomeAnd o (λ r. IsSomeAnd (image_in r.payload) (λ e. e.0.page ≡ p)) → n ≤ length log
    by_one None at is = absurd is
    by_one (Some r) at is = let low = slice_get_within log (n - 1) r at in omega (arith, low)

-- ---- no page is dirty, or none becomes so

module _ {D : Type 0} {G : Ghosts D} where
  pub no_numbers : (heap : Heap D G) → ((k : ℕ) → frame_at heap k ≡ None) → HasRecoveries heap (λ p. 0)
  no_numbers heap none = record {
    each = λ p there. sym (ap recovery_in (none (page_number (geometry_of heap) p)));
    inside = λ p out. refl;
    some = λ k f is. let clash : ◌≡◌ {A = Option Frame} None (Some f) = sym (none k) ∙ is in absurd cc;
  }

  pub numbers_unmoved : (old new : Heap D G) (recovery : RecoveryNumbers) → HasRecoveries old recovery
      → ((k : ℕ) → option_map (λ f. f.recovery) (frame_at new k) ≡ option_map (λ f. f.recovery) (frame_at old k)) → geometry_of new ≡ geometry_of old → HasRecoveries new recovery
  numbers_unmoved old new recovery has dirt geometry = record {
    each = λ p here.
        has.each p (subst (λ (g : Geometry). HasPage g p) geometry here)
        ∙ sym (number_by_dirt (frame_at old (page_number (geometry_of old) p)) (frame_at new (page_number (geometry_of old) p)) (dirt (page_number (geometry_of old) p)))
        ∙ ap (λ (g : Geometry). recovery_in (frame_at new (page_number g p))) (sym geometry);
    inside = λ p none. has.inside p (λ here. none (subst (λ (g : Geometry). HasPage g p) (sym geometry) here));
    some = λ k f is none. was_some k f (frame_at old k) refl (sym (dirt k) ∙ ap (λ o. option_map (λ f. f.recovery) o) is) none;
  }
    where
      was_some : (k : ℕ) (f : Frame) (o : Option Frame) → frame_at old k ≡ o → option_map (λ f. f.recovery) o ≡ Some f.recovery → f.recovery ≢ Some 0
      was_some k f None at same none = cc
      was_some k f (Some e) at same none = let one : e.recovery ≡ f.recovery = cc in has.some k e at (one ∙ none)

  -- ---- the table

  its_number : (heap : Heap D G) (recovery : RecoveryNumbers) → HasRecoveries heap recovery → (k : ℕ) (o : Option Frame) (d : DirtyPage) → frame_at heap k ≡ o
      → IsSomeAnd o (λ f. (f.page.id ≡ d.page) × (f.recovery ≡ Some d.recovery)) → (0 < d.recovery) × (d.recovery ≡ recovery d.page)
  its_number heap recovery has k None d at is = absurd is
  its_number heap recovery has k (Some f) d at is =
      let placed = heap.pool.in_order k f at in
      let there : HasPage (geometry_of heap) d.page = subst (HasPage (geometry_of heap)) is.0 placed.0 in
      let number : page_number (geometry_of heap) d.page ≡ k = ap (page_number (geometry_of heap)) (sym is.0) ∙ placed.1 in
      let same : recovery d.page ≡ d.recovery = has.each d.page there ∙ ap recovery_in (ap (frame_at heap) number ∙ at) ∙ ap (λ (r : Option ℕ). unwrap_or r 0) is.1 in
      (some d.recovery (λ none. has.some k f at (is.1 ∙ ap (λ (n : ℕ). Some n) none)), sym same)
    where
      some : (n : ℕ) → n ≢ 0 → 0 < n
      some zero not = absurd (not refl)
      some (suc n) not = omega arith

  pub table_is : (heap : Heap D G) (recovery : RecoveryNumbers) (list : List DirtyPage) → HasRecoveries heap recovery → All (IsDirtyIn heap) list → HasAllDirty heap list → IsDirtyTableOf recovery list
  table_is heap recovery list has listed all = record {
    each = each_of list (recursion_from_All (IsDirtyIn heap) list listed);
    every = λ p some. elim (has_or_not (geometry_of heap) p) [
      | inl there ↦ by_frame p some there (frame_of heap p) refl
      | inr none ↦ absurd (let zero_is = has.inside p none in omega (arith, some, zero_is))
    ];
  }
    where
      each_of : (ds : List DirtyPage) → AllByRecursion (IsDirtyIn heap) ds → AllByRecursion (λ d. (0 < d.recovery) × (d.recovery ≡ recovery d.page)) ds
      each_of [] h = tt
      each_of (d ∷ ds) h = (its_number heap recovery has h.0.0 (frame_at heap h.0.0) d refl h.0.1, each_of ds h.1)

      by_recovery : (p : PageId) → HasPage (geometry_of heap) p → (f : Frame) → frame_of heap p ≡ Some f → (r : Option ℕ) → f.recovery ≡ r → 0 < unwrap_or r 0 → ListsPage p list
      by_recovery p there f at None dirty some = absurd (omega (arith, some))
      by_recovery p there f at (Some n) dirty some =
          let k = page_number (geometry_of heap) p in
          let placed = heap.pool.in_order k f at in
          listed_in p list (dirty_page f n) (all k f n at dirty) (one_page (geometry_of heap) f.page.id p placed.0 there placed.1)

      by_frame : (p : PageId) → 0 < recovery p → HasPage (geometry_of heap) p → (o : Option Frame) → frame_of heap p ≡ o → ListsPage p list
      by_frame p some there None at = let none = has.each p there ∙ ap recovery_in at in absurd (omega (arith, some, none))
      by_frame p some there (Some f) at = let number = has.each p there ∙ ap recovery_in at in by_recovery p there f at f.recovery refl (subst (λ (n : ℕ). 0 < n) number some)

  -- ---- what the volume lacks

  pub lacks_none_below : (heap : Heap D G) (c : CheckpointedStore) (p : PageId) (f : Frame) (number : ℕ) → HasRecoveries heap c.recovery → AreRecoveryNumbers c → IsRecoverable c.store
      → HasPage (geometry_of heap) p → frame_of heap p ≡ Some f → f.recovery ≡ Some number
      → HasAllUpTo c.store.log p (c.store.volume p) (number - 1) × LacksNone c.store.log p (number - 1) (c.store.volume p)
  lacks_none_below heap c p f number has are kept there at dirty =
      let is : c.recovery p ≡ number = has.each p there ∙ ap recovery_in at ∙ ap (λ (r : Option ℕ). unwrap_or r 0) dirty in
      let some : 0 < c.recovery p = positive number is (λ none. has.some (page_number (geometry_of heap) p) f at (dirty ∙ ap (λ (n : ℕ). Some n) none)) in
      let all : HasAllUpTo c.store.log p (c.store.volume p) (number - 1) = subst (λ (n : ℕ). HasAllUpTo c.store.log p (c.store.volume p) (n - 1)) is (are.dirty p some) in
      let within = change_within c.store.log (c.recovery p) p (are.changed p some) in
      (all, lacks_none_one_by_one c.store.log p (c.store.volume p) (number - 1) (omega (arith, within, is)) (kept.volume p) all)
    where
      positive : (n : ℕ) → c.recovery p ≡ n → n ≢ 0 → 0 < c.recovery p
      positive zero is not = absurd (not refl)
      positive (suc n) is not = omega (arith, is)

  pub clean_ones_are_written : (heap : Heap D G) (c : CheckpointedStore) (p : PageId) → HasRecoveries heap c.recovery → AreRecoveryNumbers c → HasPage (geometry_of heap) p
      → (frame_of heap p ≡ None → c.store.volume p ≡ c.store.in_place p) × ((f : Frame) → frame_of heap p ≡ Some f → f.recovery ≡ None → c.store.volume p ≡ c.store.in_place p)
  clean_ones_are_written heap c p has are there = (
    (λ at. are.clean p (has.each p there ∙ ap recovery_in at)),
    (λ f at clean. are.clean p (has.each p there ∙ ap recovery_in at ∙ ap (λ (r : Option ℕ). unwrap_or r 0) clean)),
  )
