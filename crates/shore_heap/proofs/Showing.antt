-- What a heap shows, put together.
use Rattle.std.proofs.Common.{◌≡◌, ◌≢◌, ℕ, List, Option, None, Some, inl, inr, option_map, refl, sym, ap, subst, ◌∙◌}
use Rattle.std.proofs.lemmas.Bool.{cases_eq}
use Rattle.shore_pool.specs.Changes.{reclaimed}
use Rattle.shore_disk.specs.declared.device.Disk.{Ghosts}
use Rattle.shore_types.specs.declared.ids.PageId.{PageId}
use Rattle.shore_types.specs.declared.layout.Geometry.{Geometry}
use Rattle.shore_types.specs.Layout.{HasPage}
use Rattle.shore_types.specs.declared.versions.Version.{Version}
use Rattle.shore_dwrite.specs.Volumes.{page_number}
use Rattle.shore_page.specs.Slots.{Slot}
use Rattle.shore_pool.specs.declared.frame.Frame.{Frame}
use Rattle.shore_pool.specs.declared.pool.Pool.{Pool}
use Rattle.shore_pool.specs.Pools as pools
use Rattle.shore_pool.specs.Pools.{PoolHolds}
use Rattle.shore_heap.specs.declared.heap.Heap.{Heap}
use Rattle.shore_heap.specs.Contents.{AreBounds, HasSlots, ClaimsOfPages, TakesNone}
use Rattle.shore_heap.specs.Heaps.{Shows, frame_of, geometry_of}
use Rattle.shore_heap.proofs.Frames.{Have}

module _ {D : Type 0} {G : Ghosts D} where
  pub shows_by : (pool : Pool D G) (heap : Heap D G) (g : Geometry) (K : ClaimsOfPages) (front : List ℕ) (disk : ℕ → List ℕ) (S : PageId → List Slot) → heap.pool ≡ pool → pools.geometry_of pool ≡ g → PoolHolds pool front disk
      → Have g (pools.frame_at pool) disk K S → AreBounds g heap.free.items S → Shows K heap front disk S
  shows_by pool heap g K front disk S same geometry holds have bounds =
      let pool_is : pool ≡ heap.pool = sym same in
      let g_is : g ≡ geometry_of heap = sym geometry ∙ ap pools.geometry_of pool_is in
      record {
        holds = subst (λ (p : Pool D G). PoolHolds p front disk) pool_is holds;
        pages = subst (λ (it : Geometry). Have it (pools.frame_at heap.pool) disk K S) g_is (subst (λ (p : Pool D G). Have g (pools.frame_at p) disk K S) pool_is have);
        bounds = subst (λ (it : Geometry). AreBounds it heap.free.items S) g_is bounds;
      }

  -- a frame by its page's number, before and after
  pub frame_is : (pool : Pool D G) (g : Geometry) (id : PageId) (o : Option Frame) → pools.geometry_of pool ≡ g → pools.frame_of pool id ≡ o → pools.frame_at pool (page_number g id) ≡ o
  frame_is pool g id o geometry is = ap (λ (it : Geometry). pools.frame_at pool (page_number it id)) (sym geometry) ∙ is

  -- the slots of the volume's pages are the same
  pub shows_same : (heap : Heap D G) (K : ClaimsOfPages) (front : List ℕ) (disk : ℕ → List ℕ) (S T : PageId → List Slot) → ((id : PageId) → HasPage (geometry_of heap) id → T id ≡ S id) → Shows K heap front disk S → Shows K heap front disk T
  shows_same heap K front disk S T same shows = record {
    holds = shows.holds;
    pages = λ id has. subst (HasSlots (geometry_of heap).version (frame_of heap id) (disk (page_number (geometry_of heap) id)) id (K id)) (sym (same id has)) (shows.pages id has);
    bounds = λ id bytes has up_to. subst (λ (slots : List Slot). TakesNone (geometry_of heap).version slots bytes) (sym (same id has)) (shows.bounds id bytes has up_to);
  }

  -- other claims are told of pages in frames
  pub shows_told : (heap : Heap D G) (K L : ClaimsOfPages) (front : List ℕ) (disk : ℕ → List ℕ) (S : PageId → List Slot) → ((id : PageId) → HasPage (geometry_of heap) id → frame_of heap id ≡ None → L id ≡ K id)
      → Shows K heap front disk S → Shows L heap front disk S
  shows_told heap K L front disk S same shows = record {
    holds = shows.holds;
    pages = λ id has. each id (frame_of heap id) (same id has) (shows.pages id has);
    bounds = shows.bounds;
  }
    where
      each : (id : PageId) (o : Option Frame) → (o ≡ None → L id ≡ K id) → HasSlots (geometry_of heap).version o (disk (page_number (geometry_of heap) id)) id (K id) (S id) → HasSlots (geometry_of heap).version o (disk (page_number (geometry_of heap) id)) id (L id) (S id)
      each id None is has = subst (λ (kept : List (ℕ × ℕ)). HasSlots (geometry_of heap).version None (disk (page_number (geometry_of heap) id)) id kept (S id)) (sym (is refl)) has
      each id (Some f) is has = has

-- a page whose claims fall stays dirty, or clean
pub same_dirt : (at now : ℕ → Option Frame) (n slot : ℕ) (claim : Slot → Slot) → now n ≡ option_map (reclaimed claim slot) (at n) → ((k : ℕ) → k ≢ n → now k ≡ at k)
    → (k : ℕ) → option_map (λ (f : Frame). f.recovery) (now k) ≡ option_map (λ (f : Frame). f.recovery) (at k)
same_dirt at now n slot claim here others k = elim (cases_eq k n) [
  | inl same ↦ subst (λ (i : ℕ). option_map (λ (f : Frame). f.recovery) (now i) ≡ option_map (λ (f : Frame). f.recovery) (at i)) (sym same) (ap (option_map (λ (f : Frame). f.recovery)) here ∙ each (at n))
  | inr other ↦ ap (option_map (λ (f : Frame). f.recovery)) (others k other)
]
  where
    each : (o : Option Frame) → option_map (λ (f : Frame). f.recovery) (option_map (reclaimed claim slot) o) ≡ option_map (λ (f : Frame). f.recovery) o
    each None = refl
    each (Some f) = refl
