-- A page in a frame that comes to keep more, one claim after another.
use Rattle.std.proofs.Common.{◌≡◌, ◌≢◌, ◌⊎◌, ◌<◌, ◌++◌, ◌∷◌, [], ℕ, List, Option, Some, option_map, option_to_list, length, refl, sym, ap, ◌∙◌, inl, inr, subst}
use Rattle.std.proofs.lemmas.List.{append_assoc}
use Rattle.shore_disk.specs.declared.device.Disk.{Ghosts}
use Rattle.shore_types.specs.declared.ids.PageId.{PageId}
use Rattle.shore_types.specs.declared.layout.Geometry.{Geometry}
use Rattle.shore_dwrite.specs.Settled as settled_device
use Rattle.shore_dwrite.specs.Volumes.{page_number}
use Rattle.shore_page.specs.Room.{Fits, raised}
use Rattle.shore_page.specs.Slots.{Slot, with_change}
use Rattle.shore_pool.specs.Changes.{reclaimed}
use Rattle.shore_pool.specs.Pages.{SamePages}
use Rattle.shore_pool.specs.Pools.{PoolHolds}
use Rattle.shore_pool.specs.declared.frame.Frame.{Frame}
use Rattle.shore_pool.proofs.Same.{pages_on, pages_stay}
use Rattle.shore_heap.specs.declared.heap.Heap.{Heap}
use Rattle.shore_heap.specs.Contents.{CanKeep, FitIn, KeepWhatFits, claimed_frame, with_page_slots}
use Rattle.shore_heap.specs.Heaps.{bounds_of, device_of, frame_at, frame_of, geometry_of, limit_of}

module _ {D : Type 0} {G : Ghosts D} (id : PageId) where
  pub record Keeps (kept : List (ℕ × ℕ)) (old new : Heap D G) : Type 0 where
    pub device : device_of new ≡ device_of old
    pub limit : limit_of new ≡ limit_of old
    pub bounds : bounds_of new ≡ bounds_of old
    pub here : (f : Frame) → frame_of old id ≡ Some f → FitIn (geometry_of old).version kept f.page.slots → frame_of new id ≡ Some (claimed_frame kept f)
    pub fitting : (f : Frame) → frame_of old id ≡ Some f → (slots : List Slot) × KeepWhatFits (geometry_of old).version kept f.page.slots slots × (frame_of new id ≡ Some (with_page_slots slots f))
    pub dirt : (k : ℕ) → option_map (λ f. f.recovery) (frame_at new k) ≡ option_map (λ f. f.recovery) (frame_at old k)
    pub others : (k : ℕ) → k ≢ page_number (geometry_of old) id → frame_at new k ≡ frame_at old k
    pub pages : (front : List ℕ) (disk : ℕ → List ℕ) → PoolHolds old.pool front disk → PoolHolds new.pool front disk × SamePages (geometry_of old).version (frame_at old) disk (frame_at new) disk

  -- no claim as yet
  pub keeps_none : (old : Heap D G) → Keeps [] old old
  keeps_none old = record {
    device = refl;
    limit = refl;
    bounds = refl;
    here = λ f is fit. is;
    fitting = λ f is. (f.page.slots, refl, is);
    dirt = λ k. refl;
    others = λ k apart. refl;
    pages = λ front disk holds. (holds, pages_stay (geometry_of old).version (frame_at old) (frame_at old) disk (λ k. refl));
  }

  -- a claim more
  pub keeps_one : (kept : List (ℕ × ℕ)) (slot bytes : ℕ) (old mid new : Heap D G) → Keeps kept old mid
      → device_of new ≡ device_of mid → limit_of new ≡ limit_of mid → bounds_of new ≡ bounds_of mid
      → ((f : Frame) → frame_of mid id ≡ Some f → slot < length f.page.slots → Fits (geometry_of mid).version f.page.slots slot bytes → frame_of new id ≡ Some (reclaimed (raised bytes) slot f))
      → ((f : Frame) → frame_of mid id ≡ Some f → (CanKeep (geometry_of mid).version f.page.slots slot bytes × (frame_of new id ≡ Some (reclaimed (raised bytes) slot f))) ⊎ ((CanKeep (geometry_of mid).version f.page.slots slot bytes → ⊥) × (frame_of new id ≡ Some f)))
      → ((k : ℕ) → option_map (λ f. f.recovery) (frame_at new k) ≡ option_map (λ f. f.recovery) (frame_at mid k)) → ((k : ℕ) → k ≢ page_number (geometry_of mid) id → frame_at new k ≡ frame_at mid k)
      → ((front : List ℕ) (disk : ℕ → List ℕ) → PoolHolds mid.pool front disk → PoolHolds new.pool front disk × SamePages (geometry_of mid).version (frame_at mid) disk (frame_at new) disk)
      → Keeps ((slot, bytes) ∷ kept) old new
  keeps_one kept slot bytes old mid new keeps device limit bounds here_mid either_mid dirt others pages_mid =
      let same : geometry_of mid ≡ geometry_of old = ap (λ d. settled_device.geometry_of d) keeps.device in
      let here = subst (λ (g : Geometry). (f : Frame) → frame_of mid id ≡ Some f → slot < length f.page.slots → Fits g.version f.page.slots slot bytes → frame_of new id ≡ Some (reclaimed (raised bytes) slot f)) same here_mid in
      let either = subst (λ (g : Geometry). (f : Frame) → frame_of mid id ≡ Some f → (CanKeep g.version f.page.slots slot bytes × (frame_of new id ≡ Some (reclaimed (raised bytes) slot f))) ⊎ ((CanKeep g.version f.page.slots slot bytes → ⊥) × (frame_of new id ≡ Some f))) same either_mid in
      let pages = subst (λ (g : Geometry). (front : List ℕ) (disk : ℕ → List ℕ) → PoolHolds mid.pool front disk → PoolHolds new.pool front disk × SamePages g.version (frame_at mid) disk (frame_at new) disk) same pages_mid in
      record {
        device = device ∙ keeps.device;
        limit = limit ∙ keeps.limit;
        bounds = bounds ∙ keeps.bounds;
        here = λ f is fit. here (claimed_frame kept f) (keeps.here f is fit.2) fit.0 fit.1;
        fitting = λ f is.
            let so_far = keeps.fitting f is in
            elim (either (with_page_slots so_far.0 f) so_far.2) [
              | inl now ↦ (with_change (raised bytes) so_far.0 slot, (so_far.0, so_far.1, inl (now.0, refl)), now.1)
              | inr now ↦ (so_far.0, (so_far.0, so_far.1, inr (now.0, refl)), now.1)
            ];
        dirt = λ k. dirt k ∙ keeps.dirt k;
        others = λ k apart. others k (λ same. apart (same ∙ ap (λ d. page_number (settled_device.geometry_of d) id) keeps.device)) ∙ keeps.others k apart;
        pages = λ front disk holds.
            let one = keeps.pages front disk holds in
            let two = pages front disk one.0 in
            (two.0, pages_on (geometry_of old).version (frame_at old) (frame_at mid) (frame_at new) disk disk disk one.1 two.1);
      }

-- what a place of a chain tells goes from what is left to what is done
pub told_on : (all older from done : List (ℕ × ℕ)) (claim : Option (ℕ × ℕ)) → from ≡ older ++ option_to_list claim → from ++ done ≡ all → older ++ (option_to_list claim ++ done) ≡ all
told_on all older from done claim place so_far = sym (append_assoc older (option_to_list claim) done) ∙ ap (λ (l : List (ℕ × ℕ)). l ++ done) (sym place) ∙ so_far
