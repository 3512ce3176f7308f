-- What a fetch leaves of a heap, by what it leaves of its pool.
use Rattle.std.proofs.Common.{◌≡◌, ◌≢◌, ◌⊎◌, ℕ, List, Option, Some, None, IsSomeAnd, map, option_map, refl, sym, ap, subst, ◌∙◌, inl, inr}
use Rattle.std.proofs.lemmas.Bool.{cases_eq}
use Rattle.shore_disk.specs.Device.{DeviceHistory, LeavesOnly}
use Rattle.shore_disk.specs.declared.device.Disk.{Ghosts}
use Rattle.shore_disk.proofs.Moments.{widened}
use Rattle.shore_types.specs.declared.ids.PageId.{PageId}
use Rattle.shore_types.specs.declared.layout.Geometry.{Geometry}
use Rattle.shore_types.specs.Layout.{HasPage}
use Rattle.shore_types.specs.declared.versions.Version.{Version}
use Rattle.shore_dwrite.specs.Settled as settled_device
use Rattle.shore_dwrite.specs.declared.device.PageDev.{PageDev}
use Rattle.shore_dwrite.specs.Volumes.{page_number}
use Rattle.shore_page.specs.Slots.{PageState, Slot, settled}
use Rattle.shore_page.specs.Text.{images_of}
use Rattle.shore_pool.specs.declared.frame.Frame.{Frame}
use Rattle.shore_pool.specs.declared.pool.Pool.{Pool}
use Rattle.shore_pool.specs.Changes as changes
use Rattle.shore_pool.specs.Pages.{SamePages, WereDirty}
use Rattle.shore_pool.specs.Pools as pools
use Rattle.shore_pool.specs.Pools.{PoolHolds, NeedsForce}
use Rattle.shore_pool.proofs.Same.{pages_on}
use Rattle.shore_pool.proofs.Unwritten.{none_written, unwritten_on, were_but}
use Rattle.shore_heap.specs.declared.heap.Heap.{Heap}
use Rattle.shore_heap.specs.Contents.{AreBounds, AreKept, FitIn, KeepWhatFits, ClaimsOfPages, claimed_frame, with_page_slots}
use Rattle.shore_heap.specs.Heaps.{IsFreshFrame, KeepsSlots, LeavesPages, Shows, StayInPlace, WroteBack, bounds_of, faults_of, frame_at, frame_of, geometry_of, history_of, honesty_of}
use Rattle.shore_heap.proofs.Claimed.{images_kept}
use Rattle.shore_heap.proofs.Frames.{Came, IsRead, have_fetched}
use Rattle.shore_heap.proofs.Going.{may_be}
use Rattle.shore_heap.proofs.Showing.{shows_by}

-- ---- by the clauses of the calls

module _ {D : Type 0} {G : Ghosts D} (new : Heap D G) (mid : Pool D G) (device : pools.device_of new.pool ≡ pools.device_of mid) where
  pub geometry_by : geometry_of new ≡ pools.geometry_of mid
  geometry_by = ap settled_device.geometry_of device

  pub history_by : history_of new ≡ pools.history_of mid
  history_by = ap (λ (d : PageDev D G). G.history (settled_device.device_of d)) device

  pub honest_by : honesty_of new ≡ pools.honesty_of mid
  honest_by = ap (λ (d : PageDev D G). G.is_honest (settled_device.device_of d)) device

  pub faults_by : faults_of new ≡ pools.faults_of mid
  faults_by = ap (λ (d : PageDev D G). G.faults (settled_device.device_of d)) device

pub number_is : {D : Type 0} {G : Ghosts D} {g : Geometry} (mid : Pool D G) (id : PageId) → pools.geometry_of mid ≡ g → page_number (pools.geometry_of mid) id ≡ page_number g id
number_is mid id geometry = ap (λ (it : Geometry). page_number it id) geometry

module _ (v : Version) {D : Type 0} {G : Ghosts D} (old : Heap D G) (mid : Pool D G) (id : PageId) (last : ℕ) (number : page_number (pools.geometry_of mid) id ≡ page_number (geometry_of old) id)
    (read : (frame_of old id ≡ None) × IsSomeAnd (pools.frame_of mid id) (IsRead v id last)) where
  read_at : IsSomeAnd (pools.frame_at mid (page_number (geometry_of old) id)) (IsRead v id last)
  read_at = subst (λ (k : ℕ). IsSomeAnd (pools.frame_at mid k) (IsRead v id last)) number read.1

  pub clean_by : IsSomeAnd (pools.frame_at mid (page_number (geometry_of old) id)) (λ f. f.recovery ≡ None)
  clean_by = each (pools.frame_at mid (page_number (geometry_of old) id)) read_at
    where
      each : (o : Option Frame) → IsSomeAnd o (IsRead v id last) → IsSomeAnd o (λ f. f.recovery ≡ None)
      each None is = is
      each (Some f) is = is.2

-- the page is there as it was read
pub as_read : (v : Version) (id : PageId) (last : ℕ) (kept : List (ℕ × ℕ)) (o now : Option Frame) → IsSomeAnd o (IsRead v id last)
    → ((f : Frame) → o ≡ Some f → (slots : List Slot) × KeepWhatFits v kept f.page.slots slots × (now ≡ Some (with_page_slots slots f))) → IsSomeAnd now (IsFreshFrame kept last)
as_read v id last kept None now read fitting = absurd read
as_read v id last kept (Some f) now read fitting =
    let (slots, keeps, is) = fitting f refl in
    let bare : f.page.slots ≡ map settled (images_of slots) = ap (λ (p : PageState). p.slots) read.0 ∙ ap (map settled) (sym (images_kept v kept f.page.slots slots keeps)) in
    subst (λ (o : Option Frame). IsSomeAnd o (IsFreshFrame kept last)) (sym is) (record { clean = read.2; number = read.1; slots = subst (λ (w : Version). KeepWhatFits w kept (map settled (images_of slots)) slots) (sym (ap (λ (p : PageState). p.version) read.0)) (subst (λ (l : List Slot). KeepWhatFits v kept l slots) bare keeps) })

pub came_by : (v : Version) → {D : Type 0} {G : Ghosts D} (old : Heap D G) (mid : Pool D G) (new : Heap D G) (id : PageId) (K : ClaimsOfPages) (last : ℕ) (number : page_number (pools.geometry_of mid) id ≡ page_number (geometry_of old) id)
    → (frame_of old id ≡ None) × IsSomeAnd (pools.frame_of mid id) (IsRead v id last) → ((f : Frame) → pools.frame_of mid id ≡ Some f → FitIn v (K id) f.page.slots → frame_of new id ≡ Some (claimed_frame (K id) f))
    → geometry_of new ≡ pools.geometry_of mid → Came v (frame_at old) (pools.frame_at mid) (frame_at new) (page_number (geometry_of old) id) id (K id) last
came_by v old mid new id K last number read here geometry = record {
  none = read.0;
  read = read_at v old mid id last number read;
  then_kept = λ f is fit. ap (frame_at new) (sym number ∙ ap (λ (g : Geometry). page_number g id) (sym geometry)) ∙ here f (ap (pools.frame_at mid) number ∙ is) fit;
}

pub others_by : {D : Type 0} {G : Ghosts D} (old : Heap D G) (mid : Pool D G) (new : Heap D G) (id : PageId) (number : page_number (pools.geometry_of mid) id ≡ page_number (geometry_of old) id)
    → ((k : ℕ) → k ≢ page_number (geometry_of old) id → pools.StaysOrGoes (frame_at old k) (pools.frame_at mid k)) → ((k : ℕ) → k ≢ page_number (pools.geometry_of mid) id → frame_at new k ≡ pools.frame_at mid k)
    → (k : ℕ) → k ≢ page_number (geometry_of old) id → pools.StaysOrGoes (frame_at old k) (frame_at new k)
others_by old mid new id number first second k apart =
    let same = second k (λ is. apart (is ∙ number)) in
    elim (first k apart) [ inl stays ↦ inl (same ∙ stays) | inr (inl clean) ↦ inr (inl (same ∙ clean)) | inr (inr gone) ↦ inr (inr (same ∙ gone)) ]

-- a frame with a change that the volume does not have was there before
pub there_before : (was now : Option Frame) (f : Frame) → pools.StaysOrGoes was now → now ≡ Some f → f.recovery ≢ None → was ≡ Some f
there_before was now f (inl stays) is dirty = sym stays ∙ is
there_before was now f (inr (inl clean)) is dirty = absurd (dirty (each was (sym is ∙ clean)))
  where
    each : (o : Option Frame) → Some f ≡ option_map changes.settled o → f.recovery ≡ None
    each None same = cc
    each (Some e) same = let it : f ≡ changes.settled e = cc in ap (λ (f : Frame). f.recovery) it
there_before was now f (inr (inr gone)) is dirty = let clash : None ≡ Some f = sym gone ∙ is in absurd cc

-- the page that came is clean, and what is dirty in another frame was so before
pub were_kept : (v : Version) → {D : Type 0} {G : Ghosts D} (old : Heap D G) (mid : Pool D G) (new : Heap D G) (id : PageId) → page_number (pools.geometry_of mid) id ≡ page_number (geometry_of old) id
    → ((k : ℕ) → k ≢ page_number (pools.geometry_of mid) id → frame_at new k ≡ pools.frame_at mid k) → IsSomeAnd (pools.frame_at mid (page_number (geometry_of old) id)) (λ f. f.recovery ≡ None)
    → option_map (λ f. f.recovery) (frame_at new (page_number (geometry_of old) id)) ≡ option_map (λ f. f.recovery) (pools.frame_at mid (page_number (geometry_of old) id)) → WereDirty (pools.frame_at mid) (frame_at new)
were_kept v old mid new id number others clean dirt =
    let n = page_number (geometry_of old) id in
    were_but v (pools.frame_at mid) (frame_at new) n (λ k apart. others k (λ is. apart (is ∙ number))) (λ f is. each f (pools.frame_at mid n) (frame_at new n) is clean dirt)
  where
    each : (f : Frame) (o e : Option Frame) → e ≡ Some f → IsSomeAnd o (λ f. f.recovery ≡ None) → option_map (λ f. f.recovery) e ≡ option_map (λ f. f.recovery) o → f.recovery ≡ None
    each f None e is clean dirt = absurd clean
    each f (Some g) None is clean dirt = cc
    each f (Some g) (Some e) is clean dirt = let same : e.recovery ≡ g.recovery = cc in let it : e ≡ f = cc in ap (λ (f : Frame). f.recovery) (sym it) ∙ same ∙ clean

-- ---- a call

module _ {D : Type 0} {G : Ghosts D} (old : Heap D G) (mid : Pool D G) (durable : ℕ) where
  stay_of : (new : Heap D G) (front : List ℕ) (disk : ℕ → List ℕ) (w : pools.WroteBack old.pool mid durable front disk) → SamePages (geometry_of old).version (pools.frame_at mid) w.left (frame_at new) w.left → WereDirty (pools.frame_at mid) (frame_at new)
      → StayInPlace old new durable disk w.left
  stay_of new front disk w more were = record {
    may = may_be (geometry_of old) (frame_at old) durable disk old.pool.in_order w.left w.may;
    same = pages_on (geometry_of old).version (frame_at old) (pools.frame_at mid) (frame_at new) disk w.left w.left w.same more;
    unwritten = unwritten_on (frame_at old) (pools.frame_at mid) (frame_at new) disk w.left w.left w.unwritten (none_written (geometry_of old).version (pools.frame_at mid) (frame_at new) w.left were);
  }

  -- the volume, and what is in place
  pub wrote_of : (new : Heap D G) (front : List ℕ) (disk : ℕ → List ℕ) (w : pools.WroteBack old.pool mid durable front disk) → PoolHolds new.pool front w.left × SamePages (geometry_of old).version (pools.frame_at mid) w.left (frame_at new) w.left
      → WereDirty (pools.frame_at mid) (frame_at new) → WroteBack old new durable front disk
  wrote_of new front disk w more were = (w.left, more.0, stay_of new front disk w more.1 were)

  pub moment_of : (later : DeviceHistory) (front : List ℕ) (disk : ℕ → List ℕ) → LeavesOnly (history_of old) later (pools.LeavesPages old.pool durable front disk) → LeavesOnly (history_of old) later (LeavesPages old durable front disk)
  moment_of later front disk leaves = widened (history_of old) later (pools.LeavesPages old.pool durable front disk) (LeavesPages old durable front disk) leaves
      (λ image l. (l.0, l.1, may_be (geometry_of old) (frame_at old) durable disk old.pool.in_order l.0 l.2))

  module _ (id : PageId) (K : ClaimsOfPages) (last : ℕ) (there : HasPage (geometry_of old) id) (new : Heap D G) (geometry : geometry_of new ≡ geometry_of old) (bounds : bounds_of new ≡ bounds_of old) where
    n : ℕ
    n = page_number (geometry_of old) id

    bounds_stay : (S : PageId → List Slot) → AreBounds (geometry_of old) old.free.items S → AreBounds (geometry_of old) new.free.items S
    bounds_stay S are = subst (λ (free : List (List ℕ)). AreBounds (geometry_of old) free S) (sym bounds) are

    -- .. and the slots
    pub kept_of : ((k : ℕ) → k ≢ page_number (geometry_of old) id → pools.StaysOrGoes (frame_at old k) (frame_at new k))
        → pools.StaysOrGoes (frame_at old (page_number (geometry_of old) id)) (frame_at new (page_number (geometry_of old) id)) ⊎ Came (geometry_of old).version (frame_at old) (pools.frame_at mid) (frame_at new) (page_number (geometry_of old) id) id (K id) last
        → (front : List ℕ) (disk : ℕ → List ℕ) (S : PageId → List Slot) → Shows K old front disk S → AreKept (geometry_of old) K S
        → (w : pools.WroteBack old.pool mid durable front disk) → PoolHolds new.pool front w.left × SamePages (geometry_of old).version (pools.frame_at mid) w.left (frame_at new) w.left → WereDirty (pools.frame_at mid) (frame_at new)
        → KeepsSlots K old new durable front disk S
    kept_of others come front disk S shows are w more were =
        let stay = stay_of new front disk w more.1 were in
        let have = have_fetched (geometry_of old) (frame_at old) (frame_at new) disk w.left K S old.pool.in_order stay.same shows.pages are (pools.frame_at mid) id last there w.same others come in
        (w.left, shows_by new.pool new (geometry_of old) K front w.left S refl geometry more.0 have (bounds_stay S shows.bounds), stay)

    -- a frame that came clean may go again
    pub forced_of : IsSomeAnd (pools.frame_at mid (page_number (geometry_of old) id)) (λ f. f.recovery ≡ None)
        → option_map (λ f. f.recovery) (frame_at new (page_number (geometry_of old) id)) ≡ option_map (λ f. f.recovery) (pools.frame_at mid (page_number (geometry_of old) id)) → (number : ℕ) → NeedsForce new.pool durable number → ⊥
    forced_of clean dirt number needs = each (pools.frame_at mid (page_number (geometry_of old) id)) (frame_at new (page_number (geometry_of old) id)) refl clean dirt
      where
        each : (o e : Option Frame) → frame_at new (page_number (geometry_of old) id) ≡ e → IsSomeAnd o (λ f. f.recovery ≡ None) → option_map (λ f. f.recovery) e ≡ option_map (λ f. f.recovery) o → ⊥
        each None e is clean dirt = clean
        each (Some f) None is clean dirt = let clash : None ≡ Some f.recovery = dirt in cc
        each (Some f) (Some e) is clean dirt = let same : e.recovery ≡ f.recovery = cc in (needs.all (page_number (geometry_of old) id) e is).0 (same ∙ clean)

    -- .. and what is dirty was in its frame before
    pub dirty_of : ((k : ℕ) → k ≢ page_number (geometry_of old) id → pools.StaysOrGoes (frame_at old k) (frame_at new k)) → IsSomeAnd (pools.frame_at mid (page_number (geometry_of old) id)) (λ f. f.recovery ≡ None)
        → option_map (λ f. f.recovery) (frame_at new (page_number (geometry_of old) id)) ≡ option_map (λ f. f.recovery) (pools.frame_at mid (page_number (geometry_of old) id))
        → (k : ℕ) (f : Frame) → frame_at new k ≡ Some f → f.recovery ≢ None → frame_at old k ≡ Some f
    dirty_of others clean dirt k f is dirty = elim (cases_eq k (page_number (geometry_of old) id)) [
      | inl same ↦ absurd (each (pools.frame_at mid (page_number (geometry_of old) id)) (frame_at new (page_number (geometry_of old) id)) (ap (frame_at new) (sym same) ∙ is) clean dirt)
      | inr apart ↦ there_before (frame_at old k) (frame_at new k) f (others k apart) is dirty
    ]
      where
        each : (o e : Option Frame) → e ≡ Some f → IsSomeAnd o (λ f. f.recovery ≡ None) → option_map (λ f. f.recovery) e ≡ option_map (λ f. f.recovery) o → ⊥
        each None e is clean dirt = clean
        each (Some g) None is clean dirt = let clash : None ≡ Some g.recovery = dirt in cc
        each (Some g) (Some e) is clean dirt = let same : e.recovery ≡ g.recovery = cc in let it : e ≡ f = cc in dirty (ap (λ (f : Frame). f.recovery) (sym it) ∙ same ∙ clean)

-- ---- the frames, whatever the pages hold

-- a frame that is there was there before
pub was_there : (was now : Option Frame) (f : Frame) → pools.StaysOrGoes was now → now ≡ Some f → (h : Frame) × (was ≡ Some h) × ((f ≡ h) ⊎ (f ≡ changes.settled h))
was_there was now f (inl stays) is = (f, sym stays ∙ is, inl refl)
was_there was now f (inr (inl clean)) is = each was refl (sym is ∙ clean)
  where
    each : (o : Option Frame) → was ≡ o → Some f ≡ option_map changes.settled o → (h : Frame) × (was ≡ Some h) × ((f ≡ h) ⊎ (f ≡ changes.settled h))
    each None at same = let clash : Some f ≡ None = same in absurd cc
    each (Some h) at same = let one : f ≡ changes.settled h = cc in (h, at, inr one)
was_there was now f (inr (inr gone)) is = let clash : None ≡ Some f = sym gone ∙ is in absurd cc
