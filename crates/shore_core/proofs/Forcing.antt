-- That a call which asks for a force needs it: what it asks for is in the log and not durable.
use Rattle.laws_checkpoints.specs.CheckpointedStores.{CheckpointedStore}
use Rattle.std.proofs.Common.{◌≡◌, ◌⊎◌, ◌≤◌, ◌∙◌, inl, inr, ℕ, List, Option, None, Some, IsSomeAnd, Result, Ok, Err, IfErr, IsErrAnd, MatchResult, OnOk, refl, sym, ap, subst, length, arith}
use Rattle.shore_types.specs.declared.faults.Device.TheVariants.{Volume}
use Rattle.shore_types.specs.declared.faults.Fault.{Fault}
use Rattle.shore_types.specs.declared.faults.Fault.TheVariants as fault
use Rattle.shore_types.specs.declared.ids.PageId.{PageId}
use Rattle.shore_types.specs.declared.layout.Geometry.{Geometry}
use Rattle.shore_disk.specs.declared.device.Disk as disk
use Rattle.shore_dwrite.specs.Volumes.{HasNoPage, page_number, page_offset}
use Rattle.shore_heap.specs.declared.heap.Heap.{Heap}
use Rattle.shore_heap.specs.Heaps.{AsksForForce, WroteBack, frame_at, geometry_of}
use Rattle.shore_heap.specs.Places.{IsRefusedAmong}
use Rattle.shore_pool.specs.Pools as pools
use Rattle.shore_pool.specs.Pools.{PoolHolds, NeedsForce}
use Rattle.shore_pool.specs.declared.pool.Pool.{Pool}
use Rattle.shore_pool.specs.declared.frame.Frame.{Frame}
use Rattle.laws_calls.specs.StateChanges.{IsPageFault}
use Rattle.laws_calls.specs.States.{State}
use Rattle.shore_core.specs.Cores.{IsKept}
use Rattle.shore_core.specs.Stores.{IsHeapOf}
use Rattle.shore_pool.specs.Pages.{IsPage}

module _ {V : Type 0} {H : disk.Ghosts V} (heap : Heap V H) (s : State) (store : CheckpointedStore) (disk : ℕ → List ℕ) (kept : IsKept s store) (over : IsHeapOf heap disk store) where
  -- the number of a page in a frame is in the log
  number_logged : (k : ℕ) (f : Frame) → frame_at heap k ≡ Some f → f.page.number ≤ length s.log
  number_logged k f is =
      let order = heap.pool.in_order k f is in
      let here = over.pages.in_place f.page.id order.0 in
      let at : frame_at heap (page_number (geometry_of heap) f.page.id) ≡ Some f = ap (frame_at heap) order.1 ∙ is in
      let n : f.page.number ≡ (store.store.in_place f.page.id).number = (subst (λ o. IsPage (geometry_of heap).version o (disk (page_number (geometry_of heap) f.page.id)) f.page.id (store.store.in_place f.page.id).number here.images) at here.here).1 in
      let within = ((kept.recoverable.in_place f.page.id).each (store.store.in_place f.page.id).number (omega arith) (omega arith)).within in
      omega (arith, n, within, ap length kept.stored.log)

  some_logged : (k number : ℕ) (o : Option Frame) → frame_at heap k ≡ o → IsSomeAnd o (λ f. f.page.number ≡ number) → number ≤ length s.log
  some_logged k number (Some f) is same = omega (arith, same, number_logged k f is)
  some_logged k number None is same = absurd same

  force_logged : (seen number : ℕ) → seen ≡ s.durable → NeedsForce heap.pool seen number → IsPageFault s (fault.NeedForce number)
  force_logged seen number told needs = inr (inr (number, refl, omega (arith, told, needs.above), some_logged needs.one.0 number (frame_at heap needs.one.0) refl needs.one.1))

  -- what refuses the fetch of a page
  pub page_fault : (seen last : ℕ) (id : PageId) (f : Fault) → seen ≡ s.durable
      → (f ≡ fault.Device) ⊎ (f ≡ fault.Memory) ⊎ ((f ≡ fault.Damaged Volume (page_offset (geometry_of heap).version (page_number (geometry_of heap) id))) × HasNoPage (geometry_of heap).version (disk (page_number (geometry_of heap) id)) id last)
      ⊎ AsksForForce heap seen f → (f ≡ fault.Memory) ⊎ IsPageFault s f
  page_fault seen last id f told (inl device) = inr (inl device)
  page_fault seen last id f told (inr (inl memory)) = inl memory
  page_fault seen last id f told (inr (inr (inl damaged))) = inr (inr (inl (_, damaged.0)))
  page_fault seen last id f told (inr (inr (inr force))) = inr (subst (IsPageFault s) (sym force.1) (force_logged seen force.0 told force.2))

  -- .. and that of a store's pages
  pub store_fault : (seen last : ℕ) (IsFetched : PageId → Type 0) (f : Fault) → seen ≡ s.durable → IsRefusedAmong (geometry_of heap) disk IsFetched last f ⊎ AsksForForce heap seen f → (f ≡ fault.Memory) ⊎ IsPageFault s f
  store_fault seen last IsFetched f told (inl (inl device)) = inr (inl device)
  store_fault seen last IsFetched f told (inl (inr (inl memory))) = inl memory
  store_fault seen last IsFetched f told (inl (inr (inr damaged))) = inr (inr (inl (_, damaged.3)))
  store_fault seen last IsFetched f told (inr force) = inr (subst (IsPageFault s) (sym force.1) (force_logged seen force.0 told force.2))

module _ {V : Type 0} {H : disk.Ghosts V} (heap : Heap V H) (seen : ℕ) where
  asked : (n number : ℕ) → fault.NeedForce n ≡ fault.NeedForce number → NeedsForce heap.pool seen n → NeedsForce heap.pool seen number
  asked n number same needs = subst (NeedsForce heap.pool seen) (one n number same) needs
    where
      one : (n number : ℕ) → fault.NeedForce n ≡ fault.NeedForce number → n ≡ number
      one n number same = cc

  -- a force is asked for only if it is needed
  pub page_force : (A : Type 0) (f : Fault) → (f ≡ fault.Device) ⊎ (f ≡ fault.Memory) ⊎ ((d : ℕ) × (f ≡ fault.Damaged Volume d) × A) ⊎ AsksForForce heap seen f
      → (number : ℕ) → f ≡ fault.NeedForce number → NeedsForce heap.pool seen number
  page_force A f (inl device) number is = absurd (clash (sym device ∙ is))
    where
      clash : fault.Device ≡ fault.NeedForce number → ⊥
      clash e = cc
  page_force A f (inr (inl memory)) number is = absurd (clash (sym memory ∙ is))
    where
      clash : fault.Memory ≡ fault.NeedForce number → ⊥
      clash e = cc
  page_force A f (inr (inr (inl damaged))) number is = absurd (clash (sym damaged.1 ∙ is))
    where
      clash : fault.Damaged Volume damaged.0 ≡ fault.NeedForce number → ⊥
      clash e = cc
  page_force A f (inr (inr (inr force))) number is = asked force.0 number (sym force.1 ∙ is) force.2

  pub fetch_force : (g : Geometry) (disk : ℕ → List ℕ) (last : ℕ) (id : PageId) (f : Fault)
      → (f ≡ fault.Device) ⊎ (f ≡ fault.Memory) ⊎ ((f ≡ fault.Damaged Volume (page_offset (geometry_of heap).version (page_number g id))) × HasNoPage (geometry_of heap).version (disk (page_number g id)) id last) ⊎ AsksForForce heap seen f
      → (number : ℕ) → f ≡ fault.NeedForce number → NeedsForce heap.pool seen number
  fetch_force g disk last id f (inl device) = page_force (Unit {0}) f (inl device)
  fetch_force g disk last id f (inr (inl memory)) = page_force (Unit {0}) f (inr (inl memory))
  fetch_force g disk last id f (inr (inr (inl damaged))) = page_force (Unit {0}) f (inr (inr (inl (_, damaged.0, tt))))
  fetch_force g disk last id f (inr (inr (inr force))) = page_force (Unit {0}) f (inr (inr (inr force)))

  pub store_force : (g : Geometry) (disk : ℕ → List ℕ) (last : ℕ) (IsFetched : PageId → Type 0) (f : Fault) → IsRefusedAmong g disk IsFetched last f ⊎ AsksForForce heap seen f
      → (number : ℕ) → f ≡ fault.NeedForce number → NeedsForce heap.pool seen number
  store_force g disk last IsFetched f (inl (inl device)) = page_force (Unit {0}) f (inl device)
  store_force g disk last IsFetched f (inl (inr (inl memory))) = page_force (Unit {0}) f (inr (inl memory))
  store_force g disk last IsFetched f (inl (inr (inr damaged))) = page_force (Unit {0}) f (inr (inr (inl (_, damaged.3, tt))))
  store_force g disk last IsFetched f (inr force) = page_force (Unit {0}) f (inr (inr (inr force)))

-- a fault that is handed on asks for the same
pub forced_as : {A : Type 0} (P : ℕ → Type 0) (r : Result A Fault) (f : Fault) → IsErrAnd r (λ e. e ≡ f) → ((number : ℕ) → f ≡ fault.NeedForce number → P number)
    → IfErr r (λ e. (number : ℕ) → e ≡ fault.NeedForce number → P number)
forced_as P (Err e) f same needs = λ number is. needs number (sym same ∙ is)
forced_as P (Ok x) f same needs = tt

-- ---- where nothing has moved

pub both_err : {A : Type 0} (P Q R : Fault → Type 0) (r : Result A Fault) → ((f : Fault) → P f → Q f → R f) → IfErr r P → IfErr r Q → IfErr r R
both_err P Q R (Ok x) each one two = tt
both_err P Q R (Err f) each one two = each f one two

module _ {V : Type 0} {H : disk.Ghosts V} where
  -- a force that is needed is needed over the same frames
  pub force_still : (old new : Pool V H) (seen number : ℕ) → ((k : ℕ) → pools.frame_at new k ≡ pools.frame_at old k) → NeedsForce old seen number → NeedsForce new seen number
  force_still old new seen number same needs = record {
    above = needs.above;
    one = (needs.one.0, subst (λ o. IsSomeAnd o (λ f. f.page.number ≡ number)) (sym (same needs.one.0)) needs.one.1);
    all = λ k f is. needs.all k f (sym (same k) ∙ is);
  }

  -- pages that were written back by a call that was not refused
  pub wrote_ok : {A : Type 0} (old new : Heap V H) (seen : ℕ) (r : Result A Fault)
      → ((front : List ℕ) (disk : ℕ → List ℕ) → PoolHolds old.pool front disk
      → MatchResult r (λ done. WroteBack old new seen front disk) (λ f. (f ≡ fault.Device) ⊎ WroteBack old new seen front disk))
      → OnOk r ((front : List ℕ) (disk : ℕ → List ℕ) → PoolHolds old.pool front disk → WroteBack old new seen front disk)
  wrote_ok old new seen (Ok x) wrote = wrote
  wrote_ok old new seen (Err f) wrote = tt
