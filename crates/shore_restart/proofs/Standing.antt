-- What a heap that stands for a store has, and what keeps it so.
use Rattle.std.proofs.Common.{◌≡◌, ◌≤◌, ℕ, List, [], Option, Some, None, inl, inr, refl, sym, ap, subst, ◌∙◌, length, arith}
use Rattle.std.specs.Prelude.{IsSomeAnd, Result, map}
use Rattle.shore_types.specs.declared.ids.PageId.{PageId}
use Rattle.shore_types.specs.declared.layout.Geometry.{Geometry}
use Rattle.shore_disk.specs.Device.{LeavesOnly, may_leave}
use Rattle.shore_disk.specs.declared.device.Disk.{Ghosts}
use Rattle.shore_disk.proofs.Moments.{at_end, widened}
use Rattle.shore_page.specs.Slots.{Slot, settled}
use Rattle.shore_page.specs.Text.{images_of}
use Rattle.shore_pool.specs.declared.frame.Frame.{Frame}
use Rattle.shore_pool.specs.Pools.{NeedsForce}
use Rattle.shore_heap.specs.declared.heap.Heap.{Heap}
use Rattle.shore_heap.specs.Contents.{AreKept, unclaimed}
use Rattle.shore_heap.specs.Heaps.{KeepsSlots, LeavesPages, frame_at, frame_of, geometry_of, history_of, pool_of}
use Rattle.laws_lives.specs.Recovery.{IsRecoverable, RecoveryState}
use Rattle.laws_lives.proofs.Redo.{own_number}
use Rattle.laws_heaps.specs.LoggedHeaps.{IsStoreOf}
use Rattle.laws_heaps.proofs.Flushes.{left_amid, work_of}
use Rattle.laws_heaps.proofs.LoggedLeft.{left_settled}
use Rattle.laws_heaps.proofs.SettledSlots.{frame_number, settled_kept, shows_only}
use Rattle.laws_heaps.proofs.StaySettled.{settled_shown}
use Rattle.shore_restart.specs.declared.errors.RestartError.{RestartError}
use Rattle.laws_images.specs.Moments.{ShowsLeft}
use Rattle.shore_restart.specs.Standing.{Fetches, Notes, SameInPlace, Stands, Worked}
use Rattle.shore_restart.proofs.Noting.{pages_noted}
use Rattle.shore_restart.proofs.Paths.{work_kept, works_lose_none}

-- no page has a number above the log's last
pub in_place_low : (s : RecoveryState) → IsRecoverable s → (p : PageId) → (s.in_place p).number ≤ length s.log
in_place_low s kept p = (own_number s.log p s.redone (s.in_place p) (kept.in_place p)).within

module _ {V : Type 0} {H : Ghosts V} where
  -- each page may leave its frame
  pub stands_kept : (front : List ℕ) (disk : ℕ → List ℕ) (heap : Heap V H) (s : RecoveryState) → (stands : Stands front disk heap s) → AreKept (geometry_of heap) unclaimed stands.slots
  stands_kept front disk heap s stands p has =
      subst (λ (slots : List Slot). (slots ≡ map settled (images_of slots)) × Unit {0})
      (sym (shows_only heap disk s stands.store stands.settled front stands.slots stands.shows p has)) (settled_kept heap disk s stands.store p has)

  -- what a crash leaves between two calls
  pub stands_left : (front : List ℕ) (disk : ℕ → List ℕ) (heap : Heap V H) (s : RecoveryState) → Stands front disk heap s
      → (c : List ℕ) → may_leave (history_of heap) c → ShowsLeft (geometry_of heap) front s c
  stands_left front disk heap s stands c left = (s.volume, λ p. inl refl, left_settled heap front disk s c stands.store stands.shows.holds left)

  -- so a force of all leaves none that needs one
  pub force_within : (disk : ℕ → List ℕ) (heap : Heap V H) (s : RecoveryState) (durable n : ℕ) → IsStoreOf heap disk s → IsRecoverable s → NeedsForce (pool_of heap) durable n → n ≤ length s.log
  force_within disk heap s durable n store recoverable needs = at (frame_at heap needs.one.0) refl needs.one.1
    where
      at : (o : Option Frame) → frame_at heap needs.one.0 ≡ o → IsSomeAnd o (λ f. f.page.number ≡ n) → n ≤ length s.log
      at None is none = absurd none
      at (Some f) is number =
          let order = heap.pool.in_order needs.one.0 f is in
          let here : frame_of heap f.page.id ≡ Some f = ap (frame_at heap) order.1 ∙ is in
          let same = frame_number heap disk s f.page.id f store order.0 here in
          omega (arith, number, same, in_place_low s recoverable f.page.id)

  -- .. over the same pages
  pub left_by : (front : List ℕ) (disk : ℕ → List ℕ) (old new : Heap V H) (s : RecoveryState) → geometry_of new ≡ geometry_of old → Stands front disk new s
      → (c : List ℕ) → may_leave (history_of new) c → ShowsLeft (geometry_of old) front s c
  left_by front disk old new s same stands c left = subst (λ (g : Geometry). ShowsLeft g front s c) same (stands_left front disk new s stands c left)

  leaves_pages : (front : List ℕ) (disk : ℕ → List ℕ) (old new : Heap V H) (s : RecoveryState) (durable : ℕ) → Stands front disk old s → durable ≤ s.durable
      → LeavesOnly (history_of old) (history_of new) (LeavesPages old durable front disk) → LeavesOnly (history_of old) (history_of new) (ShowsLeft (geometry_of old) front s)
  leaves_pages front disk old new s durable stands low leaves =
      widened (history_of old) (history_of new) (LeavesPages old durable front disk) (ShowsLeft (geometry_of old) front s) leaves (λ c shown. left_amid old durable front disk s c stands.store shown low)

  -- Pages were written back at most, which is work of the store.
  pub stays : (front : List ℕ) (disk : ℕ → List ℕ) (old new : Heap V H) (s : RecoveryState) (durable : ℕ) → (stands : Stands front disk old s) → durable ≤ s.durable
      → geometry_of new ≡ geometry_of old → KeepsSlots unclaimed old new durable front disk stands.slots
      → LeavesOnly (history_of old) (history_of new) (LeavesPages old durable front disk)
      → (later : RecoveryState) × Worked front old new s later × SameInPlace s later × ((left : ℕ → List ℕ) × Stands front left new later × Notes old new s later)
  stays front disk old new s durable stands low same kept leaves =
      let work = work_of old new durable disk kept.0 s stands.store kept.2 low same in
      let now : Stands front kept.0 new work.1 = record {
        store = work.4;
        settled = settled_shown new front kept.0 stands.slots kept.1 (subst (λ (g : Geometry). AreKept g unclaimed stands.slots) (sym same) (stands_kept front disk old s stands));
        recoverable = work_kept s work.0 work.1 stands.recoverable work.3;
        slots = stands.slots;
        shows = kept.1;
      } in
      let like : SameInPlace s work.1 = record { log = work.5; durable = work.6; redone = work.7; in_place = work.8 } in (
        work.1,
        record { works = work.0; work = work.3; loses_none = works_lose_none s work.0 work.1 work.2; volume = leaves_pages front disk old new s durable stands low leaves; left = left_by front kept.0 old new work.1 same now },
        like,
        (kept.0, now, pages_noted old new durable front disk kept.0 s work.1 stands.store stands.recoverable kept.1.holds kept.2 low same work.4 like),
      )

  -- nothing is known of what the call left, but what a crash leaves
  pub stops : (front : List ℕ) (disk : ℕ → List ℕ) (old new : Heap V H) (s : RecoveryState) (durable : ℕ) → Stands front disk old s → durable ≤ s.durable
      → LeavesOnly (history_of old) (history_of new) (LeavesPages old durable front disk) → Worked front old new s s
  stops front disk old new s durable stands low leaves =
      let volume = leaves_pages front disk old new s durable stands low leaves in
      record { works = []; work = refl; loses_none = tt; volume = volume; left = at_end (history_of old) (history_of new) (ShowsLeft (geometry_of old) front s) volume }

  pub fetched : (front : List ℕ) (disk : ℕ → List ℕ) (old new : Heap V H) (s : RecoveryState) (durable : ℕ) (result : Result (Unit {0}) RestartError) → (stands : Stands front disk old s)
      → durable ≤ s.durable → geometry_of new ≡ geometry_of old → KeepsSlots unclaimed old new durable front disk stands.slots
      → LeavesOnly (history_of old) (history_of new) (LeavesPages old durable front disk) → Fetches result front old new s
  fetched front disk old new s durable result stands low same kept leaves =
      let t = stays front disk old new s durable stands low same kept leaves in
      record { later = t.0; work = t.1; same = t.2; stands = inr t.3 }
