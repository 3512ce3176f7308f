-- Steps of a rollback, one after another: what they leave of the volume and of the pages in place.
use Rattle.std.proofs.Common.{◌≡◌, ◌≢◌, ◌⊎◌, inl, inr, ◌≤◌, ◌<◌, ℕ, List, Option, None, Some, option_map, Result, Ok, Err, MatchResult, OnOk, refl, sym, ap, subst, ◌∙◌, arith}
use Rattle.std.proofs.lemmas.Bool.{cases_eq}
use Rattle.shore_disk.specs.declared.device.Disk as disk
use Rattle.shore_disk.proofs.Moments.{joined, widened}
use Rattle.shore_log.specs.declared.tail.Tail as tail
use Rattle.shore_types.specs.Images.{Image}
use Rattle.shore_types.specs.Layout.{HasPage}
use Rattle.shore_types.specs.declared.faults.Fault.{Fault}
use Rattle.shore_types.specs.declared.ids.PageId.{PageId}
use Rattle.shore_types.specs.declared.layout.Geometry.{Geometry}
use Rattle.shore_types.specs.declared.versions.Version.{Version}
use Rattle.shore_dwrite.specs.Shown.{ShowsBehind}
use Rattle.shore_dwrite.specs.Volumes.{HasNoPage, page_number}
use Rattle.shore_page.specs.Text.{IsPageText}
use Rattle.shore_pool.specs.Changes.{changed}
use Rattle.shore_pool.specs.Pages.{IsPage, SamePages}
use Rattle.shore_pool.specs.declared.frame.Frame.{Frame}
use Rattle.shore_pool.specs.Pools.{HasInPlace}
use Rattle.shore_heap.specs.declared.heap.Heap.{Heap}
use Rattle.shore_heap.specs.Heaps.{KeepsVolume, LeavesPages, MayBeLeft, frame_at, frame_of, pool_of}
use Rattle.shore_heap.proofs.Going.{none_there}
use Rattle.shore_core.specs.declared.core_calls.Core.{Core}
use Rattle.shore_core.specs.Cores.{durable_of, geometry_of, heap_of, history_of, last_of}
use Rattle.shore_core.specs.Replies.{Earns, IsEarned, MayLeave, NeedsForceIn}
use Rattle.shore_core.specs.Undoing.{IsRewound, Rewinds, WritesBack}
use Rattle.shore_core.proofs.Taking.{map_err}

-- what a call leaves over each volume when it answers Ok
pub each_ok : {A : Type 0} (r : Result A Fault) (Was Is : List ℕ → (ℕ → List ℕ) → Type 0) (Or : List ℕ → (ℕ → List ℕ) → Fault → Type 0)
    → ((front : List ℕ) (disk : ℕ → List ℕ) → Was front disk → MatchResult r (λ _. Is front disk) (Or front disk)) → OnOk r ((front : List ℕ) (disk : ℕ → List ℕ) → Was front disk → Is front disk)
each_ok (Ok x) Was Is Or each = each
each_ok (Err f) Was Is Or each = tt

-- bytes that are no text up to a number are none up to a lower one
none_below : (v : Version) (bytes : List ℕ) (id : PageId) (last later : ℕ) → last ≤ later → HasNoPage v bytes id later → HasNoPage v bytes id last
none_below v bytes id last later up_to none number images text = let above : later < number = none number images text in omega (arith, above, up_to)

module _ {T V : Type 0} {G : tail.Ghosts T} {H : disk.Ghosts V} where
  -- nothing was done
  pub rewinds_none : (core : Core T V G H) → Rewinds core core
  rewinds_none core front disk holds = record { left = disk; holds = holds; may = λ id has. inl refl; in_place = λ id has number images here. inl here }

  -- pages were written back, and all are in place as they were
  pub rewinds_read : (old new : Core T V G H) → geometry_of new ≡ geometry_of old → durable_of new ≡ durable_of old → WritesBack old new → Rewinds old new
  rewinds_read old new geometry durable wrote front disk holds =
      let w = wrote front disk holds in
      record {
        left = w.0;
        holds = w.1;
        may = w.2.may;
        in_place = λ id has number images here. inl ((w.2.same (page_number (geometry_of old) id) id number images).1
            (subst (λ (g : Geometry). IsPage g.version (frame_at (heap_of new) (page_number g id)) (w.0 (page_number g id)) id number images) geometry here));
      }

  module _ (old mid : Core T V G H) (geometry : geometry_of mid ≡ geometry_of old) (durable : durable_of mid ≡ durable_of old) where
    there : (id : PageId) → HasPage (geometry_of old) id → HasPage (geometry_of mid) id
    there id has = subst (λ (g : Geometry). HasPage g id) (sym geometry) has

    -- What a later step leaves of the volume. A page that it writes has a durable number, so it was in place before the first step.
    may_rewound : (front : List ℕ) (disk left : ℕ → List ℕ) (one : IsRewound old mid front disk) → MayBeLeft (heap_of mid) (durable_of mid) one.left left → MayBeLeft (heap_of old) (durable_of old) disk left
    may_rewound front disk left one two id has = elim here [
      | inl stays ↦ elim (one.may id has) [
        | inl was ↦ inl (stays ∙ was)
        | inr w ↦ inr (w.0, w.1, w.2, w.3, subst (λ (text : List ℕ). IsPageText (geometry_of old).version text id w.0 w.1) (sym stays) w.4)
      ]
      | inr w ↦ elim (one.in_place id has w.0 w.1 w.2) [
        | inl was ↦ inr (w.0, w.1, was, omega (arith, w.3, durable), w.4)
        | inr above ↦ absurd (omega (arith, w.3, durable, above))
      ]
    ]
      where
        here : (left (page_number (geometry_of old) id) ≡ one.left (page_number (geometry_of old) id))
            ⊎ ((number : ℕ) × (images : List Image) × HasInPlace (pool_of (heap_of mid)) one.left id number images × (number ≤ durable_of mid) × IsPageText (geometry_of old).version (left (page_number (geometry_of old) id)) id number images)
        here =
            subst (λ (g : Geometry). (left (page_number g id) ≡ one.left (page_number g id))
            ⊎ ((number : ℕ) × (images : List Image) × HasInPlace (pool_of (heap_of mid)) one.left id number images × (number ≤ durable_of mid) × IsPageText g.version (left (page_number g id)) id number images))
            geometry (two id (there id has))

    -- some steps, and then others
    pub rewinds_then : (new : Core T V G H) → Rewinds old mid → Rewinds mid new → Rewinds old new
    rewinds_then new first second front disk holds =
        let one = first front disk holds in
        let two = second front one.left one.holds in
        record {
          left = two.left;
          holds = two.holds;
          may = may_rewound front disk two.left one two.may;
          in_place = λ id has number images here. elim (two.in_place id (there id has) number images here) [
            | inl was ↦ one.in_place id has number images was
            | inr above ↦ inr (omega (arith, above, durable))
          ];
        }

    pub leaves_rewound : (new : Core T V G H) → MayLeave old mid → Rewinds old mid → MayLeave mid new → MayLeave old new
    leaves_rewound new before first after front disk holds =
        let one = first front disk holds in
        joined (history_of old) (history_of mid) (history_of new) (LeavesPages (heap_of old) (durable_of old) front disk) (before front disk holds)
        (widened (history_of mid) (history_of new) (LeavesPages (heap_of mid) (durable_of mid) front one.left) (LeavesPages (heap_of old) (durable_of old) front disk) (after front one.left one.holds) (λ image leaves. (
          leaves.0,
          subst (λ (g : Geometry). ShowsBehind g front leaves.0 image) geometry leaves.1,
          may_rewound front disk leaves.0 one leaves.2,
        )))

    -- a page that is damaged then was so before
    pub earned_rewound : {A : Type 0} → last_of old ≤ last_of mid → durable_of old ≤ last_of mid → (IsRead : PageId → Type 0) (r : Result A Fault) → Rewinds old mid → Earns mid IsRead r → Earns old IsRead r
    earned_rewound longer told IsRead r first earns front disk holds =
        let one = first front disk holds in
        map_err (IsEarned (geometry_of mid) one.left (last_of mid) IsRead) (IsEarned (geometry_of old) disk (last_of old) IsRead) r (λ f earned device offset is.
        let e = subst (λ (g : Geometry). IsEarned g one.left (last_of mid) IsRead f) geometry earned device offset is in (
          e.0,
          (
            e.1.0,
            e.1.1,
            e.1.2,
            e.1.3,
            none_below (geometry_of old).version (disk (page_number (geometry_of old) e.1.0)) e.1.0 (last_of old) (last_of mid) longer
                (none_there (geometry_of old) (frame_at (heap_of old)) (durable_of old) disk one.left e.1.0 (last_of mid) e.1.2 told one.may e.1.4),
          ),
        ))
        (earns front one.left one.holds)

  -- a force that is needed as the later steps leave the pages
  pub forced_rewound : {A : Type 0} (old mid new : Core T V G H) (r : Result A Fault) → Rewinds old mid → NeedsForceIn mid new r → NeedsForceIn old new r
  forced_rewound old mid new r first needs front disk holds = let one = first front disk holds in needs front one.left one.holds

  -- ---- one change

  module _ (old new : Core T V G H) (mid : Heap V H) (page : PageId) (lsn slot : ℕ) (image : Image)
      (here : frame_at mid (page_number (geometry_of old) page) ≡ option_map (changed lsn slot image) (frame_of (heap_of old) page))
      (others : (k : ℕ) → k ≢ page_number (geometry_of old) page → frame_at mid k ≡ frame_at (heap_of old) k) where
    -- its page has the number of its record then, and all others are in place as they were
    change_placed : (disk : ℕ → List ℕ) (k : ℕ) (id : PageId) (number : ℕ) (images : List Image) → IsPage (geometry_of old).version (frame_at mid k) (disk k) id number images
        → IsPage (geometry_of old).version (frame_at (heap_of old) k) (disk k) id number images ⊎ (lsn ≡ number)
    change_placed disk k id number images is = elim (cases_eq k (page_number (geometry_of old) page)) [
      | inl same ↦ each (frame_at (heap_of old) k) (subst (λ (o : Option Frame). IsPage (geometry_of old).version o (disk k) id number images) (ap (frame_at mid) same ∙ here ∙ ap (λ (n : ℕ). option_map (changed lsn slot image) (frame_at (heap_of old) n)) (sym same)) is)
      | inr other ↦ inl (subst (λ (o : Option Frame). IsPage (geometry_of old).version o (disk k) id number images) (others k other) is)
    ]
      where
        each : (o : Option Frame) → IsPage (geometry_of old).version (option_map (changed lsn slot image) o) (disk k) id number images → IsPage (geometry_of old).version o (disk k) id number images ⊎ (lsn ≡ number)
        each None placed = inl placed
        each (Some f) placed = inr placed.1

    -- .. once the claim of its slot has fallen, too
    pub rewinds_changed : geometry_of new ≡ geometry_of old → durable_of old < lsn → KeepsVolume (heap_of old) mid → KeepsVolume mid (heap_of new)
        → ((disk : ℕ → List ℕ) → SamePages (geometry_of old).version (frame_at mid) disk (frame_at (heap_of new)) disk) → Rewinds old new
    rewinds_changed geometry above first second same front disk holds =
        let one = first front disk holds in
        let two = second front disk one.0 in
        record {
          left = disk;
          holds = two.0;
          may = λ id has. inl refl;
          in_place = λ id has number images placed.
              let k = page_number (geometry_of old) id in
              elim (change_placed disk k id number images ((same disk k id number images).1
              (subst (λ (g : Geometry). IsPage g.version (frame_at (heap_of new) (page_number g id)) (disk (page_number g id)) id number images) geometry placed))) [
                | inl was ↦ inl was
                | inr is ↦ inr (omega (arith, above, is))
              ];
        }
