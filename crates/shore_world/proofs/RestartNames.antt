-- What a restart that is refused names.
use Rattle.std.proofs.Common.{◌≡◌, ◌≢◌, ◌⊎◌, ◌+◌, ◌<◌, ◌≤◌, ℕ, List, [], Option, Some, None, inl, inr, refl, sym, subst, ◌∙◌, length, arith}
use Rattle.shore_types.specs.declared.faults.Device.TheVariants as device
use Rattle.shore_types.specs.declared.faults.Fault.{Fault}
use Rattle.shore_types.specs.declared.faults.Fault.TheVariants as fault
use Rattle.shore_types.specs.declared.layout.Geometry.{Geometry}
use Rattle.shore_gate.specs.Anchor.{offset_of}
use Rattle.shore_gate.specs.Checks.{IsFromOutside}
use Rattle.shore_gate.specs.declared.anchors.Anchor.{Anchor}
use Rattle.shore_gate.specs.declared.anchors.Anchors.{Anchors}
use Rattle.shore_disk.specs.Device.{DeviceHistory, seen}
use Rattle.shore_disk.specs.declared.device.Disk.{Ghosts}
use Rattle.shore_dwrite.specs.Settled as settled_device
use Rattle.shore_dwrite.specs.Shown.{Shows}
use Rattle.shore_dwrite.specs.declared.device.PageDev.{PageDev}
use Rattle.shore_dwrite.specs.Volumes.{HasNoPage, page_number}
use Rattle.shore_pool.specs.Pages.{IsPage}
use Rattle.shore_pool.specs.Pools as pools
use Rattle.shore_pool.specs.declared.amid.Amid.TheVariants as amid
use Rattle.shore_pool.proofs.UnderWay.{held_none, rests_at}
use Rattle.shore_pool.specs.declared.frame.Frame.{Frame}
use Rattle.shore_heap.specs.declared.heap.Heap.{Heap}
use Rattle.shore_heap.specs.Heaps as heaps
use Rattle.shore_frames.specs.Offsets.{IsFrameOf}
use Rattle.shore_model.specs.declared.log_records.LogRecord.{LogRecord}
use Rattle.laws_lives.specs.Pages.{LoggedPages}
use Rattle.shore_analysis.specs.Padded.{padded}
use Rattle.shore_analysis.proofs.Padding.{length_padded}
use Rattle.shore_restart.specs.declared.errors.RestartError.{RestartError}
use Rattle.shore_restart.specs.declared.errors.RestartError.TheVariants as error
use Rattle.shore_restart.specs.Anchors.{HasCheckpoint}
use Rattle.shore_restart.specs.AnyPages.{IsBadOn, MayRead}
use Rattle.shore_restart.specs.Held.{IsHeld, IsPageFault}
use Rattle.shore_restart.specs.Doubts.{IsRefusedBy, IsTaken}
use Rattle.shore_restart.specs.Turns.{IsBadRecord, IsMisfit, LacksRoom}
use Rattle.shore_restart.proofs.DoubtLaws.{taken_or_refused}
use Rattle.shore_world.specs.Refusals.{IsNamedFor, NamesAnchor, NamesPage, NamesRecord, ShowsLogged, cut_behind}

-- a heap with no page in a frame, over a volume that is settled
pub held_empty : {V : Type 0} {H : Ghosts V} (front : List ℕ) (disk : ℕ → List ℕ) (heap : Heap V H) (dev : PageDev V H) (last : ℕ) → heaps.device_of heap ≡ dev → ((k : ℕ) → heaps.frame_at heap k ≡ None)
    → heaps.amid_of heap ≡ amid.Rest → settled_device.IsSettled dev front disk → IsHeld front disk disk heap [] last
held_empty front disk heap dev last same none rests settled = record {
  holds = record {
    settled = rests_at (heaps.amid_of heap) (heaps.device_of heap) front disk (pools.batch_of (heaps.pool_of heap)) (pools.batch_texts_of (heaps.pool_of heap)) rests
        (subst (λ d. settled_device.IsSettled d front disk) (sym same) settled);
    held = held_none _ (heaps.amid_of heap) (heaps.frame_at heap) (pools.batch_of (heaps.pool_of heap)) (pools.batch_texts_of (heaps.pool_of heap)) rests;
    written = λ k f there clean. absurd (no_frame k f there);
  };
  low = λ k f there. absurd (no_frame k f there);
  settled = λ k f there. absurd (no_frame k f there);
  made = λ p page there is. record {
    was = page;
    read = subst (λ (o : Option Frame). IsPage (heaps.geometry_of heap).version o (disk (page_number (heaps.geometry_of heap) p)) p page.number page.images) (none (page_number (heaps.geometry_of heap) p)) is;
    redone = refl;
  };
}
  where
    no_frame : (k : ℕ) (f : Frame) → heaps.frame_at heap k ≡ Some f → ⊥
    no_frame k f there = let clash : None ≡ Some f = sym (none k) ∙ there in cc

-- ---- as the log is judged first

abbrev pub IsJudged : Geometry → ℕ → ℕ → List LogRecord → RestartError → Type 0
IsJudged g cut checkpoint kept e = ((e ≡ error.BadAnchor) × (HasCheckpoint cut checkpoint kept → ⊥))
    ⊎ (HasCheckpoint cut checkpoint kept × (e ≢ error.BadAnchor) × (IsTaken g cut checkpoint kept ⊎ ((n : ℕ) × (e ≡ error.BadRecord n) × IsRefusedBy g cut checkpoint kept n)))

module _ (g : Geometry) (cut checkpoint : ℕ) (kept : List LogRecord) (e : RestartError) where
  -- the anchor is named only if its checkpoint is not there
  pub anchor_lost : IsJudged g cut checkpoint kept e → e ≡ error.BadAnchor → HasCheckpoint cut checkpoint kept → ⊥
  anchor_lost (inl (is, lost)) same has = lost has
  anchor_lost (inr (its, isnt, rest)) same has = isnt same

  -- another error that is of no record comes behind that
  judged_taken : IsJudged g cut checkpoint kept e → e ≢ error.BadAnchor → ((n : ℕ) → e ≢ error.BadRecord n) → HasCheckpoint cut checkpoint kept × IsTaken g cut checkpoint kept
  judged_taken (inl (is, lost)) isnt none = absurd (isnt is)
  judged_taken (inr (its, isnt, inl taken)) other none = (its, taken)
  judged_taken (inr (its, isnt, inr (n, is, refused))) other none = absurd (none n is)

-- a record is named for what it says of itself, or over the pages as they are, and as any log would have it
pub named_for : (g : Geometry) (anchor : Anchor) (kept : List LogRecord) (volume : DeviceHistory) (texts : ℕ → List ℕ) (n : ℕ) → Shows g (seen volume) texts
    → IsBadOn g texts (cut_behind anchor) anchor.checkpoint kept n
    → ((rs : List LogRecord) (pages : LoggedPages) → ShowsLogged g anchor kept rs pages (seen volume) → IsBadRecord g (cut_behind anchor) anchor.checkpoint kept rs n) → IsNamedFor g anchor kept volume n
named_for g anchor kept volume texts n shows (inl refused) bad = inl refused
named_for g anchor kept volume texts n shows (inr (taken, misfit)) bad = inr (taken, (texts, shows, misfit), λ rs pages logged. misfits rs (bad rs pages logged))
  where
    misfits : (rs : List LogRecord) → IsBadRecord g (cut_behind anchor) anchor.checkpoint kept rs n → IsMisfit g.version rs n
    misfits rs (inl refused) = absurd (taken_or_refused g (cut_behind anchor) anchor.checkpoint kept n taken refused)
    misfits rs (inr (also, its)) = its

-- ---- what the error of a restart tells

-- Of what is kept behind so many, over pages of these texts; and of each whole log of which this holds.
pub record IsTold (g : Geometry) (cut checkpoint : ℕ) (kept : List LogRecord) (stream_bytes : ℕ) (texts : ℕ → List ℕ) (Holds : List LogRecord → Type 0) (e : RestartError) : Type 0 where
  pub judged : e ≢ error.Memory → IsJudged g cut checkpoint kept e
  pub lacks : e ≡ error.NoRoom → LacksRoom cut kept stream_bytes
  pub within : (n : ℕ) → e ≡ error.BadRecord n → (cut < n) × (n ≤ length (padded cut kept))
  pub page : (h : Fault) → e ≡ error.Page h → IsPageFault g (MayRead cut checkpoint kept) texts (length (padded cut kept)) h
  pub bad : (n : ℕ) → e ≡ error.BadRecord n → IsBadOn g texts cut checkpoint kept n
  pub every : (rs : List LogRecord) → Holds rs → (n : ℕ) → e ≡ error.BadRecord n → IsBadRecord g cut checkpoint kept rs n

-- by the error, and by the fault that it is told as
module _ (g : Geometry) (counting : Anchors) (kept : List LogRecord) (stream_bytes : ℕ) (volume left : DeviceHistory) (pages : ℕ → List ℕ) (shows : Shows g (seen volume) pages) (some : 1 ≤ counting.anchor.tail) where
  abbrev pub HasLogged : List LogRecord → Type 0
  HasLogged rs = (its : LoggedPages) × ShowsLogged g counting.anchor kept rs its (seen volume)

  abbrev cut : ℕ
  cut = cut_behind counting.anchor

  abbrev IsToldHere : RestartError → Type 0
  IsToldHere e = IsTold g cut counting.anchor.checkpoint kept stream_bytes pages HasLogged e

  abbrev Names : Fault → Type 0
  Names f = NamesRecord g counting.anchor kept volume left f ⊎ NamesAnchor g counting kept stream_bytes f ⊎ NamesPage g counting.anchor kept volume f

  taken_of : (e : RestartError) → IsToldHere e → e ≢ error.Memory → e ≢ error.BadAnchor → ((n : ℕ) → e ≢ error.BadRecord n) → HasCheckpoint cut counting.anchor.checkpoint kept × IsTaken g cut counting.anchor.checkpoint kept
  taken_of e told isnt other none = judged_taken g cut counting.anchor.checkpoint kept e (told.judged isnt) other none

  names : (e : RestartError) (f : Fault) → (IsFromOutside f → ⊥) → IsToldHere e → ((h : Fault) → e ≡ error.Log h → h ≡ fault.Device)
      → (e ≡ error.Memory → f ≡ fault.Memory) → ((e ≡ error.NoRoom) ⊎ (e ≡ error.BadAnchor) → f ≡ fault.Damaged device.Log (offset_of counting.slot))
      → ((n : ℕ) → e ≡ error.BadRecord n → (offset : ℕ) × (f ≡ fault.Damaged device.Log offset)
      × (counting.anchor.tail ≤ n → n ≤ cut + length kept → IsFrameOf counting.anchor.tail counting.anchor.tail_place (seen left) n offset))
      → ((h : Fault) → e ≡ error.Page h → f ≡ h) → ((h : Fault) → e ≡ error.Log h → f ≡ h) → Names f
  names error.Memory f isnt told force memory anchor record_of on_page on_log = absurd (isnt (inr (memory refl)))
  names error.NoRoom f isnt told force memory anchor record_of on_page on_log =
      let t = taken_of error.NoRoom told (λ is. cc) (λ is. cc) (λ n is. cc) in
      inr (inl (anchor (inl refl), inr (t.0, t.1, told.lacks refl)))
  names error.BadAnchor f isnt told force memory anchor record_of on_page on_log =
      inr (inl (anchor (inr refl), inl (anchor_lost g cut counting.anchor.checkpoint kept error.BadAnchor (told.judged (λ is. cc)) refl)))
  names (error.BadRecord n) f isnt told force memory anchor record_of on_page on_log =
      let r = record_of n refl in
      let w = told.within n refl in
      let least : counting.anchor.tail ≤ n = omega (arith, w.0, some) in
      let most : n ≤ cut + length kept = omega (arith, w.1, length_padded cut kept) in
      inl (n, r.0, least, most, r.1, r.2 least most, named_for g counting.anchor kept volume pages n shows (told.bad n refl) (λ rs its logged. told.every rs (its, logged) n refl))
  names (error.Page h) f isnt told force memory anchor record_of on_page on_log = elim (told.page h refl) [
    | inl device ↦ absurd (isnt (inl (on_page h refl ∙ device)))
    | inr (id, there, read, is, none) ↦ inr (inr (
      (taken_of (error.Page h) told (λ is. cc) (λ is. cc) (λ n is. cc)).1,
      pages,
      shows,
      (id, there, read, on_page h refl ∙ is, subst (λ n. HasNoPage g.version (pages (page_number g id)) id n) (length_padded cut kept) none),
    ))
  ]
  names (error.Log h) f isnt told force memory anchor record_of on_page on_log = absurd (isnt (inl (on_log h refl ∙ force h refl)))

  -- .. where the heap has this geometry and the log device has cut off so many
  pub names_of : (h : Geometry) → h ≡ g → (n : ℕ) → n ≡ cut → (e : RestartError) → IsTold h n counting.anchor.checkpoint kept stream_bytes pages HasLogged e → (f : Fault) → (IsFromOutside f → ⊥)
      → ((h : Fault) → e ≡ error.Log h → h ≡ fault.Device)
      → (e ≡ error.Memory → f ≡ fault.Memory) → ((e ≡ error.NoRoom) ⊎ (e ≡ error.BadAnchor) → f ≡ fault.Damaged device.Log (offset_of counting.slot))
      → ((n : ℕ) → e ≡ error.BadRecord n → (offset : ℕ) × (f ≡ fault.Damaged device.Log offset)
      × (counting.anchor.tail ≤ n → n ≤ cut + length kept → IsFrameOf counting.anchor.tail counting.anchor.tail_place (seen left) n offset))
      → ((h : Fault) → e ≡ error.Page h → f ≡ h) → ((h : Fault) → e ≡ error.Log h → f ≡ h) → Names f
  names_of h geometry n cuts e told f isnt =
      names e f isnt (subst (λ (x : Geometry). IsTold x cut counting.anchor.checkpoint kept stream_bytes pages HasLogged e) geometry
      (subst (λ k. IsTold h k counting.anchor.checkpoint kept stream_bytes pages HasLogged e) cuts told))
