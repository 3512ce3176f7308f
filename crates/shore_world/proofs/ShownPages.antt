-- What a restart finds over a volume that shows pages as the log speaks of them.
use Rattle.std.proofs.Common.{◌≡◌, ◌⊎◌, ◌<◌, ◌≤◌, ◌+◌, ◌-◌, ◌∷◌, [], ℕ, suc, List, inl, inr, Option, None, Some, length, take, drop, map, refl, sym, ap, subst, ◌∙◌, arith}
use Rattle.std.specs.Prelude.{IfSome, slice_index_or}
use Rattle.std.proofs.lemmas.List.{length-drop}
use Rattle.std.proofs.Math.Seq.{take-length}
use Rattle.shore_types.specs.declared.layout.Geometry.{Geometry}
use Rattle.shore_types.specs.declared.ids.PageId.{PageId}
use Rattle.shore_types.specs.Images.{Image}
use Rattle.shore_types.specs.Layout.{HasPage}
use Rattle.shore_disk.specs.declared.device.Disk.{Ghosts}
use Rattle.shore_analysis.proofs.Answered.{one_or_none}
use Rattle.shore_gate.specs.declared.anchors.Anchor.{Anchor}
use Rattle.shore_model.specs.declared.log_records.LogRecord.{LogRecord}
use Rattle.shore_log.specs.Settled.{IsSettledFrom, cut_of_log, records_of_log, stable}
use Rattle.shore_log.specs.declared.device.LogDev.{LogDev}
use Rattle.shore_page.specs.Slots.{settled}
use Rattle.shore_page.specs.Text.{IsPageText}
use Rattle.shore_dwrite.specs.Shown.{Shows}
use Rattle.shore_dwrite.specs.Volumes.{page_number}
use Rattle.shore_dwrite.specs.declared.places.TheConstants.{GATE_AT}
use Rattle.shore_heap.specs.Contents.{unclaimed}
use Rattle.shore_heap.specs.declared.heap.Heap.{Heap}
use Rattle.shore_heap.specs.Heaps as heaps
use Rattle.laws_room.specs.Claims.{each_from}
use Rattle.laws_runs.specs.SlotCounts.{slot_count}
use Rattle.laws_lives.specs.DirtyPages.{HasAllUpTo, TableCovers}
use Rattle.laws_lives.specs.Pages.{LoggedPages}
use Rattle.laws_lives.specs.Recovery.{IsRecoverable, RecoveryState}
use Rattle.laws_checkpoints.specs.Checkpoints.{Anchored, Checkpoint, TableIsRight, end_among, redo_behind}
use Rattle.laws_checkpoints.specs.KeptLogs.{MayBeCut}
use Rattle.laws_checkpoints.specs.StoresInOrder.{IsCheckpointKept, IsLeftByCrash}
use Rattle.laws_checkpoints.proofs.Crashes.{left_in_order}
use Rattle.laws_checkpoints.proofs.PageTables.{begins_before_sure}
use Rattle.laws_runs.specs.CheckpointedStates.{MayBeOpenedBehind, found_behind}
use Rattle.laws_heaps.specs.HeapRecoveries.{HasRecoveries, recovery_in}
use Rattle.laws_heaps.specs.LoggedHeaps.{AreSettled, AreTextsOf, HasImages, IsStoreOf, LeavesStore}
use Rattle.laws_heaps.proofs.LoggedLeft.{opened_is}
use Rattle.laws_images.specs.StandsBehind.{anchored_by, kept_behind}
use Rattle.shore_restart.specs.Anchors.{EndsBehind, HasCheckpoint}
use Rattle.shore_restart.specs.Standing.{IsAtRest, IsFound}
use Rattle.shore_world.specs.Refusals.{ShowsLogged, cut_behind}
use Rattle.shore_world.proofs.CutRooms.{ends_behind}

-- the images of a page, one for each slot that it has
images_from : (f : ℕ → Image) (first : ℕ) (images : List Image) → ((i : ℕ) → f (first + i) ≡ slice_index_or images i None) → images ≡ each_from f first (length images)
images_from f first [] same = refl
images_from f first (image ∷ images) same =
    let at : first + 0 ≡ first = omega arith in
    ap (λ x. x ∷ images) (sym (same 0) ∙ ap f at)
    ∙ ap (λ l. f first ∷ l) (images_from f (suc first) images (λ i. let on : suc first + i ≡ first + suc i = omega arith in ap f on ∙ same (suc i)))

abbrev pub told_images : List LogRecord → LoggedPages → PageId → List Image
told_images rs pages p = each_from (pages p).slots 0 (slot_count (take (pages p).number rs) p)

told_as : (rs : List LogRecord) (pages : LoggedPages) (p : PageId) (images : List Image) → HasImages rs p (pages p) images → images ≡ told_images rs pages p
told_as rs pages p images has =
    images_from (pages p).slots 0 images (λ i. let at : 0 + i ≡ i = omega arith in ap (pages p).slots at ∙ has.slots i)
    ∙ ap (λ (n : ℕ). each_from (pages p).slots 0 n) has.count

-- so far as redo begins by a table that is right of the pages, each record is on its page
begins_done : (rs : List LogRecord) (pages : LoggedPages) (o : Option Checkpoint) → IfSome o (λ c. TableIsRight rs c.begin c.dirty pages) → (p : PageId) → HasAllUpTo rs p (pages p) (redo_behind o)
begins_done rs pages None right p = λ k r e low. absurd (omega arith)
begins_done rs pages (Some c) right p = λ k r e low. let sure = begins_before_sure c.begin c.dirty p in right p k r e (omega (arith, low, sure))

module _ (g : Geometry) (anchor : Anchor) (kept rs : List LogRecord) (pages : LoggedPages) (image : List ℕ) (logged : ShowsLogged g anchor kept rs pages image) where
  -- the texts of the pages
  abbrev pub texts_shown : ℕ → List ℕ
  texts_shown = logged.shown.0

  -- what a restart begins with
  abbrev pub store_found : RecoveryState
  store_found = (found_behind (anchored_by anchor) rs pages).store

  texts_are : (p : PageId) → HasPage g p → IsPageText g.version (texts_shown (page_number g p)) p (pages p).number (told_images rs pages p)
  texts_are p has =
      let is = logged.shown.2.each p has in
      subst (IsPageText g.version (texts_shown (page_number g p)) p (pages p).number) (told_as rs pages p is.images is.has) is.text

  -- by the geometry that the fronts told
  pub shown_by : (h : Geometry) → h ≡ g → Shows h image texts_shown
  shown_by h same = subst (λ (x : Geometry). Shows x image texts_shown) (sym same) logged.shown.1.1

  pub texts_told : (h : Geometry) → h ≡ g → (p : PageId) → HasPage h p → IsPageText h.version (texts_shown (page_number h p)) p (pages p).number (told_images rs pages p)
  texts_told h same = subst (λ (x : Geometry). (p : PageId) → HasPage x p → IsPageText x.version (texts_shown (page_number x p)) p (pages p).number (told_images rs pages p)) (sym same) texts_are

  recoverable : IsRecoverable store_found
  recoverable = record { durable = omega arith; redone = logged.inside; volume = logged.as_of; ahead = λ p. (logged.as_of p).within; in_place = logged.redo }

  module _ {L V : Type 0} {G : Ghosts L} {H : Ghosts V} (log_front : List ℕ) (log : LogDev L G) (heap : Heap V H) (log_settled : IsSettledFrom anchor.tail anchor.tail_place log log_front)
      (none : log.staged ≡ None) (all : stable log ≡ records_of_log log) (list : records_of_log log ≡ kept) (geometry : heaps.geometry_of heap ≡ g) (frames : (k : ℕ) → heaps.frame_at heap k ≡ None)
      (shows : heaps.Shows unclaimed heap (take GATE_AT image) texts_shown (λ p. map settled (told_images rs pages p))) where
    -- as much is cut off as the anchor says
    pub cut_same : cut_of_log log ≡ cut_behind anchor
    cut_same = ap (λ n. n - 1) log_settled.holds.first

    as_much : length rs ≡ cut_behind anchor + length (stable log)
    as_much =
        let long : length (stable log) ≡ length (kept_behind anchor rs) = ap length (all ∙ list ∙ sym logged.kept_are) in
        let within = logged.within in
        omega (arith, long, within, length-drop (cut_behind anchor) rs)

    at_rest : IsAtRest log_front anchor log store_found
    at_rest = record {
      settled = log_settled;
      none_staged = none;
      records = ap (λ n. drop n rs) cut_same ∙ logged.kept_are ∙ sym list;
      ended = subst (λ n. EndsBehind n rs) (sym cut_same) logged.ended;
      durable = as_much ∙ ap (λ n. n + length (stable log)) (sym cut_same);
    }

    store : IsStoreOf heap texts_shown store_found × AreSettled heap
    store =
        let opened = opened_is heap rs texts_shown pages (subst (λ (x : Geometry). AreTextsOf rs x texts_shown pages) (sym geometry) logged.shown.2) frames in (
          record { volume = opened.0.volume; in_place = opened.0.in_place; inside = opened.0.inside; done = begins_done rs pages (end_among anchor.checkpoint rs) logged.right },
          opened.1,
        )

    -- no page is in a frame, so none is dirty
    clean : HasRecoveries heap (λ p. 0)
    clean = record {
      each = λ p has. sym (ap recovery_in (frames (page_number (heaps.geometry_of heap) p)));
      inside = λ p isnt. refl;
      some = λ k f there. let clash : None ≡ Some f = sym (frames k) ∙ there in absurd cc;
    }

    pub found_over : IsFound log_front (take GATE_AT image) anchor texts_shown log heap store_found
    found_over = record {
      at_rest = at_rest;
      stands = record { store = store.0; settled = store.1; recoverable = recoverable; slots = λ p. map settled (told_images rs pages p); shows = shows };
      clean = clean;
      durable = refl;
      found = logged.found ∙ ap (end_among anchor.checkpoint) (sym list);
      redone = refl;
      kept = subst (λ n. n ≤ redo_behind (end_among anchor.checkpoint rs)) (sym cut_same) logged.begins;
      right = logged.right;
      inside = logged.inside;
    }

-- ---- what stands for a log and pages behind an anchor

module _ (g : Geometry) (ring_bytes : ℕ) (anchor : Anchor) (rs : List LogRecord) (pages : LoggedPages) (may : MayBeOpenedBehind g ring_bytes (anchored_by anchor) rs pages) where
  pub left : IsLeftByCrash (anchored_by anchor) rs pages
  left =
      subst (λ (l : List LogRecord). IsLeftByCrash (anchored_by anchor) l pages) (take-length rs)
      (left_in_order (found_behind (anchored_by anchor) rs pages) may.in_order (length rs) pages (omega arith) (omega arith) (λ p. inl refl))

  -- nothing is cut off that is wanted
  pub cut_found : MayBeCut rs pages (cut_behind anchor)
  cut_found = left.may

  pub ends_found : EndsBehind (cut_behind anchor) rs
  ends_found = ends_behind rs may.opened.lawful pages (cut_behind anchor) left.may

  pub shows_logged : (image : List ℕ) → LeavesStore rs g (take GATE_AT image) pages image → ShowsLogged g anchor (kept_behind anchor rs) rs pages image
  shows_logged image shown = record {
    within = left.may.within;
    kept_are = refl;
    shown = shown;
    as_of = may.opened.as_of;
    ended = ends_found;
    found = sym left.found;
    right = rights (end_among anchor.checkpoint rs) left.right;
    begins = left.behind;
    inside = may.in_order.recoverable.redone;
    redo = left.redo;
  }
    where
      rights : (o : Option Checkpoint) → IfSome o (λ c. TableIsRight rs c.begin c.dirty pages × TableCovers rs c.begin c.dirty pages) → IfSome o (λ c. TableIsRight rs c.begin c.dirty pages)
      rights None both = tt
      rights (Some c) both = both.0

  -- the begin of the anchored checkpoint is kept
  pub begin_kept : (anchor.checkpoint ≡ 0) ⊎ (cut_behind anchor < anchor.checkpoint)
  begin_kept = elim left.kept [
    | inl none ↦ inl (ap (λ (a : Anchored). a.checkpoint) none)
    | inr kept ↦ elim (one_or_none anchor.checkpoint) [
      | inl none ↦ inl none
      | inr some ↦ inr (let inside = kept.inside in omega (arith, inside, some))
    ]
  ]

  -- .. which is there then, with its End
  pub has_checkpoint : 1 ≤ anchor.tail → HasCheckpoint (cut_behind anchor) anchor.checkpoint (kept_behind anchor rs)
  has_checkpoint some = elim left.kept [
    | inl none ↦ inl (ap (λ (a : Anchored). a.checkpoint) none)
    | inr kept ↦ inr (subst (λ n. IsCheckpointKept (record { checkpoint = anchor.checkpoint; tail = n }) (kept_behind anchor rs)) (let same : anchor.tail ≡ cut_behind anchor + 1 = omega (arith, some) in same) kept)
  ]
